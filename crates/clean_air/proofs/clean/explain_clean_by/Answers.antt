use Rattle.std.proofs.Common.{arith}
use Rattle.clean_air.proofs.Held.{is_list_by}
use Rattle.clean_air.proofs.clean.explain_clean_by.Goals as goal

pub returns-clause-list : goal.returns-clause-list
returns-clause-list g c =
    is_list_by g.F.FrameReader.receiver c.holds_cells.ensures c.args.recording.now c.list_by.new.list (omega (arith, c.if-prove.false, c.len-count.ensures.value)) c.list_by.ensures.list
