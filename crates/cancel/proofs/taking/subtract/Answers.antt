use Rattle.std.proofs.Common.{arith}
use Rattle.cancel.proofs.InRecording.{answer_is_loaded, answer_is_clean}
use Rattle.cancel.proofs.taking.subtract.Goals as goal

pub returns-clause-loaded : goal.returns-clause-loaded
returns-clause-loaded c =
    let long = c.if-prove.false in
    let count = c.len-count.ensures.value in
    answer_is_loaded c.args.recording.now c.args.cell.now c.args.start c.args.sfn c.subtract_from.result (omega (arith, long, count)) c.subtract_from.ensures

pub returns-clause-clean : goal.returns-clause-clean
returns-clause-clean c = answer_is_clean c.args.recording.now c.args.cell.now c.args.start c.args.sfn c.subtract_from.result (returns-clause-loaded c)
