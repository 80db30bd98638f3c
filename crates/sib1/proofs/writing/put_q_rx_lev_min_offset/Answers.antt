use Rattle.std.proofs.Common.{ap}
use Rattle.std.specs.Prelude.{is_some}
use Rattle.sib1.specs.Layout.{q_rx_lev_min_offset}
use Rattle.uper.proofs.Putting.{none_puts}
use Rattle.sib1.proofs.Blocks.{offset_puts}
use Rattle.sib1.proofs.writing.put_q_rx_lev_min_offset.Goals as goal

pub returns-in-Some : goal.returns-in-Some
returns-in-Some c = offset_puts c.args.value c.in-Some.number c.args.sheet.now c.put.new.self c.in-Some.is c.requires c.put.ensures.puts

pub returns-in_default : goal.returns-in_default
returns-in_default c = none_puts (q_rx_lev_min_offset) c.args.value c.args.sheet.now (ap is_some c.in_default.is)
