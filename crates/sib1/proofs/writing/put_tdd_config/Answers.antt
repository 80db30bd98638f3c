use Rattle.std.proofs.Common.{ap}
use Rattle.std.specs.Prelude.{is_some}
use Rattle.sib1.specs.Layout.{tdd_config}
use Rattle.uper.proofs.Putting.{none_puts}
use Rattle.sib1.proofs.Blocks.{tdd_puts}
use Rattle.sib1.proofs.writing.put_tdd_config.Goals as goal

pub returns-in-Some : goal.returns-in-Some
returns-in-Some c = tdd_puts c.args.value c.in-Some.assignment c.in-Some.patterns c.args.sheet.now c.put.new.self c.put-in-Some.new.self c.in-Some.is c.requires c.put.ensures.puts c.put-in-Some.ensures.puts

pub returns-in_default : goal.returns-in_default
returns-in_default c = none_puts (tdd_config) c.args.value c.args.sheet.now (ap is_some c.in_default.is)
