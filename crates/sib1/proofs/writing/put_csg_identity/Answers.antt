use Rattle.std.proofs.Common.{ap}
use Rattle.std.specs.Prelude.{is_some}
use Rattle.uper.specs.Grammar.{from_to}
use Rattle.uper.proofs.Putting.{none_puts}
use Rattle.sib1.proofs.Blocks.{csg_puts}
use Rattle.sib1.proofs.writing.put_csg_identity.Goals as goal

pub returns-in-Some : goal.returns-in-Some
returns-in-Some c = csg_puts c.args.identity c.in-Some.number c.args.sheet.now c.put.new.self c.in-Some.is c.requires c.put.ensures.puts

pub returns-in_default : goal.returns-in_default
returns-in_default c = none_puts (from_to 27 0 134217727) c.args.identity c.args.sheet.now (ap is_some c.in_default.is)
