use Rattle.std.proofs.Common.{ap, rules, w8, FitsSigned, ◌∙◌}
use Rattle.std.proofs.lemmas.Int.{to_z-of_z}
use Rattle.std.specs.Prelude.{is_some}
use Rattle.sib1.specs.Layout.{p_max}
use Rattle.uper.proofs.Putting.{none_puts}
use Rattle.sib1.proofs.Blocks.{power_puts}
use Rattle.sib1.proofs.writing.put_p_max.Goals as goal

pub returns-in-Some : goal.returns-in-Some
returns-in-Some c =
    let fits : FitsSigned w8 c.in-Some.level = search rules in
    power_puts c.args.value c.in-Some.level c.number_of_p_max.result c.args.sheet.now c.put.new.self c.in-Some.is (c.number_of_p_max.ensures.is ∙ to_z-of_z w8 c.in-Some.level fits) c.number_of_p_max.ensures.bound c.put.ensures.puts

pub returns-in_default : goal.returns-in_default
returns-in_default c = none_puts (p_max) c.args.value c.args.sheet.now (ap is_some c.in_default.is)
