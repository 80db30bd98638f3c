use Rattle.std.proofs.Common.{◌≡◌, length, ap, subst, rules}
use Rattle.std.specs.Prelude.{is_some}
use Rattle.uper.specs.Grammar.{times}
use Rattle.sib1.specs.Layout.{digit}
use Rattle.uper.specs.Sheet.{Puts}
use Rattle.uper.proofs.Putting.{some_puts, none_puts}
use Rattle.sib1.proofs.write_plmns.put_mcc.Goals as goal

pub returns-in-Some : goal.returns-in-Some
returns-in-Some c =
    let size : length c.in-Some.digits ≡ 3 = search rules in
    some_puts (times 3 digit) c.args.code.now c.in-Some.digits c.args.sheet.now c.put_digits.new.sheet c.in-Some.is
    (subst (λ n. Puts (times n digit) c.in-Some.digits c.args.sheet.now c.put_digits.new.sheet) size c.put_digits.ensures)

pub returns-in_default : goal.returns-in_default
returns-in_default c = none_puts (times 3 digit) c.args.code.now c.args.sheet.now (ap is_some c.in_default.is)
