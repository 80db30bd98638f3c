use Rattle.std.proofs.Common.{◌≡◌, ◌∙◌, ap, sym, arith}
use Rattle.std.specs.Str.Parse.{digits_value}
use Rattle.std.proofs.lemmas.Fmt.{decimal_is_IsNumeral}
use Rattle.lte_args.proofs.numbers.identity_of.Goals as goal

pub returns-else-n-le503-clause-none : goal.returns-else-n-le503-clause-none
returns-else-n-le503-clause-none c none n small is =
    let read = (decimal_is_IsNumeral c.in_ok-n.n (omega arith)).1 in
    let other = (decimal_is_IsNumeral n (omega (arith, small))).1 in
    let same : c.in_ok-n.n ≡ n = sym read ∙ ap (digits_value 10) (sym c.in_ok-n.ensures.some ∙ is) ∙ other in
    let above = c.if-n-le503.false in
    absurd (omega (arith, same, small, above))
