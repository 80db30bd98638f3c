use Rattle.std.proofs.Common.{◌≡◌, ◌<◌, ◌^◌, ℤ, pos, negsuc, Ok, ap, sym, subst, ◌∙◌, arith}
use Rattle.std.specs.Prelude.{FitsSigned}
use Rattle.std.specs.Fmt.{signed_decimal}
use Rattle.std.specs.Int.{w16}
use Rattle.std.specs.Int.Signed.{mag}
use Rattle.std.proofs.lemmas.Fmt.{parse-signed_decimal}
use Rattle.std.proofs.lemmas.Int.{ints, to_z-of_z}
use Rattle.lte_args.specs.Words.{IsTurn}
use Rattle.lte_args.proofs.numbers.steps_of.Goals as goal

-- a phase step fits in 16 bits
fits : (m : ℤ) → IsTurn m → FitsSigned w16 m
fits (pos n) within = let high = within.1 in omega (arith, ints, high)
fits (negsuc n) within = let low = within.0 in omega (arith, ints, low)

small : (m : ℤ) → IsTurn m → mag m < 2 ^ 63
small (pos n) within = let high = within.1 in omega (arith, ints, high)
small (negsuc n) within = let low = within.0 in omega (arith, ints, low)

pub returns-in-Ok-clause-none : goal.returns-in-Ok-clause-none
returns-in-Ok-clause-none c none m within is =
    let read : c.parse.result ≡ Ok m = parse-signed_decimal w16 m c.args.text.now c.parse.result (fits m within) (small m within) is c.parse.ensures.value.0 in
    let same : c.in-Ok.m ≡ m = cc (sym c.in-Ok.is ∙ read) in
    let decoded = to_z-of_z w16 c.in-Ok.m (subst (FitsSigned w16) (sym same) (fits m within)) ∙ same in
    c.exact_steps.ensures.none none (subst IsTurn (sym decoded) within) (is ∙ ap signed_decimal (sym decoded))

pub returns-in-Err-clause-none : goal.returns-in-Err-clause-none
returns-in-Err-clause-none c none m within is =
    let read : c.parse.result ≡ Ok m = parse-signed_decimal w16 m c.args.text.now c.parse.result (fits m within) (small m within) is c.parse.ensures.value.0 in
    absurd (cc (sym c.in-Err.is ∙ read))
