use Rattle.std.proofs.Common.{true, arith, ap, sym, ◌∙◌, ◌≡◌, ◌/◌, ◌%◌, eq-eqb, eqb-true}
use Rattle.std.proofs.lemmas.Bool.Decides.{nat_tests}
use Rattle.crs.specs.Reference.{first_subcarrier, subcarrier, is_reference, reference_at, reference}
use Rattle.crs.proofs.Spacing.{lower_third, lower_apart}
use Rattle.crs.proofs.Values.{reference-IsPoint}
use Rattle.crs.proofs.reference_places.Goals as goal

pub returns-clause-inside : goal.returns-clause-inside
unfolding first_subcarrier
returns-clause-inside c identity symbol m few = omega arith

pub returns-clause-each : goal.returns-clause-each
unfolding first_subcarrier is_reference
returns-clause-each c identity symbol m one = grind (arith, nat_tests)

pub returns-clause-found : goal.returns-clause-found
unfolding first_subcarrier is_reference
returns-clause-found c identity symbol k is = grind (arith, nat_tests)

pub returns-clause-value : goal.returns-clause-value
unfolding first_subcarrier reference_at
returns-clause-value c identity slot symbol m =
    let number : subcarrier identity symbol m / 6 ≡ m = omega arith in
    ap (reference identity slot symbol) number

pub returns-clause-full : goal.returns-clause-full
returns-clause-full c identity slot symbol m = reference-IsPoint identity slot symbol m

pub returns-clause-third : goal.returns-clause-third
unfolding first_subcarrier is_reference
returns-clause-third c identity k =
    let both = lower_third true identity k in
    (λ e. eqb-true (k % 3) (identity % 3) (sym both ∙ e), λ e. both ∙ eq-eqb (k % 3) (identity % 3) e)

pub returns-clause-never_both : goal.returns-clause-never_both
unfolding first_subcarrier is_reference
returns-clause-never_both c identity k = lower_apart true true identity k

pub returns-clause-symbols : goal.returns-clause-symbols
unfolding is_reference
returns-clause-symbols c identity symbol k is = grind (arith, nat_tests)
