use Rattle.std.proofs.Common.{arith, ◌≡◌, ◌⊎◌, ◌/◌}
use Rattle.std.proofs.lemmas.Bool.Decides.{nat_tests}
use Rattle.crs.specs.Reference.{first_subcarrier, is_reference}
use Rattle.soft_bits.specs.Soft.{pilot_subcarrier, pattern_symbol}
use Rattle.soft_bits.proofs.pilots.pilots_are_the_reference_places.Goals as goal

pub returns-clause-each : goal.returns-clause-each
unfolding first_subcarrier is_reference pattern_symbol
returns-clause-each c identity i = grind (arith, nat_tests)

pub returns-clause-found : goal.returns-clause-found
unfolding first_subcarrier is_reference pattern_symbol
returns-clause-found c identity symbol k few is =
    let one : (symbol ≡ 0) ⊎ (symbol ≡ 4) = grind (arith, nat_tests) in
    let place : k ≡ pilot_subcarrier identity (k / 3) = grind (arith, nat_tests) in
    (omega arith, place, grind (arith, nat_tests))
