use Rattle.std.proofs.Common.{◌≡◌, ◌≤◌, ℕ, nat_abs, w16, w32, pos, slice_index_or, arith, refl, ◌∙◌, ap}
use Rattle.std.proofs.lemmas.Int.{to_z-of_z, fits_signed_from_abs}
use Rattle.std.proofs.lemmas.List.Elements.{All-get_or}
use Rattle.finite.specs.Sums.{total_below}
use Rattle.finite.proofs.Sums.{total_below_more}
use Rattle.cs_bits.specs.Signs.{disagreement}
use Rattle.cs_bits.proofs.Signs.{disagreement-le}
use Rattle.grid_map.specs.Scrambling.{indicator_bit}
use Rattle.pcfich.specs.Indicator.{cost}
use Rattle.pcfich.proofs.least.cost_of.Goals as goal

pub loop-i-init : goal.loop-i-init
unfolding total_below
loop-i-init c = record { so_far = refl; small = omega arith }

pub loop-i-preserved : goal.loop-i-preserved
loop-i-preserved c =
    let one : ℕ → ℕ = λ i. disagreement (slice_index_or c.args.values.now i (pos 0)) (indicator_bit c.args.indicator i) in
    let before = c.loop-i.invariant.so_far in
    let small = c.loop-i.invariant.small in
    let few = All-get_or (λ value. nat_abs value ≤ 127) c.args.values.now c.loop-i.i (pos 0) (omega arith) c.requires.magnitudes in
    let value = slice_index_or c.args.values.now c.loop-i.i (pos 0) in
    let kept = to_z-of_z w16 value (fits_signed_from_abs w16 value (omega (arith, few))) in
    let widened = to_z-of_z w32 value (fits_signed_from_abs w32 value (omega (arith, few))) in
    let here = rw (kept, widened, c.indicator_bit.ensures) at c.disagreement_of-cost.ensures in
    let bound = disagreement-le value (indicator_bit c.args.indicator c.loop-i.i) in
    let more = total_below_more c.loop-i.i one in
    record { so_far = cc; small = omega arith }

pub returns : goal.returns
unfolding cost
returns c =
    let last : c.loop-i.i ≡ 32 = omega arith in
    c.loop-i.invariant.so_far ∙ ap (λ n. total_below n (λ i. disagreement (slice_index_or c.args.values.now i (pos 0)) (indicator_bit c.args.indicator i))) last
