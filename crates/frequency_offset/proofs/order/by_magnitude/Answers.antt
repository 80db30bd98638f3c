use Rattle.std.proofs.Common.{◌≡◌, ◌/◌, ◌∙◌, arith, sym, pos, negsuc, w16, to_z, of_z, ◌-ℤ◌}
use Rattle.std.proofs.lemmas.Int.{ints}
use Rattle.frequency_offset.proofs.ByMagnitude.{by_magnitude_even, by_magnitude_odd}
use Rattle.frequency_offset.proofs.order.by_magnitude.Goals as goal

pub returns-then-k-eq0-clause-value : goal.returns-then-k-eq0-clause-value
returns-then-k-eq0-clause-value c =
    let e : to_z w16 (c.args.k / 2) ≡ pos (c.args.k / 2) = omega (arith, ints) in
    e ∙ sym (by_magnitude_even c.args.k c.if-k-eq0.true)

pub returns-else-k-eq0-clause-value : goal.returns-else-k-eq0-clause-value
returns-else-k-eq0-clause-value c =
    let e : to_z w16 (of_z w16 (negsuc 0 -ℤ to_z w16 (c.args.k / 2))) ≡ negsuc (c.args.k / 2) = omega (arith, ints) in
    e ∙ sym (by_magnitude_odd c.args.k c.if-k-eq0.false)
