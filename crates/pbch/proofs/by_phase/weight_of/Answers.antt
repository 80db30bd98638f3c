use Rattle.std.proofs.Common.{◌≡◌, ℕ, ◌<◌, ◌≤◌, pos, nat_abs, get_or, to_z, of_z, w32, arith, ap, ◌∙◌}
use Rattle.std.proofs.lemmas.List.Elements.{All-get_or}
use Rattle.std.proofs.lemmas.Int.{fits_signed_from_abs}
use Rattle.std.proofs.lemmas.Int.{to_z-of_z}
use Rattle.finite.specs.Sums.{total_below}
use Rattle.pbch.proofs.by_phase.weight_of.Goals as goal

pub returns-clause-value : goal.returns-clause-value
unfolding total_below
returns-clause-value c =
    let place = c.args.place.now in
    let whole = c.told-place in
    let small : (t : ℕ) → t < 3 → nat_abs (get_or place t (pos 0)) ≤ 1048576 =
    λ t below. All-get_or (λ z. nat_abs z ≤ 1048576) place t (pos 0) (omega (arith, whole, below)) c.requires in
    let kept : (t : ℕ) → t < 3 → to_z w32 (of_z w32 (get_or place t (pos 0))) ≡ get_or place t (pos 0) =
    λ t below. to_z-of_z w32 (get_or place t (pos 0)) (fits_signed_from_abs w32 _ (let few = small t below in omega (arith, few))) in
    let first = c.unsigned_abs.ensures.value ∙ ap nat_abs (kept 0 (omega arith)) in
    let second = c.unsigned_abs-2.ensures.value ∙ ap nat_abs (kept 1 (omega arith)) in
    let third = c.unsigned_abs-3.ensures.value ∙ ap nat_abs (kept 2 (omega arith)) in
    omega (arith, first, second, third)
