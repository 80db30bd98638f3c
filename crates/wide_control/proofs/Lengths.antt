-- Lengths of lists of soft values, and of PDCCH groups.
use Rattle.std.proofs.Common.{◌≡◌, ℕ, zero, suc, ◌*◌, ◌/◌, ◌<◌, List, length, refl, inl, inr, arith, length-append}
use Rattle.std.proofs.lemmas.Bool.Decides.{eqb_tells}
use Rattle.finite.specs.Lists.{joined_below}
use Rattle.finite.proofs.Lists.{values_below-length}
use Rattle.wide_cell.specs.Cell.{Cell}
use Rattle.wide_cell.specs.declared.place.WidePlace.{WidePlace}
use Rattle.wide_grid.specs.Control.{pdcch_groups, quadruplet_group, quadruplet_groups}
use Rattle.wide_slot.specs.Slot.{WideSeen}
use Rattle.wide_slot.specs.Values.{place_values, pair_values, single_at, paired_at, placed_values}
use Rattle.wide_control.specs.Values.{ordered_groups}

-- n lists with k items each, concatenated
pub length-joined : {A : Type 0} (n k : ℕ) (f : ℕ → List A) → ((i : ℕ) → i < n → length (f i) ≡ k) →
    length (joined_below n f) ≡ k * n
unfolding joined_below
length-joined zero k f each = omega arith
length-joined (suc n) k f each =
    let before = length-joined n k f (λ i below. each i (omega (arith, below))) in
    let here = each n (omega arith) in
    let both = length-append (joined_below n f) (f n) in
    omega (arith, before, here, both)

-- two soft values for each of an even number of elements
pub length-placed : (first second : WideSeen) (places : List WidePlace) (n : ℕ) → length places ≡ 2 * n →
    length (placed_values first second places) ≡ 4 * n
unfolding placed_values place_values pair_values
length-placed first second places n even = elim (eqb_tells first.cell.ports 1) [
  | inl (t, same) ↦ rw t (let h = length-joined (length places) 2 (single_at first second places) (λ i below. refl) in omega (arith, h, even))
  | inr (f, other) ↦ rw f (let h = length-joined (length places / 2) 4 (paired_at first second places) (λ i below. refl) in omega (arith, h, even))
]

-- as many groups in quadruplet order
pub length-ordered : (cell : Cell) (cfi : ℕ) → length (ordered_groups cell cfi) ≡ length (pdcch_groups cell cfi)
unfolding quadruplet_groups
length-ordered cell cfi = values_below-length (length (pdcch_groups cell cfi)) (quadruplet_group cell (pdcch_groups cell cfi))
