-- Lengths of lists of soft values, and bounds on soft values.
use Rattle.std.proofs.Common.{◌≡◌, ◌∙◌, ℕ, zero, suc, ◌*◌, ◌/◌, ◌≤◌, List, [], ◌∷◌, ◌++◌, length, get_or, ℤ, pos, negsuc, to_z, of_z, w16, refl, ap, inl, inr, arith, length-append}
use Rattle.std.specs.Prelude.{nat_abs, ◌*ℤ◌, int_div}
use Rattle.std.proofs.lemmas.Int.{ints, to_z-of_z, fits_signed_from_abs}
use Rattle.std.proofs.lemmas.Bool.Decides.{eqb_tells}
use Rattle.std.proofs.lemmas.List.Elements.{All-cons, All-nil, All-append}
use Rattle.finite.specs.Lists.{joined_below}
use Rattle.finite.specs.Sizes.{AllWithin}
use Rattle.cs_num.specs.declared.Cpx.{Cpx}
use Rattle.cs_num.specs.Rounding.{clamped}
use Rattle.soft_bits.proofs.Paired.{length-fours, all-fours}
use Rattle.wide_cell.specs.declared.place.WidePlace.{WidePlace}
use Rattle.wide_slot.specs.Slot.{WideSeen}
use Rattle.wide_slot.specs.Values.{wide_value, weighted_energy, wide_pair, place_values, pair_values, single_at, paired_at, placed_values}

pub wide_value-small : (blocks energy : ℕ) (z : ℤ) → nat_abs (wide_value blocks energy z) ≤ 127
wide_value-small blocks energy z = elim (eqb_tells energy 0) [
  | inl (t, same) ↦ rw t (omega arith)
  | inr (f, other) ↦ rw f (clamped_small (int_div (pos blocks *ℤ z) (pos energy)))
]
  where
    clamped_small : (x : ℤ) → nat_abs (clamped x 127) ≤ 127
    clamped_small (pos n) = omega arith
    clamped_small (negsuc n) = omega (arith, ints)

pub wide_pair-small : (seen : WideSeen) (a : Cpx) → AllWithin 127 (wide_pair seen a)
wide_pair-small seen a =
    let P : ℤ → Type 0 = λ z. nat_abs z ≤ 127 in
    let value : ℤ → ℤ = wide_value seen.cell.blocks (weighted_energy seen) in
    let small = wide_value-small seen.cell.blocks (weighted_energy seen) in
    All-cons P (value a.re) (value a.im ∷ []) (small a.re) (All-cons P (value a.im) [] (small a.im) (All-nil P))

single-small : (seen : WideSeen) (p : WidePlace) → AllWithin 127 (place_values seen p)
unfolding place_values
single-small seen p = wide_pair-small seen _

paired-small : (seen : WideSeen) (i : ℕ) (p q : WidePlace) → AllWithin 127 (pair_values seen i p q)
unfolding pair_values
paired-small seen i p q = All-append (λ z. nat_abs z ≤ 127) (wide_pair seen _) (wide_pair seen _) (wide_pair-small seen _) (wide_pair-small seen _)

pub placed-small : (first second : WideSeen) (places : List WidePlace) → AllWithin 127 (placed_values first second places)
unfolding placed_values
placed-small first second places = elim (eqb_tells first.cell.ports 1) [
  | inl (t, same) ↦ rw t (all-fours (length places) (single_at first second places) (λ k. single-small _ _))
  | inr (f, other) ↦ rw f (all-fours (length places / 2) (paired_at first second places) (λ k. paired-small _ k _ _))
]

-- ---- lengths

length-single : (seen : WideSeen) (p : WidePlace) → length (place_values seen p) ≡ 2
unfolding place_values
length-single seen p = refl

length-paired : (seen : WideSeen) (i : ℕ) (p q : WidePlace) → length (pair_values seen i p q) ≡ 4
unfolding pair_values
length-paired seen i p q = refl

length-twos : (n : ℕ) (f : ℕ → List ℤ) → ((k : ℕ) → length (f k) ≡ 2) → length (joined_below n f) ≡ 2 * n
unfolding joined_below
length-twos zero f each = refl
length-twos (suc n) f each =
    let before = length-twos n f each in
    let here = each n in
    let both = length-append (joined_below n f) (f n) in
    omega (arith, before, here, both)

pub placed-few : (first second : WideSeen) (places : List WidePlace) → length (placed_values first second places) ≤ 2 * length places
unfolding placed_values
placed-few first second places = elim (eqb_tells first.cell.ports 1) [
  | inl (t, same) ↦ rw t (let h = length-twos (length places) (single_at first second places) (λ k. length-single _ _) in omega (arith, h))
  | inr (f, other) ↦ rw f (let h = length-fours (length places / 2) (paired_at first second places) (λ k. length-paired _ k _ _) in omega (arith, h))
]

-- ---- the values of a pair in one list

back : (z : ℤ) → nat_abs z ≤ 127 → to_z w16 (of_z w16 z) ≡ z
back z small = to_z-of_z w16 z (fits_signed_from_abs w16 z (omega (arith, small)))

four_same : {a b c d x y u v : ℤ} → a ≡ x → b ≡ y → c ≡ u → d ≡ v → ◌≡◌ {A = List ℤ} (a ∷ b ∷ c ∷ d ∷ []) (x ∷ y ∷ u ∷ v ∷ [])
four_same e f g h = cc

pub four_are : (seen : WideSeen) (one two : Cpx) (xs ys : List ℤ) → xs ≡ wide_pair seen one → ys ≡ wide_pair seen two →
    ◌≡◌ {A = List ℤ} (to_z w16 (of_z w16 (get_or xs 0 (pos 0))) ∷ to_z w16 (of_z w16 (get_or xs 1 (pos 0))) ∷ to_z w16 (of_z w16 (get_or ys 0 (pos 0))) ∷ to_z w16 (of_z w16 (get_or ys 1 (pos 0))) ∷ [])
    (wide_pair seen one ++ wide_pair seen two)
four_are seen one two xs ys e f =
    let small = wide_value-small seen.cell.blocks (weighted_energy seen) in
    four_same
    (ap (λ (l : List ℤ). to_z w16 (of_z w16 (get_or l 0 (pos 0)))) e ∙ back _ (small one.re))
    (ap (λ (l : List ℤ). to_z w16 (of_z w16 (get_or l 1 (pos 0)))) e ∙ back _ (small one.im))
    (ap (λ (l : List ℤ). to_z w16 (of_z w16 (get_or l 0 (pos 0)))) f ∙ back _ (small two.re))
    (ap (λ (l : List ℤ). to_z w16 (of_z w16 (get_or l 1 (pos 0)))) f ∙ back _ (small two.im))

-- ---- one antenna port, or several

pub placed_single : (first second : WideSeen) (places : List WidePlace) → first.cell.ports ≡ 1 →
    joined_below (length places) (single_at first second places) ≡ placed_values first second places
unfolding placed_values
placed_single first second places e = elim (eqb_tells first.cell.ports 1) [
  | inl (t, same) ↦ rw t refl
  | inr (f, other) ↦ absurd (other e)
]

pub placed_pairs : (first second : WideSeen) (places : List WidePlace) → (first.cell.ports ≡ 1 → ⊥) →
    joined_below (length places / 2) (paired_at first second places) ≡ placed_values first second places
unfolding placed_values
placed_pairs first second places several = elim (eqb_tells first.cell.ports 1) [
  | inl (t, same) ↦ absurd (several same)
  | inr (f, other) ↦ rw f refl
]
