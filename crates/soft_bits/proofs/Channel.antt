-- Soft values of a list of resource elements, and descrambled values.
use Rattle.std.proofs.Common.{◌≡◌, ℕ, ◌+◌, ◌*◌, ◌/◌, ◌%◌, ◌<◌, ◌≤◌, Bool, true, false, List, [], ◌∷◌, length, get_or, ℤ, pos, negsuc, nat_abs, inl, inr, refl, ap, subst, sym, arith}
use Rattle.std.specs.Prelude.{All, int_div, ◌*ℤ◌, nat_lt, if◌then◌else◌}
use Rattle.std.proofs.Math.Path.{fun_ext}
use Rattle.std.proofs.lemmas.Int.{ints}
use Rattle.std.proofs.lemmas.Bool.Decides.{eqb_tells}
use Rattle.std.proofs.lemmas.List.Elements.{All-cons, All-nil, All-get_or, All-from_get_or}
use Rattle.finite.proofs.Lists.{values_below-length, values_below_at, values_below_same, values_below-All}
use Rattle.finite.proofs.Pieces.{HaveSize, length-pieces, get_or-pieces}
use Rattle.cs_num.specs.Rounding.{clamped}
use Rattle.gold.specs.Gold.{gold_bit}
use Rattle.grid_map.specs.declared.Place.{Place}
use Rattle.grid_map.specs.Place.{place}
use Rattle.soft_bits.specs.Soft.{SeenSlot, soft_value, soft_values, equalised, pilot_energy}
use Rattle.soft_bits.specs.Places.{values_at, in_subframe, placed_values, placed_value, descrambled_value, turned_by, descrambled}

-- ---- the values of resource elements

two_values : (slot : SeenSlot) (p : Place) → length (values_at slot p) ≡ 2
unfolding soft_values
two_values slot p = refl

twos : (slot : Place → SeenSlot) (places : List Place) → HaveSize 2 (λ p. values_at (slot p) p) places
twos slot places k d inside = two_values (slot (get_or places k d)) (get_or places k d)

-- two values per resource element
pub length-placed : (slot : Place → SeenSlot) (places : List Place) → length (placed_values slot places) ≡ 2 * length places
unfolding placed_values
length-placed slot places = let all = length-pieces 2 (λ p. values_at (slot p) p) places (twos slot places) in omega (arith, all)

pub placed-at : (slot : Place → SeenSlot) (places : List Place) (i : ℕ) → i < 2 * length places →
    get_or (placed_values slot places) i (pos 0) ≡ placed_value slot places i
unfolding placed_values
placed-at slot places i inside =
    get_or-pieces 2 (λ p. values_at (slot p) p) places i (place 0 0) (pos 0) (omega arith) (twos slot places) (omega (arith, inside))

-- ---- bounds

pub soft_value-small : (z : ℤ) (energy : ℕ) → nat_abs (soft_value z energy) ≤ 127
soft_value-small z energy = elim (eqb_tells energy 0) [
  | inl (t, same) ↦ rw t (omega arith)
  | inr (f, other) ↦ rw f (clamped_small (int_div (pos 6 *ℤ z) (pos energy)))
]
  where
    clamped_small : (x : ℤ) → nat_abs (clamped x 127) ≤ 127
    clamped_small (pos n) = omega arith
    clamped_small (negsuc n) = omega (arith, ints)

pub soft_values-small : (slot : SeenSlot) (symbol k : ℕ) → All (λ z. nat_abs z ≤ 127) (soft_values slot symbol k)
unfolding soft_values
soft_values-small slot symbol k =
    let P : ℤ → Type 0 = λ z. nat_abs z ≤ 127 in
    let re = soft_value (equalised slot symbol k).re (pilot_energy slot) in
    let im = soft_value (equalised slot symbol k).im (pilot_energy slot) in
    All-cons P re (im ∷ []) (soft_value-small (equalised slot symbol k).re (pilot_energy slot))
    (All-cons P im [] (soft_value-small (equalised slot symbol k).im (pilot_energy slot)) (All-nil P))

placed_value-small : (slot : Place → SeenSlot) (places : List Place) (i : ℕ) → nat_abs (placed_value slot places i) ≤ 127
placed_value-small slot places i =
    let p = get_or places (i / 2) (place 0 0) in
    All-get_or (λ z. nat_abs z ≤ 127) (values_at (slot p) p) (i % 2) (pos 0) (let two = two_values (slot p) p in omega (arith, two))
    (soft_values-small (slot p) (p.symbol % 7) p.k)

pub placed-small : (slot : Place → SeenSlot) (places : List Place) → All (λ z. nat_abs z ≤ 127) (placed_values slot places)
placed-small slot places =
    All-from_get_or (λ z. nat_abs z ≤ 127) (placed_values slot places) (pos 0)
    (λ i below. subst (λ z. nat_abs z ≤ 127) (sym (placed-at slot places i (let size = length-placed slot places in omega (arith, size, below)))) (placed_value-small slot places i))

-- ---- an element in a subframe whose slots are both the same

pub one_slot : (slot : SeenSlot) → in_subframe slot slot ≡ (λ (p : Place). slot)
one_slot slot = fun_ext (λ (p : Place). same (nat_lt p.symbol 7))
  where
    same : (b : Bool) → (if b then slot else slot) ≡ slot
    same true = refl
    same false = refl

-- ---- descrambled values

pub length-descrambled : (c_init first : ℕ) (values : List ℤ) → length (descrambled c_init first values) ≡ length values
unfolding descrambled
length-descrambled c_init first values = values_below-length (length values) _

pub descrambled-at : (c_init first : ℕ) (values : List ℤ) (i : ℕ) → i < length values →
    get_or (descrambled c_init first values) i (pos 0) ≡ descrambled_value (gold_bit c_init (first + i)) (get_or values i (pos 0))
unfolding descrambled
descrambled-at c_init first values i inside =
    values_below_at (λ i. descrambled_value (gold_bit c_init (first + i)) (get_or values i (pos 0))) (length values) i (pos 0) inside

-- descrambling with the first bits of the sequence
pub turned-descrambled : (bits : List Bool) (c_init first : ℕ) (values : List ℤ) → ((k : ℕ) → k < first + length values → get_or bits k false ≡ gold_bit c_init k) →
    turned_by (λ k. get_or bits k false) first values ≡ descrambled c_init first values
unfolding descrambled
turned-descrambled bits c_init first values are =
    values_below_same (length values) _ _
    (λ i inside. ap (λ b. descrambled_value b (get_or values i (pos 0))) (are (first + i) (omega (arith, inside))))

descrambled_value-small : (bound : ℕ) (bit : Bool) (z : ℤ) → nat_abs z ≤ bound → nat_abs (descrambled_value bit z) ≤ bound
descrambled_value-small bound false z small = small
descrambled_value-small bound true z small = omega (arith, ints, small)

pub descrambled-small : (bound c_init first : ℕ) (values : List ℤ) → All (λ z. nat_abs z ≤ bound) values → All (λ z. nat_abs z ≤ bound) (descrambled c_init first values)
unfolding descrambled
descrambled-small bound c_init first values small =
    values_below-All (λ z. nat_abs z ≤ bound) (length values) (λ i. descrambled_value (gold_bit c_init (first + i)) (get_or values i (pos 0))) (pos 0)
    (λ i inside. descrambled_value-small bound (gold_bit c_init (first + i)) (get_or values i (pos 0)) (All-get_or (λ z. nat_abs z ≤ bound) values i (pos 0) inside small))
