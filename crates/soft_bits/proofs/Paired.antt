-- Soft values of resource element pairs: their number, each value, and their bounds.
use Rattle.std.proofs.Common.{◌≡◌, ℕ, zero, suc, ◌+◌, ◌-◌, ◌*◌, ◌/◌, ◌%◌, ◌<◌, ◌≤◌, inl, inr, List, [], ◌∷◌, length, get_or, ℤ, pos, arith, refl, ap, ap₂, sym, take, ◌++◌, ◌∙◌, length-append}
use Rattle.std.specs.Prelude.{nat_abs}
use Rattle.std.proofs.Math.ListN.{get_or-append}
use Rattle.std.proofs.lemmas.Bool.{cases_lt}
use borrow.Rule.Slice.PartMut.{put_mid}
use Rattle.std.proofs.lemmas.Slice.{take-put_mid}
use Rattle.std.proofs.lemmas.List.{get_or-append_right, take_all}
use Rattle.std.proofs.lemmas.List.Elements.{All-append, All-cons, All-nil}
use Rattle.finite.specs.Lists.{joined_below}
use Rattle.finite.specs.Sizes.{AllWithin}
use Rattle.finite.proofs.Lists.{joined_below_more}
use Rattle.cs_num.specs.declared.Cpx.{Cpx}
use Rattle.grid_map.specs.declared.Place.{Place}
use Rattle.soft_bits.specs.Lines.{port_channel, ports_energy}
use Rattle.soft_bits.specs.Soft.{SeenSlot, seen_at, soft_pair, soft_value}
use Rattle.soft_bits.proofs.Channel.{soft_value-small}
use Rattle.soft_bits.specs.Pairs.{Pairing, first_point, second_point, point_values, pair_values, pair_at, paired_by}

-- ---- lists of four after four

pub length-fours : (n : ℕ) (f : ℕ → List ℤ) → ((k : ℕ) → length (f k) ≡ 4) → length (joined_below n f) ≡ 4 * n
unfolding joined_below
length-fours zero f each = refl
length-fours (suc n) f each =
    let before = length-fours n f each in
    let here = each n in
    let both = length-append (joined_below n f) (f n) in
    omega (arith, before, here, both)

pub get_or-fours : (n i : ℕ) (f : ℕ → List ℤ) → ((k : ℕ) → length (f k) ≡ 4) → i < 4 * n → get_or (joined_below n f) i (pos 0) ≡ get_or (f (i / 4)) (i % 4) (pos 0)
unfolding joined_below
get_or-fours zero i f each inside = absurd (omega (arith, inside))
get_or-fours (suc n) i f each inside =
    let size = length-fours n f each in
    elim (cases_lt i (4 * n)) [
      | inl below ↦ get_or-append (joined_below n f) (f n) (pos 0) i (omega (arith, size, below)) ∙ get_or-fours n i f each below
      | inr above ↦
          let row : i / 4 ≡ n = omega (arith, inside, above) in
          let column : i - 4 * n ≡ i % 4 = omega (arith, inside, above) in
          get_or-append_right (joined_below n f) (f n) (4 * n) i (pos 0) size above ∙ ap₂ (λ (j k : ℕ). get_or (f j) k (pos 0)) (sym row) column
    ]

pub all-fours : (n : ℕ) (f : ℕ → List ℤ) → ((k : ℕ) → AllWithin 127 (f k)) → AllWithin 127 (joined_below n f)
unfolding joined_below
all-fours zero f each = All-nil (λ z. nat_abs z ≤ 127)
all-fours (suc n) f each = All-append (λ z. nat_abs z ≤ 127) (joined_below n f) (f n) (all-fours n f each) (each n)

-- four more values are written
pub four_more : (i : ℕ) (f : ℕ → List ℤ) (values four : List ℤ) → length (f i) ≡ 4 → 4 * i + 4 ≤ length values → take (4 * i) values ≡ joined_below i f → four ≡ f i →
    take (4 * (i + 1)) (put_mid (4 * i) (4 * i + 4 - 4 * i) values four) ≡ joined_below (i + 1) f
four_more i f values four size room before here =
    let long : length four ≡ 4 = ap (λ (xs : List ℤ). length xs) here ∙ size in
    take-put_mid (4 * i) (4 * i + 4 - 4 * i) values four (4 * (i + 1)) (omega (arith, long)) (omega (arith, room))
    ∙ ap₂ (λ (xs ys : List ℤ). xs ++ ys) before here ∙ sym (joined_below_more i f)

-- all values are written
pub fours_done : (i n : ℕ) (f : ℕ → List ℤ) (values : List ℤ) → length values ≡ 4 * n → i ≡ n → take (4 * i) values ≡ joined_below i f → values ≡ joined_below n f
fours_done i n f values whole last so_far =
    sym (take_all (4 * i) values (omega (arith, whole, last))) ∙ so_far ∙ ap (λ (m : ℕ). joined_below m f) last

-- ---- pairs

pub pair-small : (a : Cpx) (energy : ℕ) → AllWithin 127 (soft_pair a energy)
pair-small a energy =
    All-cons (λ z. nat_abs z ≤ 127) (soft_value a.re energy) (soft_value a.im energy ∷ []) (soft_value-small a.re energy)
    (All-cons (λ z. nat_abs z ≤ 127) (soft_value a.im energy) [] (soft_value-small a.im energy) (All-nil (λ z. nat_abs z ≤ 127)))

-- the symbols of a pair, for any channels
pub points-small : (h g : Cpx) (energy : ℕ) (a b : Cpx) → AllWithin 127 (point_values h g energy a b)
points-small h g energy a b =
    All-append (λ z. nat_abs z ≤ 127) (soft_pair (first_point h g a b) energy) (soft_pair (second_point h g a b) energy)
    (pair-small (first_point h g a b) energy) (pair-small (second_point h g a b) energy)

length-pair : (pairing : Pairing) (i : ℕ) (slot : SeenSlot) (p q : Place) → length (pair_values pairing i slot p q) ≡ 4
unfolding pair_values
length-pair pairing i slot p q = refl

pub values-small : (pairing : Pairing) (i : ℕ) (slot : SeenSlot) (p q : Place) → AllWithin 127 (pair_values pairing i slot p q)
unfolding pair_values
values-small pairing i slot p q =
    points-small (port_channel pairing.scale pairing.carrier (pairing.lower i) slot p.k) (port_channel pairing.scale pairing.carrier (pairing.upper i) slot p.k) (ports_energy pairing.carrier slot)
    (seen_at slot (p.symbol % 7) p.k) (seen_at slot (q.symbol % 7) q.k)

module _ (pairing : Pairing) (slot : Place → SeenSlot) (places : List Place) where
  pub length-pair_at : (i : ℕ) → length (pair_at pairing slot places i) ≡ 4
  length-pair_at i = length-pair pairing i _ _ _

  pub paired_by-small : AllWithin 127 (paired_by pairing slot places)
  unfolding paired_by
  paired_by-small = all-fours (length places / 2) (pair_at pairing slot places) (λ k. values-small pairing k _ _ _)

  pub length-paired_by : length (paired_by pairing slot places) ≡ 4 * (length places / 2)
  unfolding paired_by
  length-paired_by = length-fours (length places / 2) (pair_at pairing slot places) length-pair_at
