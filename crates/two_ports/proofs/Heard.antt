-- Resource elements that carry bits in pairs have soft values with the bits' signs.
use Rattle.std.proofs.Common.{◌≡◌, ℕ, zero, suc, ◌+◌, ◌*◌, ◌/◌, ◌%◌, ◌<◌, Bool, List, length, get_or, ℤ, pos, arith, ap, sym, subst}
use Rattle.finite.proofs.Lists.{joined_below_same}
use Rattle.cs_bits.specs.Signs.{Supports}
use Rattle.grid_map.specs.declared.Place.{Place}
use Rattle.grid_map.specs.Place.{place}
use Rattle.soft_bits.specs.Pairs.{Pairing, pair_values, pair_at, paired_by}
use Rattle.soft_bits.specs.Soft.{SeenSlot}
use Rattle.clean_air.specs.Carried.{AreHeard}
use Rattle.two_ports.specs.Received.{SupportFour}
use Rattle.finite.specs.Lists.{joined_below}
use Rattle.soft_bits.proofs.Paired.{length-fours, get_or-fours, length-pair_at}

-- four soft values have the signs of the bits in symbols 2i and 2i + 1
abbrev pub SpeakAs : (ℕ → Bool) → ℕ → List ℤ → Type 0
SpeakAs bits i values = SupportFour 1 (bits (2 * (2 * i))) (bits (2 * (2 * i) + 1)) (bits (2 * (2 * i + 1))) (bits (2 * (2 * i + 1) + 1)) values

one_of_four : (bits : ℕ → Bool) (i q r : ℕ) (values : List ℤ) → i ≡ 4 * q + r → r < 4 → SpeakAs bits q values → Supports 1 (bits i) (get_or values r (pos 0))
one_of_four bits i q zero values e l four = subst (λ n. Supports 1 (bits n) (get_or values 0 (pos 0))) (let f : 2 * (2 * q) ≡ i = omega (arith, e) in f) four.first
one_of_four bits i q (suc zero) values e l four = subst (λ n. Supports 1 (bits n) (get_or values 1 (pos 0))) (let f : 2 * (2 * q) + 1 ≡ i = omega (arith, e) in f) four.second
one_of_four bits i q (suc (suc zero)) values e l four = subst (λ n. Supports 1 (bits n) (get_or values 2 (pos 0))) (let f : 2 * (2 * q + 1) ≡ i = omega (arith, e) in f) four.third
one_of_four bits i q (suc (suc (suc zero))) values e l four = subst (λ n. Supports 1 (bits n) (get_or values 3 (pos 0))) (let f : 2 * (2 * q + 1) + 1 ≡ i = omega (arith, e) in f) four.fourth
one_of_four bits i q (suc (suc (suc (suc n)))) values e l four = absurd (omega (arith, l))

-- consecutive four-value lists, each with the signs of its four bits
fours_heard : (n : ℕ) (bits : ℕ → Bool) (f : ℕ → List ℤ) → ((k : ℕ) → length (f k) ≡ 4) → ((i : ℕ) → i < n → SpeakAs bits i (f i)) → AreHeard 1 (4 * n) bits (joined_below n f)
fours_heard n bits f fours each = record {
  size = length-fours n f fours;
  value = λ i inside. subst (λ z. Supports 1 (bits i) z) (sym (get_or-fours n i f fours inside))
      (one_of_four bits i (i / 4) (i % 4) (f (i / 4)) (omega arith) (omega arith) (each (i / 4) (omega (arith, inside))));
}

pub paired_heard : (pairing : Pairing) (slot : Place → SeenSlot) (places : List Place) (bits : ℕ → Bool) → length places % 2 ≡ 0 →
    ((i : ℕ) → i < length places / 2 → SpeakAs bits i (pair_at pairing slot places i)) → AreHeard 1 (2 * length places) bits (paired_by pairing slot places)
unfolding paired_by
paired_heard pairing slot places bits even each =
    let count : 4 * (length places / 2) ≡ 2 * length places = omega (arith, even) in
    subst (λ n. AreHeard 1 n bits (joined_below (length places / 2) (pair_at pairing slot places))) count
    (fours_heard (length places / 2) bits (pair_at pairing slot places) (length-pair_at pairing slot places) each)

-- the values depend only on the slots of each pair's first resource element
pub paired_same : (pairing : Pairing) (slot other : Place → SeenSlot) (places : List Place) →
    ((i : ℕ) → i < length places / 2 → slot (get_or places (2 * i) (place 0 0)) ≡ other (get_or places (2 * i) (place 0 0))) → paired_by pairing slot places ≡ paired_by pairing other places
unfolding paired_by
paired_same pairing slot other places same =
    joined_below_same (length places / 2) (pair_at pairing slot places) (pair_at pairing other places)
    (λ i l. ap (λ (s : SeenSlot). pair_values pairing i s (get_or places (2 * i) (place 0 0)) (get_or places (2 * i + 1) (place 0 0))) (same i l))
