-- The code is one to one: bit k of a word is the sum of five coded bits, at k and k - 1.
use Rattle.std.proofs.Common.{◌≡◌, ℕ, zero, suc, ◌+◌, ◌-◌, ◌%◌, ◌<◌, ◌≤◌, Bool, false, List, [], ◌∷◌, length, map, get_or, ap, sym, ◌∙◌, arith}
use Rattle.std.proofs.lemmas.List.{ext_get_or}
use Rattle.std.proofs.Math.Nat.{mod-eq_of_lt, add-mod_right, mod-lt}
use Rattle.finite.proofs.Lists.{values_below_at}
use Rattle.finite.specs.Bits.{xor}
use Rattle.finite.proofs.Bits.{xor-false, xor_assoc, xor_comm, xor_left, xor_self, xor_again}
use Rattle.conv_code.specs.Code.{parity, bit_back, taps_0, taps_1, taps_2, tapped_bit, coded_bits, coded_word}
use Rattle.conv_code.specs.Laws.{IsOneToOne}

-- with delay D and generators g0, g1 and g2: (1 + D) g0 + g1 + (1 + D) g2 = 1
pub five : (f : ℕ → Bool) →
    xor (parity (map f taps_0)) (xor (parity (map (λ t. f (suc t)) taps_0)) (xor (parity (map f taps_1)) (xor (parity (map f taps_2)) (parity (map (λ t. f (suc t)) taps_2))))) ≡ f 0
five f = eight (f 0) (f 1) (f 2) (f 3) (f 4) (f 5) (f 6) (f 7)
  where
    eight : (a b c d e g h i : Bool) →
        xor (parity (a ∷ c ∷ d ∷ g ∷ h ∷ [])) (xor (parity (b ∷ d ∷ e ∷ h ∷ i ∷ [])) (xor (parity (a ∷ b ∷ c ∷ d ∷ h ∷ [])) (xor (parity (a ∷ b ∷ c ∷ e ∷ h ∷ [])) (parity (b ∷ c ∷ d ∷ g ∷ i ∷ []))))) ≡ a
    eight a b c d e g h i = simp (xor_assoc, xor-false, xor_comm, xor_left, xor_self, xor_again)

-- ---- cyclic indices

-- the previous index
abbrev before : ℕ → ℕ → ℕ
before n k = (k + n - 1) % n

-- the bit t steps earlier, for t up to twice the length
abbrev far_back : List Bool → ℕ → ℕ → Bool
far_back word k t = get_or word ((k + length word + length word - t) % length word) false

from_here : (word : List Bool) (k t : ℕ) → t ≤ length word → bit_back word k t ≡ far_back word k t
from_here word k t near =
    let n : ℕ = length word in
    let e : k + n + n - t ≡ k + n - t + n = omega arith in
    ap (λ i. get_or word i false) (sym (add-mod_right (k + n - t) n) ∙ ap (λ i. i % n) (sym e))

from_before : (word : List Bool) (k t : ℕ) → k < length word → t ≤ length word → bit_back word (before (length word) k) t ≡ far_back word k (suc t)
from_before word zero t inside near =
    let n : ℕ = length word in
    let lt : 0 + n - 1 < n = omega arith in
    let e : 0 + n - 1 + n - t ≡ 0 + n + n - suc t = omega arith in
    ap (λ i. get_or word ((i + n - t) % n) false) (mod-eq_of_lt lt) ∙ ap (λ i. get_or word (i % n) false) e
from_before word (suc k) t inside near =
    let n : ℕ = length word in
    let e : suc k + n - 1 ≡ k + n = omega arith in
    let lt : k < n = omega arith in
    let d : suc k + n + n - suc t ≡ k + n - t + n = omega arith in
    ap (λ i. get_or word ((i % n + n - t) % n) false) e ∙ ap (λ i. get_or word ((i + n - t) % n) false) (add-mod_right k n ∙ mod-eq_of_lt lt)
    ∙ ap (λ i. get_or word i false) (sym (add-mod_right (k + n - t) n)) ∙ ap (λ i. get_or word (i % n) false) (sym d)

-- bit k of the word as the sum of five coded bits
word_bit : (word : List Bool) (k : ℕ) → k < length word → 6 ≤ length word →
    xor (tapped_bit taps_0 word k) (xor (tapped_bit taps_0 word (before (length word) k)) (xor (tapped_bit taps_1 word k) (xor (tapped_bit taps_2 word k) (tapped_bit taps_2 word (before (length word) k)))))
    ≡ get_or word k false
word_bit word k inside long =
    let f : ℕ → Bool = far_back word k in
    let h0 = from_here word k 0 (omega arith) in
    let h1 = from_here word k 1 (omega arith) in
    let h2 = from_here word k 2 (omega arith) in
    let h3 = from_here word k 3 (omega arith) in
    let h4 = from_here word k 4 (omega arith) in
    let h5 = from_here word k 5 (omega arith) in
    let h6 = from_here word k 6 (omega arith) in
    let b0 = from_before word k 0 inside (omega arith) in
    let b1 = from_before word k 1 inside (omega arith) in
    let b2 = from_before word k 2 inside (omega arith) in
    let b3 = from_before word k 3 inside (omega arith) in
    let b4 = from_before word k 4 inside (omega arith) in
    let b5 = from_before word k 5 inside (omega arith) in
    let b6 = from_before word k 6 inside (omega arith) in
    let z : k + length word + length word - 0 ≡ k + length word + length word = omega arith in
    let here : f 0 ≡ get_or word k false =
    ap (λ i. get_or word (i % length word) false) z ∙ ap (λ i. get_or word i false) (add-mod_right (k + length word) (length word) ∙ add-mod_right k (length word) ∙ mod-eq_of_lt inside) in
    rw (h0, h1, h2, h3, h4, h5, h6, b0, b1, b2, b3, b4, b5, b6) (five f ∙ here)

-- ---- words

at_index : (word : List Bool) (k : ℕ) → k < length word → get_or (coded_word word) k [] ≡ coded_bits word k
unfolding coded_word
at_index word k inside = values_below_at (coded_bits word) (length word) k [] inside

same_bits : (u w : List Bool) → length u ≡ length w → coded_word u ≡ coded_word w → (k : ℕ) → k < length u → coded_bits u k ≡ coded_bits w k
same_bits u w size same k inside = sym (at_index u k inside) ∙ ap (λ c. get_or c k []) same ∙ at_index w k (omega arith)

-- equal coded bits are equal in each stream
stream_bit : (u w : List Bool) (k t : ℕ) → coded_bits u k ≡ coded_bits w k → get_or (coded_bits u k) t false ≡ get_or (coded_bits w k) t false
stream_bit u w k t same = ap (λ c. get_or c t false) same

pub one_to_one : IsOneToOne
one_to_one u w long size same = ext_get_or false u w size (λ k inside.
    let here = same_bits u w size same k inside in
    let there = same_bits u w size same (before (length u) k) (mod-lt (k + length u - 1) (omega arith)) in
    let h0 : tapped_bit taps_0 u k ≡ tapped_bit taps_0 w k = stream_bit u w k 0 here in
    let h1 : tapped_bit taps_1 u k ≡ tapped_bit taps_1 w k = stream_bit u w k 1 here in
    let h2 : tapped_bit taps_2 u k ≡ tapped_bit taps_2 w k = stream_bit u w k 2 here in
    let b0 : tapped_bit taps_0 u (before (length u) k) ≡ tapped_bit taps_0 w (before (length u) k) = stream_bit u w (before (length u) k) 0 there in
    let b2 : tapped_bit taps_2 u (before (length u) k) ≡ tapped_bit taps_2 w (before (length u) k) = stream_bit u w (before (length u) k) 2 there in
    sym (word_bit u k inside long) ∙ rw (h0, h1, h2, b0, b2) (rw size (word_bit w k (omega arith) (omega arith))))
