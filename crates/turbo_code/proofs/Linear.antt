-- The encoder is linear: the parity and tail bits for a sum are the sums of the words' parity and tail bits.
use Rattle.std.proofs.Common.{◌≡◌, ℕ, zero, suc, ◌<◌, ◌≤◌, Bool, false, List, ◌++◌, length, replicate, get_or, refl, ap, ap₂, sym, ◌∙◌, arith}
use Rattle.finite.specs.Bits.{xor}
use Rattle.finite.specs.Lists.{values_below}
use Rattle.finite.proofs.Bits.{xor_again, xor_swap}
use Rattle.finite.proofs.Lists.{values_below-length, values_below_at, values_below_is}
use Rattle.turbo_code.specs.Encoder.{bit_at, back, before, register_bit, parity, before_tail, tail_x, tail_z}

-- ---- sums of words

-- two words added bit by bit, as long as the first
unfoldable pub word_sum : List Bool → List Bool → List Bool
word_sum u w = values_below (length u) (λ k. xor (bit_at u k) (bit_at w k))

pub length-word_sum : (u w : List Bool) → length (word_sum u w) ≡ length u
unfolding word_sum
length-word_sum u w = values_below-length (length u) (λ k. xor (bit_at u k) (bit_at w k))

pub word_sum_at : (u w : List Bool) (k : ℕ) → k < length u → bit_at (word_sum u w) k ≡ xor (bit_at u k) (bit_at w k)
unfolding word_sum
word_sum_at u w k inside = values_below_at (λ k. xor (bit_at u k) (bit_at w k)) (length u) k false inside

-- a word added twice cancels
pub word_sum_again : (u w : List Bool) → length w ≡ length u → word_sum u (word_sum u w) ≡ w
unfolding word_sum
word_sum_again u w size =
    sym (values_below_is false (length u) (λ k. xor (bit_at u k) (bit_at (word_sum u w) k)) w size (λ k inside.
    sym (ap (xor (bit_at u k)) (word_sum_at u w k inside) ∙ xor_again (bit_at u k) (bit_at w k))))

-- ---- the register

-- two sums of three bits, regrouped
xor_swap₃ : (a b c d e f : Bool) → xor (xor (xor a b) (xor c d)) (xor e f) ≡ xor (xor (xor a c) e) (xor (xor b d) f)
xor_swap₃ a b c d e f = ap (λ x. xor x (xor e f)) (xor_swap a b c d) ∙ xor_swap (xor a c) (xor b d) e f

-- past register bits for a sum are the sums of the words' past register bits
before-word_sum : (u w : List Bool) (k : ℕ) → k ≤ length u → (i : ℕ) →
    get_or (before (word_sum u w) k) i false ≡ xor (get_or (before u k) i false) (get_or (before w k) i false)
unfolding before
before-word_sum u w zero inside i = refl
before-word_sum u w (suc k) inside zero =
    ap (λ b. xor (xor b (back (before (word_sum u w) k) 2)) (back (before (word_sum u w) k) 3)) (word_sum_at u w k inside)
    ∙ ap₂ (λ b c. xor (xor (xor (bit_at u k) (bit_at w k)) b) c)
    (before-word_sum u w k (omega (arith, inside)) 1) (before-word_sum u w k (omega (arith, inside)) 2)
    ∙ xor_swap₃ (bit_at u k) (bit_at w k) (back (before u k) 2) (back (before w k) 2) (back (before u k) 3) (back (before w k) 3)
before-word_sum u w (suc k) inside (suc i) = before-word_sum u w k (omega (arith, inside)) i

pub parity-word_sum : (u w : List Bool) (k : ℕ) → k < length u → parity (word_sum u w) k ≡ xor (parity u k) (parity w k)
unfolding before
parity-word_sum u w k inside =
    ap (λ a. xor (xor a (back (before (word_sum u w) k) 1)) (back (before (word_sum u w) k) 3)) (before-word_sum u w (suc k) inside 0)
    ∙ ap₂ (λ b c. xor (xor (xor (register_bit u k) (register_bit w k)) b) c)
    (before-word_sum u w k (omega (arith, inside)) 0) (before-word_sum u w k (omega (arith, inside)) 2)
    ∙ xor_swap₃ (register_bit u k) (register_bit w k) (back (before u k) 1) (back (before w k) 1) (back (before u k) 3) (back (before w k) 3)

-- ---- the tail

padded : (a b c : List Bool) → ((i : ℕ) → get_or a i false ≡ xor (get_or b i false) (get_or c i false)) → (j i : ℕ) →
    get_or (replicate j false ++ a) i false ≡ xor (get_or (replicate j false ++ b) i false) (get_or (replicate j false ++ c) i false)
padded a b c each zero i = each i
padded a b c each (suc j) zero = refl
padded a b c each (suc j) (suc i) = padded a b c each j i

before_tail-word_sum : (u w : List Bool) (j : ℕ) → length w ≡ length u → (i : ℕ) →
    get_or (before_tail (word_sum u w) j) i false ≡ xor (get_or (before_tail u j) i false) (get_or (before_tail w j) i false)
before_tail-word_sum u w j size i =
    ap (λ n. get_or (replicate j false ++ before (word_sum u w) n) i false) (length-word_sum u w)
    ∙ padded (before (word_sum u w) (length u)) (before u (length u)) (before w (length u)) (before-word_sum u w (length u) (omega arith)) j i
    ∙ ap (λ n. xor (get_or (before_tail u j) i false) (get_or (replicate j false ++ before w n) i false)) (sym size)

pub tail_x-word_sum : (u w : List Bool) (j : ℕ) → length w ≡ length u → tail_x (word_sum u w) j ≡ xor (tail_x u j) (tail_x w j)
unfolding tail_x
tail_x-word_sum u w j size =
    ap₂ xor (before_tail-word_sum u w j size 1) (before_tail-word_sum u w j size 2)
    ∙ xor_swap (back (before_tail u j) 2) (back (before_tail w j) 2) (back (before_tail u j) 3) (back (before_tail w j) 3)

pub tail_z-word_sum : (u w : List Bool) (j : ℕ) → length w ≡ length u → tail_z (word_sum u w) j ≡ xor (tail_z u j) (tail_z w j)
unfolding tail_z
tail_z-word_sum u w j size =
    ap₂ xor (before_tail-word_sum u w j size 0) (before_tail-word_sum u w j size 2)
    ∙ xor_swap (back (before_tail u j) 1) (back (before_tail w j) 1) (back (before_tail u j) 3) (back (before_tail w j) 3)
