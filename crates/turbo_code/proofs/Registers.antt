-- The encoder's register as a state number.
use Rattle.std.proofs.Common.{◌≡◌, ℕ, zero, suc, ◌+◌, ◌/◌, ◌≤◌, Bool, true, false, cond, List, [], ◌∷◌, length, take, refl, ap, sym, subst, ◌∙◌, arith}
use Rattle.std.proofs.lemmas.List.{length-take-le, take_all}
use Rattle.std.proofs.Math.Seq.{take-suc}
use Rattle.finite.specs.Sums.{total_below}
use Rattle.trellis.specs.Paths.{end_of, path_cost}
use Rattle.trellis.proofs.Paths.{end_of-append, path_cost-last}
use Rattle.finite.specs.Bits.{xor}
use Rattle.turbo_code.specs.Encoder.{bit_at, back, before, parity}
use Rattle.turbo_code.specs.Machine.{parity_bit, next, tail_bit, tail_parity}

-- the state number for three bits, latest first
abbrev pub state : Bool → Bool → Bool → ℕ
state a b c = cond a 4 0 + cond b 2 0 + cond c 1 0

-- the state after a list's bits, latest first
abbrev pub state_of : List Bool → ℕ
state_of past = state (back past 1) (back past 2) (back past 3)

next_is : (a b c u : Bool) → next (state a b c) u ≡ state (xor (xor u b) c) a b
next_is false false false false = refl
next_is false false false true = refl
next_is false false true false = refl
next_is false false true true = refl
next_is false true false false = refl
next_is false true false true = refl
next_is false true true false = refl
next_is false true true true = refl
next_is true false false false = refl
next_is true false false true = refl
next_is true false true false = refl
next_is true false true true = refl
next_is true true false false = refl
next_is true true false true = refl
next_is true true true false = refl
next_is true true true true = refl

parity_is : (a b c u : Bool) → parity_bit (state a b c) u ≡ xor (xor (xor (xor u b) c) a) c
parity_is false false false u = refl
parity_is false false true u = refl
parity_is false true false u = refl
parity_is false true true u = refl
parity_is true false false u = refl
parity_is true false true u = refl
parity_is true true false u = refl
parity_is true true true u = refl

pub tail_bit_is : (a b c : Bool) → tail_bit (state a b c) ≡ xor b c
tail_bit_is false false false = refl
tail_bit_is false false true = refl
tail_bit_is false true false = refl
tail_bit_is false true true = refl
tail_bit_is true false false = refl
tail_bit_is true false true = refl
tail_bit_is true true false = refl
tail_bit_is true true true = refl

pub tail_parity_is : (a b c : Bool) → tail_parity (state a b c) ≡ xor a c
tail_parity_is false false false = refl
tail_parity_is false false true = refl
tail_parity_is false true false = refl
tail_parity_is false true true = refl
tail_parity_is true false false = refl
tail_parity_is true false true = refl
tail_parity_is true true false = refl
tail_parity_is true true true = refl

pub half_is : (a b c : Bool) → state a b c / 2 ≡ state false a b
half_is false false false = refl
half_is false false true = refl
half_is false true false = refl
half_is false true true = refl
half_is true false false = refl
half_is true false true = refl
half_is true true false = refl
half_is true true true = refl

-- the state before a word's index k
abbrev pub state_at : List Bool → ℕ → ℕ
state_at word k = state_of (before word k)

state_more : (word : List Bool) (k : ℕ) → next (state_at word k) (bit_at word k) ≡ state_at word (suc k)
unfolding before
state_more word k = next_is (back (before word k) 1) (back (before word k) 2) (back (before word k) 3) (bit_at word k)

pub parity_at : (word : List Bool) (k : ℕ) → parity_bit (state_at word k) (bit_at word k) ≡ parity word k
parity_at word k = parity_is (back (before word k) 1) (back (before word k) 2) (back (before word k) 3) (bit_at word k)

-- a path through a word's first k bits: its cost and its end
pub record IsPath (c : ℕ → ℕ → Bool → ℕ) (word : List Bool) (k : ℕ) (bits : List Bool) : Type 0 where
  pub cost : path_cost next c 0 0 bits ≡ total_below k (λ j. c j (state_at word j) (bit_at word j))
  pub there : end_of next 0 bits ≡ state_at word k

path_to : (c : ℕ → ℕ → Bool → ℕ) (word : List Bool) (k : ℕ) → k ≤ length word → IsPath c word k (take k word)
unfolding total_below before
path_to c word zero h = record { cost = refl; there = refl }
path_to c word (suc k) h =
    let known = path_to c word k (omega (arith, h)) in
    let size = length-take-le k word (omega (arith, h)) in
    let e = take-suc word k false (omega (arith, h)) in
    subst (IsPath c word (suc k)) (sym e) (record {
      cost = path_cost-last next c 0 (take k word) (bit_at word k) k size ∙ rw (known.cost, known.there) refl;
      there = end_of-append next 0 (take k word) (bit_at word k ∷ []) ∙ ap (λ x. next x (bit_at word k)) known.there ∙ state_more word k;
    })

-- the path through a complete word
pub path_is : (c : ℕ → ℕ → Bool → ℕ) (word : List Bool) → IsPath c word (length word) word
path_is c word = subst (IsPath c word (length word)) (take_all (length word) word (omega arith)) (path_to c word (length word) (omega arith))
