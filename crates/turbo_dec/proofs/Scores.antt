-- A word's score and its path cost have a constant sum.
use Rattle.std.proofs.Common.{◌≡◌, ℕ, ◌+◌, ◌*◌, ◌/◌, Bool, true, false, List, length, ℤ, pos, negsuc, ◌+ℤ◌, refl, ap, ap₂, sym, ◌∙◌, arith}
use Rattle.std.proofs.lemmas.Int.{ints}
use Rattle.finite.specs.Sums.{sum_below, total_below}
use Rattle.finite.proofs.Sums.{sum_below_plus, sum_below_pos, sum_below_same}
use Rattle.cs_bits.specs.Signs.{disagreement}
use Rattle.trellis.specs.Paths.{end_of, path_cost}
use Rattle.turbo_code.specs.Encoder.{bit_at, back, before, parity, tail_x, tail_z}
use Rattle.turbo_dec.specs.Decoder.{Values, at, taken, score_at, tail_score, score}
use Rattle.turbo_code.specs.Machine.{next, tail_bit, tail_parity}
use Rattle.turbo_dec.specs.Costs.{step_cost, tail_step_cost, tail_cost}
use Rattle.turbo_code.proofs.Registers.{state, state_at, parity_at, tail_bit_is, tail_parity_is, half_is, path_is}

-- a value's term in the score plus its cost does not depend on the bit
taken_cost : (z : ℤ) (b : Bool) → taken z b +ℤ pos (disagreement z b) ≡ pos (disagreement z true)
taken_cost (pos n) false = omega (arith, ints)
taken_cost (pos n) true = omega (arith, ints)
taken_cost (negsuc n) false = omega (arith, ints)
taken_cost (negsuc n) true = refl

-- two sums whose terms add up to the terms of a third
sums_make : (n : ℕ) (f : ℕ → ℤ) (g h : ℕ → ℕ) → ((k : ℕ) → f k +ℤ pos (g k) ≡ pos (h k)) → sum_below n f +ℤ pos (total_below n g) ≡ pos (total_below n h)
sums_make n f g h each =
    ap (λ s. sum_below n f +ℤ s) (sym (sum_below_pos n g)) ∙ sym (sum_below_plus n f (λ k. pos (g k)))
    ∙ sum_below_same n (λ k. f k +ℤ pos (g k)) (λ k. pos (h k)) (λ k _. each k) ∙ sum_below_pos n h

-- the maximum contribution to a score from the two values at index k, and from those in a tail step
worth_at : Values → ℕ → ℕ
worth_at v k = disagreement (at v.systematic k +ℤ at v.prior k) true + disagreement (at v.parity k) true

tail_worth : List ℤ → ℕ → ℕ
tail_worth tail j = disagreement (at tail (2 * j)) true + disagreement (at tail (2 * j + 1)) true

-- the maximum contribution of all values
pub worth : Values → ℕ
worth v = total_below (length v.systematic) (worth_at v) + total_below 3 (tail_worth v.tail)

makes_at : (v : Values) (word : List Bool) (k : ℕ) → score_at v word k +ℤ pos (step_cost v k (state_at word k) (bit_at word k)) ≡ pos (worth_at v k)
unfolding worth_at
makes_at v word k =
    let s = taken_cost (at v.systematic k +ℤ at v.prior k) (bit_at word k) in
    let p = taken_cost (at v.parity k) (parity word k) in
    rw (parity_at word k) (omega (arith, ints, s, p))

step_makes : (v : Values) (word : List Bool) (j x : ℕ) → tail_x word j ≡ tail_bit x → tail_z word j ≡ tail_parity x →
    tail_score v word j +ℤ pos (tail_step_cost v.tail j x) ≡ pos (tail_worth v.tail j)
unfolding tail_worth
step_makes v word j x bit check =
    let s = taken_cost (at v.tail (2 * j)) (tail_x word j) in
    let p = taken_cost (at v.tail (2 * j + 1)) (tail_z word j) in
    rw (← bit, ← check) (omega (arith, ints, s, p))

-- the tail's cost from the state with bits a, b and c
tail_cost_is : (tail : List ℤ) (a b c : Bool) →
    tail_cost tail (state a b c) ≡ tail_step_cost tail 0 (state a b c) + tail_step_cost tail 1 (state false a b) + tail_step_cost tail 2 (state false false a)
tail_cost_is tail a b c =
    let half = half_is a b c in
    let quarter = ap (λ n. n / 2) half ∙ half_is false a b in
    ap₂ (λ y z. tail_step_cost tail 0 (state a b c) + tail_step_cost tail 1 y + tail_step_cost tail 2 z) half quarter

three_make : (f : ℕ → ℤ) (h : ℕ → ℕ) (a b c : ℕ) → f 0 +ℤ pos a ≡ pos (h 0) → f 1 +ℤ pos b ≡ pos (h 1) → f 2 +ℤ pos c ≡ pos (h 2) →
    sum_below 3 f +ℤ pos (a + b + c) ≡ pos (total_below 3 h)
unfolding sum_below total_below
three_make f h a b c e0 e1 e2 = omega (arith, ints, e0, e1, e2)

tail_makes : (v : Values) (word : List Bool) →
    sum_below 3 (tail_score v word) +ℤ pos (tail_cost v.tail (state_at word (length word))) ≡ pos (total_below 3 (tail_worth v.tail))
unfolding tail_x tail_z
tail_makes v word =
    let past = before word (length word) in
    let a = back past 1 in
    let b = back past 2 in
    let c = back past 3 in
    ap (λ n. sum_below 3 (tail_score v word) +ℤ pos n) (tail_cost_is v.tail a b c)
    ∙ three_make (tail_score v word) (tail_worth v.tail) (tail_step_cost v.tail 0 (state a b c)) (tail_step_cost v.tail 1 (state false a b)) (tail_step_cost v.tail 2 (state false false a))
    (step_makes v word 0 (state a b c) (sym (tail_bit_is a b c)) (sym (tail_parity_is a b c)))
    (step_makes v word 1 (state false a b) (sym (tail_bit_is false a b)) (sym (tail_parity_is false a b)))
    (step_makes v word 2 (state false false a) (sym (tail_bit_is false false a)) (sym (tail_parity_is false false a)))

-- a word's path cost, with its tail
abbrev pub cost : Values → List Bool → ℕ
cost v word = path_cost next (step_cost v) 0 0 word + tail_cost v.tail (end_of next 0 word)

pub score_cost : (v : Values) (word : List Bool) → length word ≡ length v.systematic → score v word +ℤ pos (cost v word) ≡ pos (worth v)
unfolding score worth
score_cost v word size =
    let path = path_is (step_cost v) word in
    let indices = sums_make (length word) (score_at v word) (λ k. step_cost v k (state_at word k) (bit_at word k)) (worth_at v) (makes_at v word) in
    let tail = tail_makes v word in
    rw (path.cost, path.there, ← size) (omega (arith, ints, indices, tail))
