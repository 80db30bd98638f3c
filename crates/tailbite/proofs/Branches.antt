-- A word of the code is a path from a state back to the same state, and costs as much as the path.
use Rattle.std.proofs.Common.{◌≡◌, ℕ, zero, suc, ◌+◌, ◌<◌, ◌≤◌, Bool, List, [], ◌∷◌, ◌++◌, length, map, get_or, ℤ, refl, sym, ◌∙◌, arith, append_assoc, length-append}
use Rattle.finite.specs.Sums.{total_below}
use Rattle.trellis.specs.Paths.{end_of, path_cost}
use Rattle.trellis.proofs.Paths.{end_of-append}
use Rattle.conv_code.specs.Code.{parity, bit_back, taps_0, taps_1, taps_2}
use Rattle.conv_code.specs.Cost.{triple_cost, cost_at, word_cost}
use Rattle.tailbite.specs.Machine.{shift, window_bit, step_cost}
use Rattle.tailbite.proofs.Windows.{window-cyclic}

-- f k + .. + f (k + n - 1)
unfoldable total_from : (ℕ → ℕ) → ℕ → ℕ → ℕ
total_from f k zero = 0
total_from f k (suc n) = f k + total_from f (suc k) n

total_below-from : (f : ℕ → ℕ) (k n : ℕ) → total_below k f + total_from f k n ≡ total_below (k + n) f
unfolding total_below total_from
total_below-from f k zero = let e : k + 0 ≡ k = omega arith in rw e (omega arith)
total_below-from f k (suc n) =
    let e : suc k + n ≡ k + suc n = omega arith in
    let ih = rw e at (total_below-from f (suc k) n) in
    omega (arith, ih)

same_triple : (v : List ℤ) (f g : ℕ → Bool) → ((t : ℕ) → t < 7 → f t ≡ g t) →
    triple_cost v (parity (map f taps_0)) (parity (map f taps_1)) (parity (map f taps_2))
    ≡ triple_cost v (parity (map g taps_0)) (parity (map g taps_1)) (parity (map g taps_2))
same_triple v f g h =
    let h0 = h 0 (omega arith) in
    let h1 = h 1 (omega arith) in
    let h2 = h 2 (omega arith) in
    let h3 = h 3 (omega arith) in
    let h4 = h 4 (omega arith) in
    let h5 = h 5 (omega arith) in
    let h6 = h 6 (omega arith) in
    rw (h0, h1, h2, h3, h4, h5, h6) refl

-- from any position, a word costs as much as its path
cost-path : (values : List (List ℤ)) (word before after : List Bool) → word ≡ before ++ after → 6 ≤ length word →
    total_from (cost_at values word) (length before) (length after)
    ≡ path_cost shift (step_cost values) (length before) (end_of shift (end_of shift 0 word) before) after
unfolding total_from
cost-path values word before [] e h = refl
cost-path values word before (b ∷ after) e h =
    let s = end_of shift 0 word in
    let bits : (t : ℕ) → t < 7 → window_bit (end_of shift s before) b t ≡ bit_back word (length before) t =
    λ t below. rw e (window-cyclic before b after t below (rw (← e) h)) in
    let here = same_triple (get_or values (length before) []) (window_bit (end_of shift s before) b) (bit_back word (length before)) bits in
    let ih = cost-path values word (before ++ b ∷ []) after (e ∙ sym (append_assoc before (b ∷ []) after)) h in
    let k : length (before ++ b ∷ []) ≡ suc (length before) = length-append before (b ∷ []) ∙ (omega arith) in
    let x = end_of-append shift s before (b ∷ []) in
    rw (← here, ← k, ← x, ih) refl

-- a word costs as much as its path, which starts and ends in the state of its last six bits
pub word_cost-path : (values : List (List ℤ)) (word : List Bool) → length word ≡ length values → 6 ≤ length word →
    word_cost values word ≡ path_cost shift (step_cost values) 0 (end_of shift 0 word) word
unfolding word_cost total_below
word_cost-path values word size h =
    let all = total_below-from (cost_at values word) 0 (length word) in
    let e : 0 + length word ≡ length values = omega (arith, size) in
    let all' = rw e at all in
    sym all' ∙ (let z : 0 + total_from (cost_at values word) 0 (length word) ≡ total_from (cost_at values word) 0 (length word) = omega arith in z)
    ∙ cost-path values word [] word refl h
