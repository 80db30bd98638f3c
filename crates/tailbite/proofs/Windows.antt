-- The bits of a state are the last bits of the word, cyclically.
use Rattle.std.proofs.Common.{◌≡◌, ℕ, zero, suc, ◌+◌, ◌-◌, ◌/◌, ◌%◌, ◌^◌, ◌<◌, ◌≤◌, Bool, true, false, cond, List, [], ◌∷◌, ◌++◌, length, get_or, refl, ap, sym, ◌∙◌, inl, inr, arith, length-append, eqb}
use Rattle.std.proofs.lemmas.Bool.{cases_lt}
use Rattle.std.proofs.Math.Nat.{add-mod_right, mod-eq_of_lt}
use Rattle.std.proofs.lemmas.Bool.Decides.{nat_tests}
use Rattle.std.proofs.Math.ListN.{get_or-append}
use Rattle.std.proofs.Math.Seq.{get_or-append_seam}
use Rattle.trellis.specs.Paths.{end_of}
use Rattle.trellis.proofs.Paths as paths
use Rattle.conv_code.specs.Code.{bit_back}
use Rattle.finite.specs.Bits.{odd}
use Rattle.tailbite.specs.Machine.{shift, window_bit}

pub shift_below : (x : ℕ) (b : Bool) → x < 64 → shift x b < 64
shift_below x false h = omega arith
shift_below x true h = omega arith

pub end_below : (x : ℕ) (bs : List Bool) → x < 64 → end_of shift x bs < 64
end_below x bs h = paths.end_below shift 64 x bs shift_below h

-- the newest bit of a state
newest : (x : ℕ) (b c : Bool) → x < 64 → window_bit (shift x b) c 1 ≡ b
newest x false c h = let e : (x / 2 + 0) / 2 ^ 5 % 2 ≡ 0 = omega arith in rw e refl
newest x true c h = let e : (x / 2 + 32) / 2 ^ 5 % 2 ≡ 1 = omega arith in rw e refl

-- the other bits move on
move_on : (x : ℕ) (b : Bool) (t : ℕ) → t < 5 → (x / 2 + cond b 32 0) / 2 ^ (4 - t) % 2 ≡ x / 2 ^ (5 - t) % 2
move_on x false zero h = omega arith
move_on x true zero h = omega arith
move_on x false (suc zero) h = omega arith
move_on x true (suc zero) h = omega arith
move_on x false (suc (suc zero)) h = omega arith
move_on x true (suc (suc zero)) h = omega arith
move_on x false (suc (suc (suc zero))) h = omega arith
move_on x true (suc (suc (suc zero))) h = omega arith
move_on x false (suc (suc (suc (suc zero)))) h = omega arith
move_on x true (suc (suc (suc (suc zero)))) h = omega arith
move_on x b (suc (suc (suc (suc (suc t))))) h = absurd (omega arith)

moved : (x : ℕ) (b c : Bool) (t : ℕ) → suc t < 6 → window_bit (shift x b) c (suc (suc t)) ≡ window_bit x c (suc t)
moved x b c t k =
    let e : 5 - suc t ≡ 4 - t = omega arith in
    rw e (ap (λ n. eqb n 1) (move_on x b t (omega arith)))

-- the bit t + 1 steps back is in the old state if fewer bits were read
pub older : (x : ℕ) (bs : List Bool) (c : Bool) (t : ℕ) → x < 64 → t < 6 → length bs ≤ t →
    window_bit (end_of shift x bs) c (suc t) ≡ window_bit x c (suc (t - length bs))
older x [] c t h k before = let e : t - 0 ≡ t = omega arith in rw e refl
older x (b ∷ bs) c t h k before =
    let e : t - length bs ≡ suc (t - suc (length bs)) = omega arith in
    older (shift x b) bs c t (shift_below x b h) k (omega arith) ∙ rw e (moved x b c (t - suc (length bs)) (omega arith))

-- the bit t + 1 steps back is among the bits read if there are enough
pub recent : (x : ℕ) (bs : List Bool) (c : Bool) (t : ℕ) → x < 64 → t < 6 → suc t ≤ length bs →
    window_bit (end_of shift x bs) c (suc t) ≡ get_or bs (length bs - suc t) false
recent x [] c t h k inside = absurd (omega arith)
recent x (b ∷ bs) c t h k inside = elim (cases_lt t (length bs)) [
  | inl in_rest ↦
      let e : suc (length bs) - suc t ≡ suc (length bs - suc t) = omega arith in
      rw e (recent (shift x b) bs c t (shift_below x b h) k in_rest)
  | inr is_first ↦
      let e : suc (length bs) - suc t ≡ 0 = omega arith in
      let e' : t - length bs ≡ 0 = omega arith in
      rw e (older (shift x b) bs c t (shift_below x b h) k is_first ∙ rw e' (newest x b c h))
]

back_inside : (k t n : ℕ) → t ≤ k → k < n → (k + n - t) % n ≡ k - t
back_inside k t n h below =
    let e : k + n - t ≡ (k - t) + n = omega arith in
    let lt : k - t < n = omega arith in
    rw e (add-mod_right (k - t) n ∙ mod-eq_of_lt lt)

back_outside : (k t n : ℕ) → k < t → t ≤ n → (k + n - t) % n ≡ k + n - t
back_outside k t n h below = let lt : k + n - t < n = omega arith in mod-eq_of_lt lt

-- the window's bit is the word's bit, cyclically
pub window-cyclic : (before : List Bool) (b : Bool) (after : List Bool) (t : ℕ) → t < 7 → 6 ≤ length (before ++ b ∷ after) →
    window_bit (end_of shift (end_of shift 0 (before ++ b ∷ after)) before) b t ≡ bit_back (before ++ b ∷ after) (length before) t
window-cyclic before b after zero h size =
    let n = length (before ++ b ∷ after) in
    let le = length-append before (b ∷ after) in
    let z : length before - 0 ≡ length before = omega arith in
    rw (back_inside (length before) 0 n (omega arith) (omega (arith, le)), z) (sym (get_or-append_seam before b after false))
window-cyclic before b after (suc t) h size =
    let word : List Bool = before ++ b ∷ after in
    let le : length word ≡ length before + suc (length after) = length-append before (b ∷ after) in
    elim (cases_lt t (length before)) [
      | inl inside ↦
          rw (back_inside (length before) (suc t) (length word) inside (omega (arith, le)))
          (recent (end_of shift 0 word) before b t (end_below 0 word (omega arith)) (omega arith) inside
          ∙ sym (get_or-append before (b ∷ after) false (length before - suc t) (omega arith)))
      | inr outside ↦
          let e : length word - suc (t - length before) ≡ length before + length word - suc t = omega (arith, le) in
          rw (back_outside (length before) (suc t) (length word) (omega arith) (omega arith))
          (older (end_of shift 0 word) before b t (end_below 0 word (omega arith)) (omega arith) outside
          ∙ recent 0 word b (t - length before) (omega arith) (omega arith) (omega (arith, le)) ∙ ap (λ i. get_or word i false) e)
    ]

-- a number below 64 is determined by its six bits
odd_same : (a b : ℕ) → odd a ≡ odd b → a % 2 ≡ b % 2
odd_same a b h = grind (arith, nat_tests)

same_state : (x y : ℕ) → x < 64 → y < 64 → ((t : ℕ) → t < 6 → window_bit x false (suc t) ≡ window_bit y false (suc t)) → x ≡ y
same_state x y hx hy h =
    let h0 : x / 32 % 2 ≡ y / 32 % 2 = odd_same (x / 32) (y / 32) (h 0 (omega arith)) in
    let h1 : x / 16 % 2 ≡ y / 16 % 2 = odd_same (x / 16) (y / 16) (h 1 (omega arith)) in
    let h2 : x / 8 % 2 ≡ y / 8 % 2 = odd_same (x / 8) (y / 8) (h 2 (omega arith)) in
    let h3 : x / 4 % 2 ≡ y / 4 % 2 = odd_same (x / 4) (y / 4) (h 3 (omega arith)) in
    let h4 : x / 2 % 2 ≡ y / 2 % 2 = odd_same (x / 2) (y / 2) (h 4 (omega arith)) in
    let h5 : x / 1 % 2 ≡ y / 1 % 2 = odd_same (x / 1) (y / 1) (h 5 (omega arith)) in
    omega arith

-- six bits determine the state, whatever it was before
pub same_end : (x y : ℕ) (bs : List Bool) → x < 64 → y < 64 → 6 ≤ length bs → end_of shift x bs ≡ end_of shift y bs
same_end x y bs hx hy size = same_state _ _ (end_below x bs hx) (end_below y bs hy)
    (λ t below. recent x bs false t hx below (omega arith) ∙ sym (recent y bs false t hy below (omega arith)))
