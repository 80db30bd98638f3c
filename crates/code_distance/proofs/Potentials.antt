-- Potentials of the 64 states. A path that leaves state 0 and returns to it has at least 15 coded ones, and a path that
-- never visits state 0 has at least two in three steps.
use Rattle.std.proofs.Common.{◌≡◌, ℕ, zero, suc, ◌+◌, ◌*◌, ◌<◌, ◌≤◌, ◌⊎◌, inl, inr, arith, refl, Bool, true, false, List, [], ◌∷◌, length, get_or, ℤ, pos, nat_le}
use Rattle.std.specs.Prelude.{◌&&◌}
use Rattle.std.proofs.lemmas.Bool.{and_parts, leb-true}
use Rattle.finite.specs.Tests.{every_below}
use Rattle.finite.proofs.Tests.{every_below_at}
use Rattle.trellis.specs.Paths.{end_of, path_cost}
use Rattle.trellis.proofs.Potential.{potential-le}
use Rattle.tailbite.specs.Machine.{shift, branch_cost}
use Rattle.tailbite.proofs.Windows.{shift_below}

-- a value for each coded bit that contradicts a 1 and does not contradict a 0
abbrev pub all_ones : List ℤ
all_ones = pos 1 ∷ pos 1 ∷ pos 1 ∷ []

-- the coded ones of a step
abbrev pub weight : ℕ → Bool → ℕ
weight x b = branch_cost all_ones x b

-- a lower bound of the coded ones on a path from state 0, which leaves this state, to each of the states 1 to 63
unfoldable rises : List ℕ
rises =
    12 ∷ 11 ∷ 10 ∷ 10 ∷ 10 ∷ 9 ∷ 9 ∷ 8 ∷ 9 ∷ 9 ∷ 9 ∷ 6 ∷ 10 ∷ 7 ∷ 10 ∷ 5 ∷ 10 ∷ 10 ∷ 8 ∷ 7 ∷ 9 ∷ 8 ∷ 9 ∷ 5 ∷ 10 ∷ 8 ∷
    10 ∷ 7 ∷ 9 ∷ 9 ∷ 9 ∷ 3 ∷ 11 ∷ 11 ∷ 10 ∷ 9 ∷ 10 ∷ 6 ∷ 8 ∷ 5 ∷ 10 ∷ 8 ∷ 10 ∷ 7 ∷ 9 ∷ 9 ∷ 10 ∷ 4 ∷ 11 ∷ 11 ∷ 7 ∷ 6 ∷
    10 ∷ 9 ∷ 10 ∷ 6 ∷ 7 ∷ 7 ∷ 11 ∷ 8 ∷ 8 ∷ 9 ∷ 9 ∷ []

-- with 15 for a path back to state 0
abbrev up : ℕ → ℕ
up x = get_or (15 ∷ rises) x 0

-- with 0 for a path that is in state 0
abbrev low : ℕ → ℕ
low x = get_or (0 ∷ rises) x 0

-- between states other than 0, three times the coded ones less two for each step fall by at most the difference of these
unfoldable falls : List ℕ
falls =
    0 ∷ 8 ∷ 7 ∷ 8 ∷ 6 ∷ 7 ∷ 5 ∷ 8 ∷ 2 ∷ 8 ∷ 6 ∷ 4 ∷ 8 ∷ 7 ∷ 6 ∷ 7 ∷ 8 ∷ 4 ∷ 4 ∷ 8 ∷ 6 ∷ 5 ∷ 6 ∷ 0 ∷ 8 ∷ 4 ∷ 3 ∷ 6 ∷
    8 ∷ 4 ∷ 8 ∷ 3 ∷ 6 ∷ 8 ∷ 8 ∷ 6 ∷ 3 ∷ 5 ∷ 6 ∷ 7 ∷ 6 ∷ 5 ∷ 7 ∷ 1 ∷ 5 ∷ 4 ∷ 2 ∷ 4 ∷ 7 ∷ 6 ∷ 6 ∷ 7 ∷ 7 ∷ 2 ∷ 5 ∷ 2 ∷
    7 ∷ 5 ∷ 6 ∷ 3 ∷ 6 ∷ 7 ∷ 7 ∷ 5 ∷ []

abbrev psi : ℕ → ℕ
psi x = get_or falls x 0

-- ---- the comparisons of one step, by computation

abbrev up_step : ℕ → Bool → Bool
up_step x b = nat_le (up (shift x b)) (up x + weight x b)

abbrev low_step : ℕ → Bool → Bool
low_step x b = nat_le (low (shift x b)) (low x + weight x b)

abbrev psi_step : ℕ → Bool → Bool
psi_step x b = nat_le (psi (shift (suc x) b) + 2) (psi (suc x) + 3 * weight (suc x) b)

unfoldable both : (ℕ → Bool → Bool) → ℕ → Bool
both p x = p x false && p x true

all_up : every_below 64 (both up_step) ≡ true
unfolding every_below both rises
all_up = refl

all_low : every_below 64 (both low_step) ≡ true
unfolding every_below both rises
all_low = refl

all_psi : every_below 63 (both psi_step) ≡ true
unfolding every_below both falls
all_psi = refl

one_of : (p : ℕ → Bool → Bool) (n x : ℕ) (b : Bool) → every_below n (both p) ≡ true → x < n → p x b ≡ true
unfolding both
one_of p n x false all below = (and_parts (p x false) (p x true) (every_below_at n (both p) all x below)).0
one_of p n x true all below = (and_parts (p x false) (p x true) (every_below_at n (both p) all x below)).1

up_holds : (x : ℕ) (b : Bool) → x < 64 → up (shift x b) ≤ up x + weight x b
up_holds x b below = leb-true _ _ (one_of up_step 64 x b all_up below)

low_holds : (x : ℕ) (b : Bool) → x < 64 → low (shift x b) ≤ low x + weight x b
low_holds x b below = leb-true _ _ (one_of low_step 64 x b all_low below)

psi_holds : (x : ℕ) (b : Bool) → suc x < 64 → psi (shift (suc x) b) + 2 ≤ psi (suc x) + 3 * weight (suc x) b
psi_holds x b below = leb-true _ _ (one_of psi_step 63 x b all_psi (omega arith))

up_32 : up 32 ≡ 3
unfolding rises
up_32 = refl

first_weight : weight 0 true ≡ 3
first_weight = refl

-- ---- paths; c gives the weight of each step below n

module _ (n : ℕ) (c : ℕ → ℕ → Bool → ℕ) (is : (k x : ℕ) (b : Bool) → k < n → c k x b ≡ weight x b) where
  up_path : (k x : ℕ) (bs : List Bool) → x < 64 → k + length bs ≡ n → up (end_of shift x bs) ≤ up x + path_cost shift c k x bs
  up_path k x bs below size = potential-le shift c (λ k x. up x) 64 n shift_below (λ k x b inside there. rw (is k x b inside) (up_holds x b there)) k x bs below size

  low_path : (k x : ℕ) (bs : List Bool) → x < 64 → k + length bs ≡ n → low (end_of shift x bs) ≤ low x + path_cost shift c k x bs
  low_path k x bs below size = potential-le shift c (λ k x. low x) 64 n shift_below (λ k x b inside there. rw (is k x b inside) (low_holds x b there)) k x bs below size

  -- a path never visits state 0, or does
  never_or_once : (k x : ℕ) (bs : List Bool) → x < 64 → k + length bs ≡ n →
      (2 * length bs + psi (end_of shift x bs) ≤ 3 * path_cost shift c k x bs + psi x)
      ⊎ (15 + low (end_of shift x bs) ≤ path_cost shift c k x bs + up x)
  never_or_once k zero bs below size = let h = low_path k 0 bs below size in inr (omega (arith, h))
  never_or_once k (suc x) [] below size = inl (omega arith)
  never_or_once k (suc x) (b ∷ bs) below size =
      let here = is k (suc x) b (omega arith) in
      let p = psi_holds x b below in
      let u = up_holds (suc x) b below in
      elim (never_or_once (suc k) (shift (suc x) b) bs (shift_below (suc x) b below) (omega arith)) [
        | inl h ↦ inl (omega (arith, h, here, p))
        | inr h ↦ inr (omega (arith, h, here, u))
      ]

  -- a path from state 0 with a 1 leaves it
  leaves : (k i : ℕ) (bs : List Bool) → k + length bs ≡ n → i < length bs → get_or bs i false ≡ true → up (end_of shift 0 bs) ≤ path_cost shift c k 0 bs
  leaves k i [] size inside one = absurd (omega arith)
  leaves k i (true ∷ bs) size inside one =
      let here = is k 0 true (omega arith) in
      let h = up_path (suc k) 32 bs (omega arith) (omega arith) in
      omega (arith, here, h, up_32, first_weight)
  leaves k zero (false ∷ bs) size inside one = absurd cc
  leaves k (suc i) (false ∷ bs) size inside one =
      let h = leaves (suc k) i bs (omega arith) (omega arith) one in
      omega (arith, h)

  -- a path of n steps that ends where it began, with a 1, has 15 coded ones
  pub fifteen : (s i : ℕ) (bs : List Bool) → 22 ≤ n → s < 64 → length bs ≡ n → end_of shift s bs ≡ s → i < n → get_or bs i false ≡ true → 15 ≤ path_cost shift c 0 s bs
  fifteen zero i bs long below size closed inside one =
      let h = leaves 0 i bs (omega arith) (omega arith) one in
      let h' = rw closed at h in
      omega (arith, h')
  fifteen (suc s) i bs long below size closed inside one =
      elim (never_or_once 0 (suc s) bs below (omega arith)) [
        | inl h ↦ let h' = rw closed at h in omega (arith, h', long, size)
        | inr h ↦ let h' = rw closed at h in omega (arith, h')
      ]
