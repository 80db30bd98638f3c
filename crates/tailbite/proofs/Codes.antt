-- The coded bits of steps, as numbers.
use Rattle.std.proofs.Common.{◌≡◌, ℕ, ◌+◌, ◌-◌, ◌*◌, ◌/◌, ◌^◌, ◌<◌, ◌≤◌, Bool, true, false, cond, List, length, map, get_or, ℤ, inl, inr, refl, ap, sym, ◌∙◌, arith}
use Rattle.std.specs.Prelude.{◌&&◌, nat_lt}
use Rattle.std.specs.Bool.{beq}
use Rattle.std.proofs.lemmas.List.{length-append, length-map, get_or-map, get_or_append_left, get_or-append_right}
use Rattle.std.proofs.lemmas.Bool.{and_parts, cases_lt, ltb-true}
use Rattle.finite.specs.Bits.{odd, xor}
use Rattle.finite.specs.Tests.{every_below}
use Rattle.finite.proofs.Tests.{every_below_at}
use Rattle.conv_code.specs.Code.{parity, taps_0, taps_1, taps_2}
use Rattle.conv_code.specs.Cost.{triple_cost}
use Rattle.tailbite.specs.Machine.{window_bit, branch_cost}
use Rattle.tailbite.specs.Costs.{even_codes, spread_costs, code_cost, AreCosts}

-- the number of the coded bits in the step from x by b
abbrev code_of : ℕ → Bool → ℕ
code_of x b = cond (xor b (odd x)) (7 - get_or even_codes (x / 2) 0) (get_or even_codes (x / 2) 0)

-- the number has the three coded bits
abbrev tells_bits : ℕ → Bool → Bool
tells_bits x b =
    beq (parity (map (window_bit x b) taps_0)) (odd (code_of x b / 4)) &&
    (beq (parity (map (window_bit x b) taps_1)) (odd (code_of x b / 2)) && beq (parity (map (window_bit x b) taps_2)) (odd (code_of x b)))

unfoldable code_test : ℕ → Bool
code_test x = tells_bits x false && tells_bits x true

all_codes : every_below 64 code_test ≡ true
unfolding every_below code_test even_codes
all_codes = refl

same_bit : (a b : Bool) → beq a b ≡ true → a ≡ b
same_bit true true e = refl
same_bit false false e = refl
same_bit true false e = sym e
same_bit false true e = e

decoded_bits : (x : ℕ) (b : Bool) → x < 64 → tells_bits x b ≡ true
unfolding code_test
decoded_bits x false below = (and_parts _ _ (every_below_at 64 code_test all_codes x below)).0
decoded_bits x true below = (and_parts _ _ (every_below_at 64 code_test all_codes x below)).1

same_cost : (v : List ℤ) (a a' b b' c c' : Bool) → a ≡ a' → b ≡ b' → c ≡ c' → triple_cost v a b c ≡ triple_cost v a' b' c'
same_cost v a a' b b' c c' p q r = rw (p, q, r) refl

branch_by_code : (v : List ℤ) (x : ℕ) (b : Bool) → x < 64 → branch_cost v x b ≡ code_cost v (code_of x b)
branch_by_code v x b below =
    let decoded = and_parts _ _ (decoded_bits x b below) in
    let rest = and_parts _ _ decoded.1 in
    same_cost v _ _ _ _ _ _ (same_bit _ _ decoded.0) (same_bit _ _ rest.0) (same_bit _ _ rest.1)

small_test : ℕ → Bool
small_test h = nat_lt (get_or even_codes h 0) 8

all_small : every_below 32 small_test ≡ true
unfolding every_below small_test even_codes
all_small = refl

pub code_below : (h : ℕ) → h < 32 → get_or even_codes h 0 < 8
unfolding small_test
code_below h below = ltb-true _ _ (every_below_at 32 small_test all_small h below)

count_of_codes : length even_codes ≡ 32
unfolding even_codes
count_of_codes = refl

-- ---- one position's table

-- the table's costs for the pairs of states below h
pub record HasPairs (v : List ℤ) (costs : List ℕ) (h : ℕ) : Type 0 where
  pub size : length costs ≡ 64
  pub former : (k : ℕ) → k < h → get_or costs k 0 ≡ code_cost v (get_or even_codes k 0)
  pub latter : (k : ℕ) → k < h → get_or costs (k + 32) 0 ≡ code_cost v (7 - get_or even_codes k 0)
  pub former_small : (k : ℕ) → k < h → get_or costs k 0 ≤ 3 * 2 ^ 20
  pub latter_small : (k : ℕ) → k < h → get_or costs (k + 32) 0 ≤ 3 * 2 ^ 20

-- the costs by code, spread, are right for all pairs
pub spread_pairs : (v : List ℤ) (by_code costs : List ℕ) → costs ≡ spread_costs by_code →
    ((p : ℕ) → p < 8 → get_or by_code p 0 ≡ code_cost v p) → ((p : ℕ) → p < 8 → get_or by_code p 0 ≤ 3 * 2 ^ 20) → HasPairs v costs 32
unfolding spread_costs
spread_pairs v by_code costs is each small = record {
  size = ap length is ∙ length-append first second ∙ rw (long, long') refl;
  former = λ k below. at_first k below ∙ each (get_or even_codes k 0) (code_below k below);
  latter = λ k below. at_second k below ∙ each (7 - get_or even_codes k 0) (omega arith);
  former_small = λ k below. rw (at_first k below) (small (get_or even_codes k 0) (code_below k below));
  latter_small = λ k below. rw (at_second k below) (small (7 - get_or even_codes k 0) (omega arith));
}
  where
    first : List ℕ
    first = map (λ code. get_or by_code code 0) even_codes

    second : List ℕ
    second = map (λ code. get_or by_code (7 - code) 0) even_codes

    long : length first ≡ 32
    long = length-map even_codes _ ∙ count_of_codes

    long' : length second ≡ 32
    long' = length-map even_codes _ ∙ count_of_codes

    at_first : (k : ℕ) → k < 32 → get_or costs k 0 ≡ get_or by_code (get_or even_codes k 0) 0
    at_first k below =
        ap (λ xs. get_or xs k 0) is ∙ get_or_append_left first second 0 k (omega (arith, long, below))
        ∙ get_or-map (λ code. get_or by_code code 0) even_codes k 0 0 (omega (arith, count_of_codes, below))

    at_second : (k : ℕ) → k < 32 → get_or costs (k + 32) 0 ≡ get_or by_code (7 - get_or even_codes k 0) 0
    at_second k below =
        let e : k + 32 - 32 ≡ k = omega arith in
        ap (λ xs. get_or xs (k + 32) 0) is ∙ get_or-append_right first second 32 (k + 32) 0 long (omega arith)
        ∙ rw e (get_or-map (λ code. get_or by_code (7 - code) 0) even_codes k 0 0 (omega (arith, count_of_codes, below)))

half_cost : (v : List ℤ) (costs : List ℕ) (h : ℕ) (t : Bool) → HasPairs v costs 32 → h < 32 →
    get_or costs (h + cond t 32 0) 0 ≡ code_cost v (cond t (7 - get_or even_codes h 0) (get_or even_codes h 0))
half_cost v costs h false pairs below = let e : h + 0 ≡ h = omega arith in rw e (pairs.former h below)
half_cost v costs h true pairs below = pairs.latter h below

pub costs_by_pairs : (v : List ℤ) (costs : List ℕ) → HasPairs v costs 32 → AreCosts v costs
costs_by_pairs v costs pairs = record {
  cost = λ x b below. half_cost v costs (x / 2) (xor b (odd x)) pairs (omega (arith, below)) ∙ sym (branch_by_code v x b below);
  small = λ y below. elim (cases_lt y 32) [
    | inl low ↦ pairs.former_small y low
    | inr high ↦ let e : y - 32 + 32 ≡ y = omega (arith, high) in rw e at (pairs.latter_small (y - 32) (omega (arith, below)))
  ];
}
