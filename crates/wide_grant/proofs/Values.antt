-- The run that a resource indication value selects has this value.
use Rattle.std.proofs.Common.{ℕ, ◌+◌, ◌-◌, ◌*◌, ◌/◌, ◌%◌, ◌<◌, ◌≤◌, ◌≡◌, ◌⊎◌, inl, inr, cond, nat_le, ap, ◌∙◌, subst, arith}
use Rattle.std.proofs.Math.Nat.{div-add-mod, mod-lt, mul-le-mul_left}
use Rattle.std.proofs.lemmas.Bool.{cases_lt, le-leb, lt-leb}
use Rattle.wide_grant.specs.declared.run.Run.{Run}
use Rattle.wide_grant.specs.Runs.{run_count, run_of}
use Rattle.wide_grant.specs.Laws.{HasValue}

abbrev run : ℕ → ℕ → Run
run start blocks = record { start = start; blocks = blocks }

double : (m q : ℕ) → m * (2 * q) ≡ 2 * (m * q)
double m q = omega arith

square_more : (m : ℕ) → m * (m + 1) ≡ m * m + m
square_more m = omega arith

-- a quotient of a value is at most half the count
half : (m q a : ℕ) → m * q + a < m * (m + 1) / 2 → 2 * q ≤ m
half m q a l = settle (cases_lt m (2 * q))
  where
    settle : (m < 2 * q) ⊎ (2 * q ≤ m) → 2 * q ≤ m
    settle (inr few) = few
    settle (inl past) =
        let more : m * (m + 1) ≤ m * (2 * q) = mul-le-mul_left m (omega (arith, past)) in
        let twice = double m q in
        absurd (omega (arith, l, more, twice))

-- a run that ends past the count is mirrored, and has more than half of the blocks
mirrored : (m q a : ℕ) → m * q + a < m * (m + 1) / 2 → a < m → m < a + (q + 1) → m / 2 < m - q
mirrored m q a l few past = settle (cases_lt (m / 2) (m - q))
  where
    settle : (m / 2 < m - q) ⊎ (m - q ≤ m / 2) → m / 2 < m - q
    settle (inl more) = more
    settle (inr less) =
        let most = half m q a l in
        let even : m ≡ 2 * q = omega (arith, less, most) in
        let square : m * m ≡ 2 * (m * q) = ap (λ n. m * n) even ∙ double m q in
        let split = square_more m in
        absurd (omega (arith, l, square, split, even, past))

-- the run with quotient q and rest a has the value m * q + a
with_parts : (m q a : ℕ) → m * q + a < m * (m + 1) / 2 → a < m →
    HasValue m (m * q + a) (cond (nat_le (a + (q + 1)) m) (run a (q + 1)) (run (m - 1 - a) (m + 2 - (q + 1))))
with_parts m q a l few = settle (cases_lt m (a + (q + 1)))
  where
    settle : (m < a + (q + 1)) ⊎ (a + (q + 1) ≤ m) →
        HasValue m (m * q + a) (cond (nat_le (a + (q + 1)) m) (run a (q + 1)) (run (m - 1 - a) (m + 2 - (q + 1))))
    settle (inr within) =
        let most = half m q a l in
        rw (le-leb (a + (q + 1)) m within) (record {
          some = omega arith;
          inside = within;
          is = rw (le-leb (q + 1 - 1) (m / 2) (omega (arith, most))) (ap (λ n. m * n + a) (omega arith));
        })
    settle (inl past) =
        let most = half m q a l in
        let more = mirrored m q a l few past in
        rw (lt-leb (a + (q + 1)) m past) (record {
          some = omega (arith, most, few, past);
          inside = omega (arith, most, few, past);
          is = rw (lt-leb (m + 2 - (q + 1) - 1) (m / 2) (omega (arith, more, most)))
              (ap (λ n. m * n + (m - 1 - (m - 1 - a))) (omega (arith, most, few, past)) ∙ ap (λ n. m * q + n) (omega (arith, few)));
        })

pub run_has_value : (count value : ℕ) → value < run_count count → HasValue count value (run_of count value)
run_has_value count value l =
    let sum : count * (value / count) + value % count ≡ value = div-add-mod value count in
    let some : 0 < count = settle (cases_lt 0 count) in
    subst (λ v. HasValue count v (run_of count value)) sum
    (with_parts count (value / count) (value % count) (rw sum l) (mod-lt value some))
  where
    settle : (0 < count) ⊎ (count ≤ 0) → 0 < count
    settle (inl some) = some
    settle (inr none) = let zero_is : count ≡ 0 = omega (arith, none) in
        absurd (omega (arith, subst (λ n. value < n * (n + 1) / 2) zero_is l))
