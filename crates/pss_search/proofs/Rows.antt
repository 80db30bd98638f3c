-- A sum over 128 samples as the sum over four rows of 32.
use Rattle.std.proofs.Common.{◌≡◌, ℕ, ◌+◌, ◌*◌, ◌≤◌, ℤ, ◌+ℤ◌, ◌∙◌, ap, sym, arith, nat_abs}
use Rattle.finite.specs.Sums.{sum_below}
use Rattle.finite.proofs.Integers.{abs-sum}
use Rattle.finite.proofs.Sums.{sum_below_same, sum_below_split}

pub four_rows : (f : ℕ → ℤ) → sum_below 32 (λ n. f (32 * 0 + n)) +ℤ sum_below 32 (λ n. f (32 * 1 + n))
    +ℤ sum_below 32 (λ n. f (32 * 2 + n)) +ℤ sum_below 32 (λ n. f (32 * 3 + n)) ≡ sum_below 128 f
four_rows f =
    ap (λ (s : ℤ). s +ℤ sum_below 32 (λ n. f (32 + n)) +ℤ sum_below 32 (λ n. f (64 + n)) +ℤ sum_below 32 (λ n. f (96 + n)))
    (sum_below_same 32 (λ n. f (0 + n)) f (λ n _. ap f (let e : 0 + n ≡ n = omega arith in e)))
    ∙ ap (λ (s : ℤ). s +ℤ sum_below 32 (λ n. f (64 + n)) +ℤ sum_below 32 (λ n. f (96 + n))) (sym (sum_below_split 32 32 f))
    ∙ ap (λ (s : ℤ). s +ℤ sum_below 32 (λ n. f (96 + n))) (sym (sum_below_split 64 32 f))
    ∙ sym (sum_below_split 96 32 f)

pub four-small : (a b c d : ℤ) → nat_abs a ≤ 267386880 → nat_abs b ≤ 267386880 → nat_abs c ≤ 267386880 → nat_abs d ≤ 267386880 →
    nat_abs (a +ℤ b +ℤ c +ℤ d) ≤ 1069547520
four-small a b c d sa sb sc sd = omega (arith, sa, sb, sc, sd, abs-sum a b, abs-sum (a +ℤ b) c, abs-sum (a +ℤ b +ℤ c) d)
