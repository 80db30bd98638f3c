-- Finite sums of complex integers.
use Rattle.std.specs.Prelude.{ℕ}
use Rattle.finite.specs.Sums.{sum_below}
use Rattle.cs_num.specs.declared.Cpx.{Cpx}

-- f 0 + .. + f (n - 1), component by component
abbrev pub complex_sum_below : ℕ → (ℕ → Cpx) → Cpx
complex_sum_below n f = record { re = sum_below n (λ k. (f k).re); im = sum_below n (λ k. (f k).im) }
