-- Magnitudes of complex integers, by their squares. (own)
use Rattle.std.specs.Prelude.{ℕ, ◌+◌, ◌*◌, ◌≤◌, ℤ, pos, ◌+ℤ◌, ◌*ℤ◌}
use Rattle.finite.specs.Sums.{total_below}
use Rattle.cs_num.specs.declared.Cpx.{Cpx}
use Rattle.cs_num.specs.Complex.{times, conjugate, square}
use Rattle.cs_num.specs.Sums.{complex_sum_below}

-- the magnitude of `z` is at most `c` times the square root of `n`; the squares are compared
pub record IsBounded (c n : ℕ) (z : Cpx) : Type 0 where
  pub bounded : square z ≤ c * c * n

-- the real number n as a complex integer
abbrev pub real : ℕ → Cpx
real n = record { re = pos n; im = pos 0 }

-- the real part of x conj(y)
abbrev pub inner : Cpx → Cpx → ℤ
inner x y = x.re *ℤ y.re +ℤ x.im *ℤ y.im

-- the energy |f 0|^2 + .. + |f (n - 1)|^2
abbrev pub energy_below : ℕ → (ℕ → Cpx) → ℕ
energy_below n f = total_below n (λ k. square (f k))

-- the correlation f 0 * conj (g 0) + .. + f (n - 1) * conj (g (n - 1))
abbrev pub correlation_below : ℕ → (ℕ → Cpx) → (ℕ → Cpx) → Cpx
correlation_below n f g = complex_sum_below n (λ k. times (f k) (conjugate (g k)))

-- ---- the gains of four antenna ports

-- the sum of the squared magnitudes of four complex integers, `numbers` 0 to 3
abbrev pub squares_of_four : (ℕ → Cpx) → ℕ
squares_of_four numbers = square (numbers 0) + square (numbers 1) + square (numbers 2) + square (numbers 3)

-- the gains `numbers` 0 and 2 together have at least three eighths of the four gains' sum of squared magnitudes, and so
-- do the gains 1 and 3
pub record ArePaired (numbers : ℕ → Cpx) : Type 0 where
  pub even : 3 * squares_of_four numbers ≤ 8 * (square (numbers 0) + square (numbers 2))
  pub odd : 3 * squares_of_four numbers ≤ 8 * (square (numbers 1) + square (numbers 3))
