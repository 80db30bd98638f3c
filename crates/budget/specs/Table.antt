-- The table W of the 128th roots of unity is nearly multiplicative, although its entries are rounded. (own)
use Rattle.std.specs.Prelude.{ℕ, ◌+◌, ◌*◌, ◌≤◌}
use Rattle.cs_num.specs.Complex.{times, square, minus, multiple}
use Rattle.fold128.specs.Tables.{w_at}

-- the product of two table entries is 16384 times the entry at the indices' sum, up to a deviation of magnitude 22200
abbrev pub IsNearlyMultiplicative : Type 0
IsNearlyMultiplicative =
    (a b : ℕ) → square (minus (times (w_at a) (w_at b)) (multiple 16384 (w_at (a + b)))) ≤ 22200 * 22200
