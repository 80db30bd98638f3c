-- The columns, and the cells of a matrix in the order in which they are read.
use Rattle.std.proofs.Common.{◌≡◌, ℕ, ◌+◌, ◌*◌, ◌/◌, ◌%◌, ◌<◌, true, [], ◌∷◌, length, get_or, refl, arith, mod-lt}
use Rattle.std.specs.Prelude.{nat_eq, nat_lt}
use Rattle.std.proofs.lemmas.Bool.{eqb-true, ltb-true}
use Rattle.std.proofs.Math.Nat.{div-lt_iff_lt-mul}
use Rattle.finite.specs.Tests.{every_below}
use Rattle.finite.proofs.Tests.{every_below_at}
use Rattle.finite.proofs.Lists.{values_below-length, values_below_at}
use Rattle.sub_block.specs.declared.Code.{Code}
use Rattle.sub_block.specs.declared.Code.TheVariants.{Convolutional, Turbo}
use Rattle.sub_block.specs.Matrix.{turbo_columns, columns, cell}
use Rattle.sub_block.specs.Items.{item, cells_read}

-- the convolutional code's columns, written out
convolutional_columns : columns Convolutional ≡
    1 ∷ 17 ∷ 9 ∷ 25 ∷ 5 ∷ 21 ∷ 13 ∷ 29 ∷ 3 ∷ 19 ∷ 11 ∷ 27 ∷ 7 ∷ 23 ∷ 15 ∷ 31 ∷
    0 ∷ 16 ∷ 8 ∷ 24 ∷ 4 ∷ 20 ∷ 12 ∷ 28 ∷ 2 ∷ 18 ∷ 10 ∷ 26 ∷ 6 ∷ 22 ∷ 14 ∷ 30 ∷ []
unfolding columns turbo_columns
convolutional_columns = refl

-- the convolutional code's columns are the turbo code's, rotated by 16
shifted : every_below 32 (λ c. nat_eq (get_or turbo_columns ((c + 16) % 32) 0) (get_or (columns Convolutional) c 0)) ≡ true
unfolding every_below columns turbo_columns
shifted = refl

pub column_shifted : (c : ℕ) → c < 32 → get_or turbo_columns ((c + 16) % 32) 0 ≡ get_or (columns Convolutional) c 0
column_shifted c h = eqb-true _ _ (every_below_at 32 (λ c. nat_eq (get_or turbo_columns ((c + 16) % 32) 0) (get_or (columns Convolutional) c 0)) shifted c h)

columns_small : (code : Code) → every_below 32 (λ c. nat_lt (get_or (columns code) c 0) 32) ≡ true
unfolding every_below columns turbo_columns
columns_small Convolutional = refl
columns_small Turbo = refl

pub column_below : (code : Code) (c : ℕ) → c < 32 → get_or (columns code) c 0 < 32
column_below code c h = ltb-true _ _ (every_below_at 32 (λ c. nat_lt (get_or (columns code) c 0) 32) (columns_small code) c h)

pub cell_below : (code : Code) (r m : ℕ) → m < 32 * r → cell code r m < 32 * r
cell_below code r m h =
    let some : 0 < r = omega (arith, h) in
    inside (m % r) (get_or (columns code) (m / r) 0) r (mod-lt m some) (column_below code (m / r) ((div-lt_iff_lt-mul some).1 h))
  where
    inside : (a column r : ℕ) → a < r → column < 32 → 32 * a + column < 32 * r
    inside a column r h k = omega (arith, h, k)

-- ---- the cells of one stream

pub length-cells_read : (code : Code) (r t : ℕ) → length (cells_read code r t) ≡ 32 * r
length-cells_read code r t = values_below-length (32 * r) (λ m. item t (cell code r m))

pub cells_read-at : (code : Code) (r t m : ℕ) → m < 32 * r → get_or (cells_read code r t) m (item 0 0) ≡ item t (cell code r m)
cells_read-at code r t m h = values_below_at (λ m. item t (cell code r m)) (32 * r) m (item 0 0) h
