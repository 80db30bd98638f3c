-- The bit order has each cell of a matrix once, and so each bit of a stream.
use Rattle.std.proofs.Common.{◌≡◌, ℕ, ◌+◌, ◌-◌, ◌*◌, ◌/◌, ◌%◌, ◌<◌, ◌≤◌, Bool, true, false, List, [], ◌∷◌, length, get_or, cond, refl, ap, sym, ◌∙◌, arith, div-add-mod'}
use Rattle.std.specs.Prelude.{All, ◌&&◌, nat_eq, nat_le, nat_lt, filter, map}
use Rattle.std.specs.List.{count_by, position_or_len}
use Rattle.std.proofs.lemmas.Bool.{eqb-true, ltb-true, leb-true, leb-false, and_parts}
use Rattle.std.proofs.lemmas.Nat.{div-mul-add, mod-mul-add}
use Rattle.std.proofs.lemmas.List.{length-map}
use Rattle.std.proofs.lemmas.List.Elements.{All-filter, All-map}
use Rattle.std.proofs.lemmas.List.Sums.{sum_by-cons, length-filter}
use Rattle.std.proofs.Math.Bool.{and-false}
use Rattle.std.proofs.Math.Nat.{div-lt_iff_lt-mul, mul-le-mul_right}
use Rattle.finite.specs.Tests.{every_below}
use Rattle.finite.proofs.Tests.{every_below_at}
use Rattle.sub_block.specs.declared.Code.{Code}
use Rattle.sub_block.specs.declared.Code.TheVariants.{Convolutional, Turbo}
use Rattle.sub_block.specs.declared.Item.{Item}
use Rattle.sub_block.specs.Matrix.{turbo_columns, columns, cell, matrix_rows, nulls}
use Rattle.sub_block.specs.Items.{item, cells_read, bits_in, is_at}
use Rattle.sub_block.proofs.Cells.{column_below}
use Rattle.sub_block.proofs.Counted.{same_test, different, IsInverse, count_this, count_from}

-- ---- NULL bits are skipped

pub count-bits_in : (n t p : ℕ) (cells : List Item) → count_by (is_at t p) (bits_in n cells) ≡ count_by (is_at t (p + n)) cells
unfolding bits_in
count-bits_in n t p [] = refl
count-bits_in n t p (c ∷ cs) = settle (count-bits_in n t p cs) (nat_le n c.index) refl
  where
    settle : count_by (is_at t p) (map (λ c. item c.stream (c.index - n)) (filter (λ c. nat_le n c.index) cs)) ≡ count_by (is_at t (p + n)) cs →
        (b : Bool) → nat_le n c.index ≡ b →
        count_by (is_at t p) (map (λ c. item c.stream (c.index - n)) (cond b (c ∷ filter (λ c. nat_le n c.index) cs) (filter (λ c. nat_le n c.index) cs)))
        ≡ count_by (is_at t (p + n)) (c ∷ cs)
    settle known true e =
        let inside = leb-true n c.index e in
        let same = same_test (c.index - n) p c.index (p + n) (λ h. omega (arith, h, inside)) (λ h. omega (arith, h, inside)) in
        let one = sum_by-cons (λ x. cond (is_at t p x) 1 0) (item c.stream (c.index - n)) (map (λ c. item c.stream (c.index - n)) (filter (λ c. nat_le n c.index) cs)) in
        let all = sum_by-cons (λ x. cond (is_at t (p + n) x) 1 0) c cs in
        let here : cond {A = ℕ} (nat_eq c.stream t && nat_eq (c.index - n) p) 1 0 ≡ cond {A = ℕ} (is_at t (p + n) c) 1 0
        = ap (λ b. cond {A = ℕ} (nat_eq c.stream t && b) 1 0) same in
        one ∙ ap (λ x. x + count_by (is_at t p) (map (λ c. item c.stream (c.index - n)) (filter (λ c. nat_le n c.index) cs))) here
        ∙ ap (λ y. cond {A = ℕ} (is_at t (p + n) c) 1 0 + y) known ∙ sym all
    settle known false e =
        let outside = leb-false n c.index e in
        let other = different c.index (p + n) (λ h. omega (arith, h, outside)) in
        let none : cond {A = ℕ} (is_at t (p + n) c) 1 0 ≡ 0 = ap (λ b. cond (nat_eq c.stream t && b) 1 0) other ∙ ap (λ b. cond b 1 0) (and-false (nat_eq c.stream t)) in
        let all = sum_by-cons (λ x. cond (is_at t (p + n) x) 1 0) c cs in
        known ∙ omega (arith, all, none)

pub length-bits_in : (n : ℕ) (cells : List Item) → length (bits_in n cells) ≡ count_by (λ c. nat_le n c.index) cells
unfolding bits_in
length-bits_in n cells = length-map (filter (λ c. nat_le n c.index) cells) _ ∙ length-filter (λ c. nat_le n c.index) cells

-- skipping n NULL bits lowers the bound on indices by n
pub bits_inside : (Is : ℕ → Type 0) (n m : ℕ) (cells : List Item) → 0 < m → All (λ c. Is c.stream × (c.index < n + m)) cells →
    All (λ c. Is c.stream × (c.index < m)) (bits_in n cells)
unfolding bits_in
bits_inside Is n m cells some each =
    let kept = All-filter (λ c. nat_le n c.index) (λ c. Is c.stream × (c.index < n + m)) cells each in
    All-map (λ c. Is c.stream × (c.index < m)) (λ (c : Item). item c.stream (c.index - n)) (filter (λ c. nat_le n c.index) cells)
    (λ i d inside. let h = kept i d inside in (h.0, (let p = h.1 in omega (arith, p, some))))

-- ---- the cells of a matrix: by computation, each column occurs once

column_back : Code → ℕ → ℕ
column_back code column = position_or_len (λ c. nat_eq c column) (columns code)

pub inverse_test : ℕ → (ℕ → ℕ) → (ℕ → ℕ) → ℕ → Bool
inverse_test n f g m = nat_eq (g (f m)) m && (nat_eq (f (g m)) m && nat_lt (g m) n)

pub inverse_by : (n : ℕ) (f g : ℕ → ℕ) → every_below n (inverse_test n f g) ≡ true → IsInverse n f g
unfolding inverse_test
inverse_by n f g h =
    let at : (m : ℕ) → m < n → (nat_eq (g (f m)) m ≡ true) × ((nat_eq (f (g m)) m && nat_lt (g m) n) ≡ true)
    = λ m l. and_parts (nat_eq (g (f m)) m) (nat_eq (f (g m)) m && nat_lt (g m) n) (every_below_at n (inverse_test n f g) h m l) in
    record {
      back = λ m l. eqb-true _ m (at m l).0;
      forth = λ c l. eqb-true _ c (and_parts (nat_eq (f (g c)) c) (nat_lt (g c) n) (at c l).1).0;
      inside = λ c l. ltb-true _ n (and_parts (nat_eq (f (g c)) c) (nat_lt (g c) n) (at c l).1).1;
    }

columns_tested : (code : Code) → every_below 32 (inverse_test 32 (λ c. get_or (columns code) c 0) (column_back code)) ≡ true
unfolding every_below inverse_test column_back columns turbo_columns
columns_tested Convolutional = refl
columns_tested Turbo = refl

columns_inverse : (code : Code) → IsInverse 32 (λ c. get_or (columns code) c 0) (column_back code)
columns_inverse code = inverse_by 32 (λ c. get_or (columns code) c 0) (column_back code) (columns_tested code)

-- the position at which a cell is read
pub cell_back : Code → ℕ → ℕ → ℕ
cell_back code r c = column_back code (c % 32) * r + c / 32

pub cells_inverse : (code : Code) (r : ℕ) → IsInverse (32 * r) (cell code r) (cell_back code r)
unfolding cell_back
cells_inverse code r = record {
  back = λ m l.
      let some : 0 < r = omega (arith, l) in
      let row : ℕ = m % r in
      let turn : ℕ = m / r in
      let column : ℕ = get_or (columns code) turn 0 in
      let early : turn < 32 = (div-lt_iff_lt-mul some).1 l in
      let small : column < 32 = column_below code turn early in
      let rest : (32 * row + column) % 32 ≡ column = omega (arith, small) in
      let whole : (32 * row + column) / 32 ≡ row = omega (arith, small) in
      let there : column_back code column ≡ turn = turns.back turn early in
      rw (rest, whole, there) (div-add-mod' m r);
  forth = λ c l.
      let turn : ℕ = column_back code (c % 32) in
      let row : ℕ = c / 32 in
      let below : row < r = omega (arith, l) in
      let some : 0 < r = omega (arith, l) in
      let rest : (turn * r + row) % r ≡ row = mod-mul-add turn r row below in
      let whole : (turn * r + row) / r ≡ turn = div-mul-add turn r row below in
      let there : get_or (columns code) turn 0 ≡ c % 32 = turns.forth (c % 32) (omega arith) in
      rw (rest, whole, there) (omega arith);
  inside = λ c l.
      let turn : ℕ = column_back code (c % 32) in
      let early : turn < 32 = turns.inside (c % 32) (omega arith) in
      let rows : turn * r ≤ 31 * r = mul-le-mul_right r (omega (arith, early)) in
      omega (arith, l, rows);
}
  where
    turns : IsInverse 32 (λ c. get_or (columns code) c 0) (column_back code)
    turns = columns_inverse code

-- ---- a stream of n bits

pub count_of_bits : (code : Code) (n t : ℕ) → length (bits_in (nulls n) (cells_read code (matrix_rows n) t)) ≡ n
count_of_bits code n t =
    let r = matrix_rows n in
    let some = count_from (32 * r) t (cell code r) (cell_back code r) (cells_inverse code r) (nulls n) (omega arith) in
    let long = length-bits_in (nulls n) (cells_read code r t) in
    omega (arith, some, long)

-- each bit occurs once
pub bit_once : (code : Code) (n t p : ℕ) → p < n → count_by (is_at t p) (bits_in (nulls n) (cells_read code (matrix_rows n) t)) ≡ 1
bit_once code n t p h =
    let r = matrix_rows n in
    count-bits_in (nulls n) t p (cells_read code r t) ∙ count_this (32 * r) t (p + nulls n) (cell code r) (cell_back code r) (cells_inverse code r) (omega (arith, h))
