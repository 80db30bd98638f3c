-- A stream's interleaved order has each index once.
use Rattle.std.proofs.Common.{◌≡◌, ℕ, ◌+◌, ◌*◌, ◌<◌, List, length, get_or, refl, ap, ap₂, sym, subst, ◌∙◌, arith}
use Rattle.std.specs.Prelude.{All, nat_eq}
use Rattle.std.specs.List.{count_by, position_or_len}
use Rattle.std.proofs.lemmas.Bool.{eq-eqb, ne_eqb}
use Rattle.std.proofs.lemmas.List.{length-map, get_or-map}
use Rattle.std.proofs.lemmas.List.Sums.{position_or_len_is}
use Rattle.finite.proofs.Lists.{values_below-All}
use Rattle.sub_block.specs.declared.Code.TheVariants.{Convolutional}
use Rattle.sub_block.specs.declared.Item.{Item}
use Rattle.sub_block.specs.Matrix.{matrix_rows, nulls, cell}
use Rattle.sub_block.specs.Items.{item, cells_read, bits_in, is_at}
use Rattle.sub_block.proofs.Cells.{cell_below}
use Rattle.sub_block.proofs.Counted.{counted_some, one_index}
use Rattle.sub_block.proofs.Once.{bits_inside, count_of_bits, bit_once}
use Rattle.sub_block.proofs.Sums.{same_item}
use Rattle.conv_code.specs.Reading.{stream_order}

-- the position at which k first occurs in the list
abbrev pub index_of : ℕ → List ℕ → ℕ
index_of k xs = position_or_len (λ x. nat_eq x k) xs

-- each index below n occurs in the interleaved order once
pub record IsOrder (n : ℕ) : Type 0 where
  pub count : length (stream_order n) ≡ n
  pub inside : (p : ℕ) → p < n → get_or (stream_order n) p 0 < n
  pub once : (p : ℕ) → p < n → index_of (get_or (stream_order n) p 0) (stream_order n) ≡ p
  pub index_inside : (k : ℕ) → k < n → index_of k (stream_order n) < n
  pub each : (k : ℕ) → k < n → get_or (stream_order n) (index_of k (stream_order n)) 0 ≡ k

-- a stream's bits in interleaved order
abbrev bits_of : ℕ → List Item
bits_of n = bits_in (nulls n) (cells_read Convolutional (matrix_rows n) 0)

module _ (n : ℕ) where
  long : length (bits_of n) ≡ n
  long = count_of_bits Convolutional n 0

  count : length (stream_order n) ≡ n
  unfolding stream_order
  count = length-map (bits_of n) (λ (bit : Item). bit.index) ∙ long

  bit_at : ℕ → Item
  bit_at p = get_or (bits_of n) p (item 0 0)

  bit_inside : (p : ℕ) → p < n → ((bit_at p).stream ≡ 0) × ((bit_at p).index < n)
  unfolding bit_at
  bit_inside p below =
      let r = matrix_rows n in
      let whole : 32 * r ≡ nulls n + n = omega arith in
      let cells : All (λ (c : Item). (c.stream ≡ 0) × (c.index < 32 * r)) (cells_read Convolutional r 0)
      = values_below-All (λ (c : Item). (c.stream ≡ 0) × (c.index < 32 * r)) (32 * r) (λ m. item 0 (cell Convolutional r m)) (item 0 0)
      (λ m inside. (refl, cell_below Convolutional r m inside)) in
      bits_inside (λ t. t ≡ 0) (nulls n) n (cells_read Convolutional r 0) (omega (arith, below))
      (subst (λ m. All (λ (c : Item). (c.stream ≡ 0) × (c.index < m)) (cells_read Convolutional r 0)) whole cells)
      p (item 0 0) (omega (arith, long, below))

  order_at : (p : ℕ) → p < n → get_or (stream_order n) p 0 ≡ (bit_at p).index
  unfolding stream_order bit_at
  order_at p below = get_or-map (λ (bit : Item). bit.index) (bits_of n) p (item 0 0) 0 (omega (arith, long, below))

  bit_is : (p : ℕ) → p < n → bit_at p ≡ item 0 (get_or (stream_order n) p 0)
  bit_is p below = ap₂ item (bit_inside p below).0 (sym (order_at p below))

  inside : (p : ℕ) → p < n → get_or (stream_order n) p 0 < n
  inside p below = let h = (bit_inside p below).1 in rw (order_at p below) h

  apart : (i j : ℕ) → i < n → j < n → get_or (stream_order n) i 0 ≡ get_or (stream_order n) j 0 → i ≡ j
  unfolding bit_at
  apart i j hi hj same =
      one_index (bits_of n) (item 0 0) i j (omega (arith, long, hi)) (omega (arith, long, hj))
      (λ m below. let inside = bit_inside m (omega (arith, long, below)) in
      subst (λ t. count_by (is_at t (bit_at m).index) (bits_of n) ≡ 1) (sym inside.0) (bit_once Convolutional n 0 (bit_at m).index inside.1))
      (bit_is i hi ∙ ap (item 0) same ∙ sym (bit_is j hj))

  once : (p : ℕ) → p < n → index_of (get_or (stream_order n) p 0) (stream_order n) ≡ p
  once p below =
      let k : ℕ = get_or (stream_order n) p 0 in
      position_or_len_is (λ x. nat_eq x k) (stream_order n) p 0 (omega (arith, count, below))
      (λ j before. ne_eqb (get_or (stream_order n) j 0) k (λ e. let same = apart j p (omega (arith, before, below)) below e in absurd (omega (arith, same, before))))
      (λ _. eq-eqb k k refl)

  found : (k : ℕ) → k < n → (p : ℕ) × (p < n) × (get_or (stream_order n) p 0 ≡ k)
  unfolding bit_at
  found k below =
      let one = bit_once Convolutional n 0 k below in
      let (p, l, is) = counted_some (is_at 0 k) (bits_of n) (item 0 0) (omega (arith, one)) in
      let inside : p < n = omega (arith, l, long) in
      (p, inside, order_at p inside ∙ ap (λ (bit : Item). bit.index) (same_item (bit_at p) 0 k is))

pub is_order : (n : ℕ) → IsOrder n
is_order n = record {
  count = count n;
  inside = inside n;
  once = once n;
  index_inside = λ k below.
      let (p, l, is) = found n k below in
      subst (λ k. index_of k (stream_order n) < n) is (rw (once n p l) l);
  each = λ k below.
      let (p, l, is) = found n k below in
      subst (λ k. get_or (stream_order n) (index_of k (stream_order n)) 0 ≡ k) is (ap (λ i. get_or (stream_order n) i 0) (once n p l));
}
