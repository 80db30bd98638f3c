-- Each stream's bits in interleaved order, and the search for one bit.
use Rattle.std.proofs.Common.{◌≡◌, ℕ, ◌-◌, ◌*◌, ◌<◌, inl, inr, List, [], ◌∷◌, ◌++◌, length, get_or, map, refl, ap, sym, ◌∙◌, arith}
use Rattle.std.specs.Prelude.{nat_le, filter}
use Rattle.std.specs.List.{range_with_len}
use Rattle.std.proofs.lemmas.Bool.{cases_lt}
use Rattle.std.proofs.lemmas.List.{get_or-map, map-append}
use Rattle.std.proofs.lemmas.List.Elements.{filter-append}
use Rattle.sub_block.specs.declared.Code.TheVariants.{Convolutional}
use Rattle.sub_block.specs.declared.Item.{Item}
use Rattle.sub_block.specs.Matrix.{matrix_rows, nulls, cell}
use Rattle.sub_block.specs.Items.{item, cells_read, bits_in}
use Rattle.sub_block.proofs.Cells.{cells_read-at}
use Rattle.sub_block.proofs.Once.{count_of_bits}
use Rattle.sub_block.proofs.Search.{bits_in-kept, bits_in-skipped}
use Rattle.conv_code.specs.Reading.{reading, stream_order}

-- ---- every stream has the order of stream 0

abbrev pub stream_reading : ℕ → ℕ → List Item
stream_reading n t = map (item t) (stream_order n)

one_order : (s t : ℕ) (f : ℕ → ℕ) (ms : List ℕ) →
    bits_in s (map (λ m. item t (f m)) ms) ≡ map (item t) (map (λ (bit : Item). bit.index) (bits_in s (map (λ m. item 0 (f m)) ms)))
unfolding bits_in
one_order s t f [] = refl
one_order s t f (m ∷ ms) = elim (cases_lt (f m) s) [
  | inl null ↦
      rw (bits_in-skipped s (item t (f m)) (map (λ m. item t (f m)) ms) null, bits_in-skipped s (item 0 (f m)) (map (λ m. item 0 (f m)) ms) null)
      (one_order s t f ms)
  | inr bit ↦
      rw (bits_in-kept s (item t (f m)) (map (λ m. item t (f m)) ms) bit, bits_in-kept s (item 0 (f m)) (map (λ m. item 0 (f m)) ms) bit)
      (ap (λ (bs : List Item). item t (f m - s) ∷ bs) (one_order s t f ms))
]

stream_is_read : (n t : ℕ) → bits_in (nulls n) (cells_read Convolutional (matrix_rows n) t) ≡ stream_reading n t
unfolding stream_order
stream_is_read n t = one_order (nulls n) t (cell Convolutional (matrix_rows n)) (range_with_len 0 (32 * matrix_rows n))

bits_in-append : (s : ℕ) (xs ys : List Item) → bits_in s (xs ++ ys) ≡ bits_in s xs ++ bits_in s ys
unfolding bits_in
bits_in-append s xs ys =
    ap (map (λ (c : Item). item c.stream (c.index - s))) (filter-append (λ c. nat_le s c.index) xs ys)
    ∙ map-append (λ (c : Item). item c.stream (c.index - s)) (filter (λ c. nat_le s c.index) xs) (filter (λ c. nat_le s c.index) ys)

pub streams_in_order : (n : ℕ) → reading n ≡ stream_reading n 0 ++ stream_reading n 1 ++ stream_reading n 2
unfolding reading
streams_in_order n =
    let v = cells_read Convolutional (matrix_rows n) in
    bits_in-append (nulls n) (v 0 ++ v 1) (v 2)
    ∙ rw (bits_in-append (nulls n) (v 0) (v 1), stream_is_read n 0, stream_is_read n 1, stream_is_read n 2) refl

-- ---- the search in r rows

pub cell_is : (r m c : ℕ) → m < 32 * r → c ≡ cell Convolutional r m → get_or (cells_read Convolutional r 0) m (item 0 0) ≡ item 0 c
cell_is r m c h e = cells_read-at Convolutional r 0 m h ∙ ap (item 0) (sym e)

pub count_of_stream : (n r : ℕ) → r ≡ matrix_rows n → length (bits_in (32 * r - n) (cells_read Convolutional r 0)) ≡ n
count_of_stream n r e = rw e (count_of_bits Convolutional n 0)

pub order_at : (n r p index : ℕ) → r ≡ matrix_rows n → p < n →
    get_or (bits_in (32 * r - n) (cells_read Convolutional r 0)) p (item 0 0) ≡ item 0 index → index ≡ get_or (stream_order n) p 0
unfolding stream_order
order_at n r p index e below found =
    let count = count_of_stream n r e in
    let inside : p < length (bits_in (32 * r - n) (cells_read Convolutional r 0)) = omega (arith, count, below) in
    sym (ap (λ r. get_or (map (λ (bit : Item). bit.index) (bits_in (32 * r - n) (cells_read Convolutional r 0))) p 0) (sym e)
    ∙ get_or-map (λ (bit : Item). bit.index) (bits_in (32 * r - n) (cells_read Convolutional r 0)) p (item 0 0) 0 inside
    ∙ ap (λ (bit : Item). bit.index) found)
