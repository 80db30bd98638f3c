-- Each bit in the reading is a bit in a stream.
use Rattle.std.proofs.Common.{◌≡◌, ℕ, suc, ◌+◌, ◌*◌, ◌%◌, ◌<◌, List, [], ◌∷◌, length, subst, arith, mod-lt}
use Rattle.std.specs.Prelude.{All}
use Rattle.std.proofs.lemmas.List.Elements.{All-append, All-cons, All-drop, All-take}
use Rattle.finite.proofs.Lists.{values_below-All}
use Rattle.sub_block.specs.declared.Code.TheVariants.{Turbo}
use Rattle.sub_block.specs.declared.Item.{Item}
use Rattle.sub_block.specs.Matrix.{cell, nulls, matrix_rows}
use Rattle.sub_block.specs.Items.{item}
use Rattle.sub_block.proofs.Cells.{cell_below}
use Rattle.sub_block.proofs.Once.{bits_inside}
use Rattle.turbo_code.specs.Table.{IsAnySize}
use Rattle.turbo_code.specs.Reading.{v0, v1, v2, in_turn, buffer, turned, start, reading, item_of}
use Rattle.turbo_code.proofs.Round.{reading_count}

-- one of the first m indices in a stream
abbrev IsBelow : ℕ → Item → Type 0
IsBelow m here = (here.stream < 3) × (here.index < m)

All-in_turn : (P : Item → Type 0) (xs ys : List Item) → All P xs → All P ys → All P (in_turn xs ys)
All-in_turn P [] ys hx hy = hy
All-in_turn P (x ∷ xs) [] hx hy = hx
All-in_turn P (x ∷ xs) (y ∷ ys) hx hy =
    All-cons P x (y ∷ in_turn xs ys) (hx 0 x (omega arith))
    (All-cons P y (in_turn xs ys) (hy 0 y (omega arith))
    (All-in_turn P xs ys (λ i d inside. hx (suc i) d (omega (arith, inside))) (λ i d inside. hy (suc i) d (omega (arith, inside)))))

buffer_inside : (r : ℕ) → 0 < r → All (IsBelow (32 * r)) (buffer r)
unfolding buffer
buffer_inside r some =
    All-append (IsBelow (32 * r)) (v0 r) (in_turn (v1 r) (v2 r))
    (values_below-All (IsBelow (32 * r)) (32 * r) (λ m. item 0 (cell Turbo r m)) (item 0 0) (λ m below. (omega arith, cell_below Turbo r m below)))
    (All-in_turn (IsBelow (32 * r)) (v1 r) (v2 r)
    (values_below-All (IsBelow (32 * r)) (32 * r) (λ m. item 1 (cell Turbo r m)) (item 0 0) (λ m below. (omega arith, cell_below Turbo r m below)))
    (values_below-All (IsBelow (32 * r)) (32 * r) (λ m. item 2 ((cell Turbo r m + 1) % (32 * r))) (item 0 0) (λ m below. (omega arith, mod-lt (cell Turbo r m + 1) (omega (arith, some))))))

reading_inside : (k rv : ℕ) → All (IsBelow (k + 4)) (reading k rv)
unfolding reading
reading_inside k rv =
    let r = matrix_rows (k + 4) in
    let some : 0 < matrix_rows (k + 4) = omega arith in
    let whole : 32 * matrix_rows (k + 4) ≡ nulls (k + 4) + (k + 4) = omega arith in
    let cells = buffer_inside r some in
    bits_inside (λ t. t < 3) (nulls (k + 4)) (k + 4) (turned (start k rv) (buffer r)) (omega arith)
    (subst (λ n. All (IsBelow n) (turned (start k rv) (buffer r))) whole
    (All-append (IsBelow (32 * r)) _ _ (All-drop (IsBelow (32 * r)) (start k rv) (buffer r) cells) (All-take (IsBelow (32 * r)) (start k rv) (buffer r) cells)))

pub item_inside : (k rv i : ℕ) → IsAnySize k → ((item_of k rv i).stream < 3) × ((item_of k rv i).index < k + 4)
unfolding item_of
item_inside k rv i size =
    let count = reading_count k rv size in
    reading_inside k rv (i % length (reading k rv)) (item 0 0) (mod-lt i (omega (arith, count)))
