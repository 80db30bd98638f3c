-- The circular buffer, cell by cell.
use Rattle.std.proofs.Common.{◌≡◌, ℕ, zero, suc, ◌+◌, ◌-◌, ◌*◌, ◌%◌, ◌<◌, List, [], ◌∷◌, length, get_or, refl, ap, sym, ◌∙◌, arith, length-append}
use Rattle.std.proofs.lemmas.List.{get_or-append_right}
use Rattle.std.proofs.Math.ListN.{get_or-append}
use Rattle.finite.proofs.Lists.{values_below-length, values_below_at}
use Rattle.sub_block.specs.declared.Code.TheVariants.{Turbo}
use Rattle.sub_block.specs.declared.Item.{Item}
use Rattle.sub_block.specs.Matrix.{cell}
use Rattle.sub_block.specs.Items.{item}
use Rattle.sub_block.proofs.Cells.{length-cells_read, cells_read-at}
use Rattle.turbo_code.specs.Reading.{v0, v1, v2, in_turn, buffer}

-- ---- two lists interlaced

length-in_turn : (xs ys : List Item) → length (in_turn xs ys) ≡ length xs + length ys
length-in_turn [] ys = omega arith
length-in_turn (x ∷ xs) [] = omega arith
length-in_turn (x ∷ xs) (y ∷ ys) = let e = length-in_turn xs ys in omega (arith, e)

in_turn-even : (xs ys : List Item) (m : ℕ) (d : Item) → length xs ≡ length ys → get_or (in_turn xs ys) (2 * m) d ≡ get_or xs m d
in_turn-even [] [] m d e = refl
in_turn-even [] (y ∷ ys) m d e = absurd (omega (arith, e))
in_turn-even (x ∷ xs) [] m d e = absurd (omega (arith, e))
in_turn-even (x ∷ xs) (y ∷ ys) zero d e = refl
in_turn-even (x ∷ xs) (y ∷ ys) (suc m) d e =
    let two : 2 * suc m ≡ suc (suc (2 * m)) = omega arith in
    rw two (in_turn-even xs ys m d (omega (arith, e)))

in_turn-odd : (xs ys : List Item) (m : ℕ) (d : Item) → length xs ≡ length ys → get_or (in_turn xs ys) (suc (2 * m)) d ≡ get_or ys m d
in_turn-odd [] [] m d e = refl
in_turn-odd [] (y ∷ ys) m d e = absurd (omega (arith, e))
in_turn-odd (x ∷ xs) [] m d e = absurd (omega (arith, e))
in_turn-odd (x ∷ xs) (y ∷ ys) zero d e = refl
in_turn-odd (x ∷ xs) (y ∷ ys) (suc m) d e =
    let two : 2 * suc m ≡ suc (suc (2 * m)) = omega arith in
    rw two (in_turn-odd xs ys m d (omega (arith, e)))

-- ---- the buffer

abbrev third : ℕ → ℕ → ℕ
third r m = (cell Turbo r m + 1) % (32 * r)

length-v2 : (r : ℕ) → length (v2 r) ≡ 32 * r
length-v2 r = values_below-length (32 * r) (λ m. item 2 (third r m))

pub length-buffer : (r : ℕ) → length (buffer r) ≡ 96 * r
unfolding buffer
length-buffer r =
    let e = length-append (v0 r) (in_turn (v1 r) (v2 r)) in
    let f = length-in_turn (v1 r) (v2 r) in
    let a = length-cells_read Turbo r 0 in
    let b = length-cells_read Turbo r 1 in
    let c = length-v2 r in
    omega (arith, e, f, a, b, c)

pub buffer_first : (r j : ℕ) → j < 32 * r → get_or (buffer r) j (item 0 0) ≡ item 0 (cell Turbo r j)
unfolding buffer
buffer_first r j h =
    let a = length-cells_read Turbo r 0 in
    get_or-append (v0 r) (in_turn (v1 r) (v2 r)) (item 0 0) j (omega (arith, a, h)) ∙ cells_read-at Turbo r 0 j h

pub buffer_second : (r j m : ℕ) → j ≡ 32 * r + 2 * m → m < 32 * r → get_or (buffer r) j (item 0 0) ≡ item 1 (cell Turbo r m)
unfolding buffer
buffer_second r j m e h =
    let a = length-cells_read Turbo r 0 in
    let same = length-cells_read Turbo r 1 ∙ sym (length-v2 r) in
    let left : j - 32 * r ≡ 2 * m = omega (arith, e) in
    get_or-append_right (v0 r) (in_turn (v1 r) (v2 r)) (32 * r) j (item 0 0) a (omega (arith, e))
    ∙ ap (λ i. get_or (in_turn (v1 r) (v2 r)) i (item 0 0)) left
    ∙ in_turn-even (v1 r) (v2 r) m (item 0 0) same
    ∙ cells_read-at Turbo r 1 m h

pub buffer_third : (r j m : ℕ) → j ≡ 32 * r + suc (2 * m) → m < 32 * r → get_or (buffer r) j (item 0 0) ≡ item 2 ((cell Turbo r m + 1) % (32 * r))
unfolding buffer
buffer_third r j m e h =
    let a = length-cells_read Turbo r 0 in
    let same = length-cells_read Turbo r 1 ∙ sym (length-v2 r) in
    let left : j - 32 * r ≡ suc (2 * m) = omega (arith, e) in
    get_or-append_right (v0 r) (in_turn (v1 r) (v2 r)) (32 * r) j (item 0 0) a (omega (arith, e))
    ∙ ap (λ i. get_or (in_turn (v1 r) (v2 r)) i (item 0 0)) left
    ∙ in_turn-odd (v1 r) (v2 r) m (item 0 0) same
    ∙ values_below_at (λ m. item 2 (third r m)) (32 * r) m (item 0 0) h
