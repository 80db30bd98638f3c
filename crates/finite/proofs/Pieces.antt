-- Concatenated pieces of equal length.
use Rattle.std.proofs.Common.{◌≡◌, ℕ, zero, suc, ◌+◌, ◌-◌, ◌*◌, ◌/◌, ◌%◌, ◌<◌, List, [], ◌∷◌, length, get_or, arith, length-append, ◌∙◌, subst}
use Rattle.std.specs.Prelude.{All}
use Rattle.std.specs.List.{flat_map}
use Rattle.std.proofs.lemmas.List.{get_or-append_right}
use Rattle.std.proofs.Math.ListN.{get_or-append}
use Rattle.std.proofs.Math.Nat.{div-add-mod', mod-lt}
use Rattle.std.proofs.lemmas.List.Elements.{All-head, All-tail}

-- each piece has this length
abbrev pub HaveSize : {X A : Type 0} → ℕ → (X → List A) → List X → Type 0
HaveSize size f xs = All (λ x. length (f x) ≡ size) xs

one_more : (n size : ℕ) → suc n * size ≡ n * size + size
one_more n size = grind arith

-- the total length is the number of pieces times their length
pub length-pieces : {X A : Type 0} (size : ℕ) (f : X → List A) (xs : List X) → HaveSize size f xs → length (flat_map f xs) ≡ length xs * size
length-pieces size f [] each = omega arith
length-pieces size f (x ∷ xs) each =
    let here = All-head (λ y. length (f y) ≡ size) x xs each in
    let rest = length-pieces size f xs (All-tail (λ y. length (f y) ≡ size) x xs each) in
    let both = length-append (f x) (flat_map f xs) in
    let more = one_more (length xs) size in
    omega (arith, here, rest, both, more)

-- item j of piece i, found in the concatenation
pub get_or-piece : {X A : Type 0} (size : ℕ) (f : X → List A) (xs : List X) (i j : ℕ) (e : X) (d : A) → HaveSize size f xs → i < length xs → j < size →
    get_or (flat_map f xs) (i * size + j) d ≡ get_or (f (get_or xs i e)) j d
get_or-piece size f [] i j e d each inside small = absurd (omega (arith, inside))
get_or-piece size f (x ∷ xs) zero j e d each inside small =
    let here = All-head (λ y. length (f y) ≡ size) x xs each in
    let first : 0 * size + j ≡ j = omega arith in
    rw first (get_or-append (f x) (flat_map f xs) d j (omega (arith, here, small)))
get_or-piece size f (x ∷ xs) (suc i) j e d each inside small =
    let here = All-head (λ y. length (f y) ≡ size) x xs each in
    let more = one_more i size in
    let at : suc i * size + j ≡ size + (i * size + j) = omega (arith, more) in
    let back : size + (i * size + j) - size ≡ i * size + j = omega arith in
    let rest = get_or-piece size f xs i j e d (All-tail (λ y. length (f y) ≡ size) x xs each) (omega (arith, inside)) small in
    rw at (get_or-append_right (f x) (flat_map f xs) size (size + (i * size + j)) d here (omega arith) ∙ rw back rest)

-- item k of the concatenation, found by quotient and remainder
pub get_or-pieces : {X A : Type 0} (size : ℕ) (f : X → List A) (xs : List X) (k : ℕ) (e : X) (d : A) → 0 < size → HaveSize size f xs → k / size < length xs →
    get_or (flat_map f xs) k d ≡ get_or (f (get_or xs (k / size) e)) (k % size) d
get_or-pieces size f xs k e d some each inside =
    subst (λ n. get_or (flat_map f xs) n d ≡ get_or (f (get_or xs (k / size) e)) (k % size) d) (div-add-mod' k size)
    (get_or-piece size f xs (k / size) (k % size) e d each inside (mod-lt k some))
