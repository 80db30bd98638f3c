-- The bits of SIB1's transport blocks, replaced from the last to the first.
use Rattle.std.proofs.Common.{◌≡◌, ◌∙◌, ℕ, ◌<◌, ◌++◌, Bool, Vec, Global, List, [], ◌∷◌, length, map, get_or, set, ap, arith, refl, sym, subst}
use Rattle.std.proofs.lemmas.List.{length-map, map-append}
use Rattle.evidence.specs.Shown.{Shown, with_bits, with_blocks}

-- without bits each stays the same
pub none_replaced : (shown : List Shown) → with_blocks shown [] ≡ shown
unfolding with_blocks
none_replaced [] = refl
none_replaced (first ∷ rest) = refl

-- the last bits can be set first
pub last_replaced : (shown : List Shown) (blocks : List (List Bool)) (bits : List Bool) (d : Shown) → length blocks < length shown →
    with_blocks (set shown (length blocks) (with_bits (get_or shown (length blocks) d) bits)) blocks ≡ with_blocks shown (blocks ++ bits ∷ [])
unfolding with_blocks
last_replaced [] blocks bits d below = absurd (omega (arith, below))
last_replaced (first ∷ rest) [] bits d below = ap (λ others. with_bits first bits ∷ others) (sym (none_replaced rest))
last_replaced (first ∷ rest) (before ∷ blocks) bits d below =
    ap (λ others. with_bits first before ∷ others) (last_replaced rest blocks bits d (omega (arith, below)))

-- the bits of blocks
abbrev pub bits_of : List (Vec Bool Global) → List (List Bool)
bits_of blocks = map (λ bits. bits.items) blocks

-- the bits of the last of `blocks`, which is taken from them, are set at its index
pub one_replaced : (shown : List Shown) (blocks left : List (Vec Bool Global)) (last : Vec Bool Global) (at : ℕ) (new d : Shown) → blocks ≡ left ++ last ∷ [] → at ≡ length left →
    at < length shown → new ≡ with_bits (get_or shown at d) last.items → with_blocks (set shown at new) (bits_of left) ≡ with_blocks shown (bits_of blocks)
one_replaced shown blocks left last at new d split at_is below new_is =
    let count : at ≡ length (bits_of left) = at_is ∙ sym (length-map left (λ bits. bits.items)) in
    let all : bits_of blocks ≡ bits_of left ++ last.items ∷ [] = ap bits_of split ∙ map-append (λ bits. bits.items) left (last ∷ []) in
    ap (λ (item : Shown). with_blocks (set shown at item) (bits_of left)) new_is
    ∙ subst (λ n. with_blocks (set shown n (with_bits (get_or shown n d) last.items)) (bits_of left) ≡ with_blocks shown (bits_of left ++ last.items ∷ [])) (sym count)
    (last_replaced shown (bits_of left) last.items d (subst (λ n. n < length shown) count below))
    ∙ ap (with_blocks shown) (sym all)
