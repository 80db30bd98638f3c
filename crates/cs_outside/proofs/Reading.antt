-- Consecutive reads.
use Rattle.std.proofs.Common.{◌≡◌, ℕ, refl, ap, sym, ◌∙◌, List, [], ◌++◌, append_assoc, append-nil, Option, Some, None}
use Rattle.std.specs.Option.{option_map}
use Rattle.cs_outside.specs.Outside.{SourceState}
use Rattle.cs_outside.specs.Streams.{HasRead, IsAtEnd}

-- before the first read, nothing is read
pub read_nothing : (before : SourceState) → HasRead [] before before
read_nothing before = record { in_order = same before.left; unfailed = refl }
  where
    same : (left : Option (List ℕ)) → left ≡ option_map (λ rest. [] ++ rest) left
    same None = refl
    same (Some input) = refl

-- two consecutive reads are one read of both
pub read_then : (first second : List ℕ) (before between now : SourceState) →
    HasRead first before between → HasRead second between now → HasRead (first ++ second) before now
read_then first second before between now a b = record {
  in_order = a.in_order ∙ ap (option_map (λ rest. first ++ rest)) b.in_order ∙ joined now.left;
  unfailed = b.unfailed ∙ a.unfailed;
}
  where
    joined : (left : Option (List ℕ)) →
        option_map (λ rest. first ++ rest) (option_map (λ rest. second ++ rest) left) ≡ option_map (λ rest. (first ++ second) ++ rest) left
    joined None = refl
    joined (Some rest) = ap Some (sym (append_assoc first second rest))

-- the bytes read are a prefix of the input, and the rest remains
pub read_front : (bytes input : List ℕ) (before now : SourceState) → before.left ≡ Some input → HasRead bytes before now →
    (rest : List ℕ) × (input ≡ bytes ++ rest) × (now.left ≡ Some rest)
read_front bytes input before now state a = by_left now.left refl
  where
    by_left : (left : Option (List ℕ)) → now.left ≡ left → (rest : List ℕ) × (input ≡ bytes ++ rest) × (now.left ≡ Some rest)
    by_left None e = absurd (cc (sym state ∙ a.in_order ∙ ap (option_map (λ rest. bytes ++ rest)) e))
    by_left (Some rest) e = (rest, cc (sym state ∙ a.in_order ∙ ap (option_map (λ rest. bytes ++ rest)) e), e)

-- if nothing remains, the complete input was read
pub read_whole : (bytes input : List ℕ) (before now : SourceState) → before.left ≡ Some input → HasRead bytes before now → IsAtEnd now → input ≡ bytes
read_whole bytes input before now state a ended =
    let (rest, split, last) = read_front bytes input before now state a in
    let none : rest ≡ [] = rw last at ended in
    split ∙ ap (λ l. bytes ++ l) none ∙ append-nil bytes
