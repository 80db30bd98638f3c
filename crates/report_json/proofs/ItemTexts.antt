-- The text of an array, item by item.
use Rattle.std.proofs.Common.{◌≡◌, ◌∙◌, true, refl, ap, sym, append_assoc, ℕ, List, [], ◌∷◌, ◌++◌, map}
use Rattle.std.specs.List.{flat_map}
use Rattle.serde_json.specs.Data.{Data}
use Rattle.serde_json.specs.View.{items_of}
use Rattle.serde_json.specs.Written.{compact_text, items_text}
use Rattle.report_parts.specs.Fields.{list_of}
use Rattle.report_json.specs.Values.{after_comma}

-- each item after the first is preceded by a comma, and a bracket ends the array
pub rest_text : {A : Type 0} (value : A → Data) (xs : List A) → items_text true (items_of (map value xs)) ≡ flat_map (after_comma value) xs ++ (93 ∷ [])
rest_text value [] = refl
rest_text value (x ∷ xs) =
    ap (λ l. after_comma value x ++ l) (rest_text value xs) ∙ sym (append_assoc (after_comma value x) (flat_map (after_comma value) xs) (93 ∷ []))

-- the text of a list that is not empty
pub list_text_is : {A : Type 0} (value : A → Data) (x : A) (xs : List A) (text : List ℕ) →
    text ≡ ((91 ∷ compact_text (value x)) ++ flat_map (after_comma value) xs) ++ (93 ∷ []) → text ≡ compact_text (list_of value (x ∷ xs))
list_text_is value x xs text e =
    e ∙ append_assoc (91 ∷ compact_text (value x)) (flat_map (after_comma value) xs) (93 ∷ [])
    ∙ ap (λ l. (91 ∷ compact_text (value x)) ++ l) (sym (rest_text value xs))
