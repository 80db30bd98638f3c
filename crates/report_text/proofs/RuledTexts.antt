-- Texts under the lines of their transmission schemes, pair by pair.
use Rattle.std.proofs.Common.{◌≡◌, ◌∙◌, ℕ, List, [], ◌∷◌, ◌++◌, map, refl, ap, string_bytes}
use Rattle.std.specs.Prelude.{String}
use Rattle.std.specs.declared.alloc.Global.{Global}
use Rattle.lte_types.specs.declared.carrier.Carrier.{Carrier}
use Rattle.lte_types.specs.Carrier.{carriers}
use Rattle.report_parts.proofs.Zipped.{put_for, put_by}
use Rattle.report_text.specs.All.{ruled_text, ruled_texts}

-- a string under the line with the name of its transmission scheme
abbrev pub ruled_string : Carrier → String Global → List ℕ
ruled_string carrier text = ruled_text carrier (string_bytes text)

of_bytes : (schemes : List Carrier) (texts : List (String Global)) → put_for ruled_string schemes texts ≡ put_for ruled_text schemes (map string_bytes texts)
of_bytes [] texts = refl
of_bytes (scheme ∷ schemes) [] = refl
of_bytes (scheme ∷ schemes) (text ∷ texts) = ap (λ l. ruled_string scheme text ++ l) (of_bytes schemes texts)

-- strings with the texts of the transmission schemes, each under its line, are the texts under their lines
pub strings_are_texts : (texts : List (String Global)) (of : Carrier → List ℕ) → map string_bytes texts ≡ map of carriers → put_for ruled_string carriers texts ≡ ruled_texts of
strings_are_texts texts of are = of_bytes carriers texts ∙ ap (put_for ruled_text carriers) are ∙ put_by ruled_text of carriers
