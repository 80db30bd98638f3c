-- Forms of a JSON value.
use Rattle.std.proofs.Common.{◌≡◌, ℕ, List, [], ◌∷◌, length, Bool, true, false, Some, None, refl, ap}
use Rattle.std.specs.Prelude.{IsUtf8, if◌then◌else◌}
use Rattle.std.specs.Str.{is_utf8}
use Rattle.std.proofs.lemmas.Str.{IsUtf8-from_is_utf8, is_utf8-from_IsUtf8}
use Rattle.serde_json.specs.Data.{Data, null, boolean, number, string, array, object, Members}
use Rattle.serde_json.specs.Events.{members_len}
use Rattle.serde_json.specs.Find.{as_object}
use Rattle.serde_json.specs.Read.{read as value_of_text}
use Rattle.serde_json.specs.View.{items_view}
use Rattle.serde_json.specs.declared.value.Value.{Value}
use Rattle.lte_types.specs.declared.carrier.Carrier.{Carrier}
use Rattle.cell_plan.specs.declared.error.CellError.TheVariants.{Form}
use Rattle.cell_json.specs.Kinds.{key_count}
use Rattle.cell_json.specs.Reading.{json_of, refusal_of, refusal_by}
use Rattle.cell_json.specs.Description.{pair_in}

-- the number of members is the number of keys
pub members_are_keys : (json : Data) (members : Members) → Some members ≡ as_object json → members_len members ≡ key_count json
members_are_keys null members e = absurd (cc)
members_are_keys (boolean b) members e = absurd (cc)
members_are_keys (number n) members e = absurd (cc)
members_are_keys (string s) members e = absurd (cc)
members_are_keys (array ds) members e = absurd (cc)
members_are_keys (object ms) members e = let same : members ≡ ms = cc in ap members_len same

-- a list whose length is not two is not a complex number
pub no_pair : (values : List Value) → (length values ≡ 2 → ⊥) → pair_in (items_view values) ≡ None
no_pair [] h = refl
no_pair (x ∷ []) h = refl
no_pair (x ∷ y ∷ []) h = absurd (h refl)
no_pair (x ∷ y ∷ z ∷ rest) h = refl

-- ---- texts

pub text_has_value : (bytes : List ℕ) (json : Data) → IsUtf8 bytes → value_of_text bytes ≡ Some json → json_of bytes ≡ Some json
text_has_value bytes json text e = let t : is_utf8 bytes ≡ true = is_utf8-from_IsUtf8 bytes text in rw (t, e) refl

-- bytes that are not UTF-8 or not JSON fail the form
pub no_json : (carrier : Carrier) (bytes : List ℕ) → (IsUtf8 bytes → value_of_text bytes ≡ None) → refusal_by carrier bytes ≡ Some Form
no_json carrier bytes h = settle (is_utf8 bytes) refl
  where
    settle : (b : Bool) → is_utf8 bytes ≡ b → refusal_of carrier (if is_utf8 bytes then value_of_text bytes else None) ≡ Some Form
    settle true e = let none : value_of_text bytes ≡ None = h (IsUtf8-from_is_utf8 bytes e) in rw (e, none) refl
    settle false e = rw e refl
