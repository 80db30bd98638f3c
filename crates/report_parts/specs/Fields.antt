-- Named values in reports, from which both a line of text and a JSON object are built. (own)
use Rattle.std.specs.Prelude.{◌≡◌, ℕ, ℤ, List, [], ◌∷◌, ◌++◌, map, codes, unwrap_or}
use Rattle.std.specs.List.{flat_map}
use Rattle.std.specs.List.Sorted.{IsStrictlySortedBy}
use Rattle.std.specs.Ordering.{nat_cmp}
use Rattle.std.specs.Cmp.Lexicographic.{slice_cmp}
use Rattle.serde_json.specs.Data.{Data, number, unsigned, array, object, Members, no_members, member, put}
use Rattle.serde_json.specs.Find.{as_str, of_integer}
use Rattle.serde_json.specs.View.{items_of}
use Rattle.serde_json.specs.Written.{compact_text}

-- ---- values

-- the JSON number for a natural number
abbrev pub natural : ℕ → Data
natural n = number (unsigned n)

-- the JSON number for an integer
abbrev pub integer : ℤ → Data
integer z = number (of_integer z)

-- the JSON array of a list, with `value` applied to each item
abbrev pub list_of : {A : Type 0} → (A → Data) → List A → Data
list_of value xs = array (items_of (map value xs))

-- the text of a value: a string as it is, any other value as its JSON
abbrev pub value_word : Data → List ℕ
value_word value = unwrap_or (as_str value) (compact_text value)

-- ---- fields

-- a name and a value
abbrev pub NamedData : Type 0
NamedData = List ℕ × Data

-- `members`, with the value of each field added under its name
abbrev pub put_fields : List NamedData → Members → Members
put_fields [] members = members
put_fields (field ∷ rest) members = put_fields rest (put field.0 field.1 members)

-- the object with the value of each field under its name; names are in byte order, each once
abbrev pub object_of : List NamedData → Data
object_of fields = object (put_fields fields no_members)

-- the JSON object of fields, without spaces
abbrev pub json_of_fields : List NamedData → List ℕ
json_of_fields fields = compact_text (object_of fields)

-- a field in a line: a space, the name, a space and the value
abbrev pub field_part : NamedData → List ℕ
field_part field = codes " " ++ field.0 ++ codes " " ++ value_word field.1

-- fields in a line, in order
abbrev pub text_of_fields : List NamedData → List ℕ
text_of_fields fields = flat_map field_part fields

-- the line that begins with `head`, followed by the fields in order
abbrev pub line_of_fields : List ℕ → List NamedData → List ℕ
line_of_fields head fields = head ++ text_of_fields fields ++ codes "\n"

-- ---- laws

-- the members of an object with the fields in the order of the list
abbrev pub members_in : List NamedData → Members
members_in [] = no_members
members_in (field ∷ rest) = member field.0 field.1 (members_in rest)

-- each name is less, in byte order, than every later name
abbrev pub AreAscending : List NamedData → Type 0
AreAscending fields = IsStrictlySortedBy (slice_cmp nat_cmp) (map (λ field. field.0) fields)

-- a law: if names ascend, the object has the fields in the order of the list
abbrev pub AscendingFieldsStandInOrder : Type 0
AscendingFieldsStandInOrder =
    (fields : List NamedData) → AreAscending fields → object_of fields ≡ object (members_in fields)

-- the names of members, in order
abbrev pub names_in : Members → List (List ℕ)
names_in no_members = []
names_in (member name value rest) = name ∷ names_in rest

-- a law: the names of an object ascend, whatever the order of the fields
abbrev pub NamesOfObjectsAscend : Type 0
NamesOfObjectsAscend =
    (fields : List NamedData) → IsStrictlySortedBy (slice_cmp nat_cmp) (names_in (put_fields fields no_members))
