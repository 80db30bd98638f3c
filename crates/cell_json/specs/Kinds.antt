-- Kinds of JSON values: each gives the value that it accepts, or `None`. (own)
use Rattle.std.specs.Prelude.{ℕ, Bool, ◌&&◌, nat_eq, nat_le, if◌then◌else◌, List, [], ◌∷◌, length, Option, Some, None}
use Rattle.std.specs.Prelude.{is_some, option_map, option_and_then, ℤ, pos, int_le, nat_abs}
use Rattle.std.specs.List.{list_all}
use Rattle.serde_json.specs.Data.{Data, object, Items, no_items, item}
use Rattle.serde_json.specs.Events.{items_len, members_len}
use Rattle.serde_json.specs.Find.{get, as_null, as_number, as_i64, as_array}

-- the result of a function for an option's value, or `None` if the option has no value
infixl 10 ◌>>=◌
abbrev pub ◌>>=◌ : {A B : Type 0} → Option A → (A → Option B) → Option B
option >>= f = option_and_then f option

-- `value` if `test` is true, and otherwise `None`
abbrev pub given : {A : Type 0} → Bool → A → Option A
given test value = if test then Some value else None

-- ---- numbers

-- a signed 64-bit integer
abbrev pub whole_of : Data → Option ℤ
whole_of json = option_and_then as_i64 (as_number json)

abbrev pub is_between : ℤ → ℤ → ℤ → Bool
is_between least most z = int_le least z && int_le z most

-- an integer from `least` to `most`
abbrev pub whole_within : ℤ → ℤ → Data → Option ℤ
whole_within least most json = do
  z ← whole_of json
  given (is_between least most z) z

-- an integer from `least` to `most`, which are not negative
abbrev pub natural_within : ℕ → ℕ → Data → Option ℕ
natural_within least most json = option_map nat_abs (whole_within (pos least) (pos most) json)

-- ---- optional values

-- null, or a value of the kind `kind`
abbrev pub null_or : {A : Type 0} → (Data → Option A) → Data → Option (Option A)
null_or kind json = if is_some (as_null json) then Some None else option_map Some (kind json)

-- ---- lists

-- the values of an array's items, each of the kind `kind`, or `None` if one item is not of this kind
abbrev pub each : {A : Type 0} → (Data → Option A) → Items → Option (List A)
each kind no_items = Some []
each kind (item first rest) = do
  value ← kind first
  values ← each kind rest
  Some (value ∷ values)

abbrev pub list_of : {A : Type 0} → (Data → Option A) → Data → Option (List A)
list_of kind json = option_and_then (each kind) (as_array json)

-- the items of an array whose length is from `least` to `most`, or `None` for other values
abbrev pub items_within : ℕ → ℕ → Data → Option Items
items_within least most json = do
  items ← as_array json
  given (nat_le least (items_len items) && nat_le (items_len items) most) items

-- the values of the items, each of the kind `kind`, in an array whose length is from `least` to `most`
abbrev pub list_within : {A : Type 0} → ℕ → ℕ → (Data → Option A) → Data → Option (List A)
list_within least most kind json = option_and_then (each kind) (items_within least most json)

-- ---- objects

-- the value at a key, or `None` if the key does not have a value of the kind `kind`
abbrev pub at_key : {A : Type 0} → (Data → Option A) → List ℕ → Data → Option A
at_key kind key json = option_and_then kind (get key json)

-- the number of keys in an object, where a key that occurs twice counts once; 0 for other values
abbrev pub key_count : Data → ℕ
key_count (object members) = members_len members
key_count _ = 0

-- whether `key` has a value of the kind `kind`
abbrev pub has : {A : Type 0} → List ℕ → (Data → Option A) → Data → Bool
has key kind json = is_some (at_key kind key json)

-- whether a JSON value passes each test in `keys`, that is, has each key with a value of its kind
abbrev pub has_all : List (Data → Bool) → Data → Bool
has_all keys json = list_all (λ is_there. is_there json) keys

-- whether an object passes each test in `keys`, that is, has each key with a value of its kind, and has no other key
abbrev pub has_exactly : List (Data → Bool) → Data → Bool
has_exactly keys json = nat_eq (key_count json) (length keys) && has_all keys json

-- an object that passes exactly the tests in `keys`: each key has a value of its kind, and there is no other key
abbrev pub object_of : List (Data → Bool) → Data → Option Data
object_of keys json = given (has_exactly keys json) json
