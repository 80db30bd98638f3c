-- Values in JSON. (own)
use Rattle.std.specs.Prelude.{◌≡◌, ℕ, List, [], ◌∷◌, ◌++◌, codes, false, Option, Some, None}
use Rattle.serde_json.specs.Data.{Data, null, Members, put}
use Rattle.serde_json.specs.Written.{compact_text, has_float}
use Rattle.report_parts.specs.Fields.{natural}

-- the JSON of a value, or null if it is absent
abbrev pub or_null : {A : Type 0} → (A → Data) → Option A → Data
or_null value None = null
or_null value (Some x) = value x

-- `members`, with each named number added under its name
abbrev pub put_each : List (List ℕ × ℕ) → Members → Members
put_each [] members = members
put_each (named ∷ rest) members = put_each rest (put named.0 (natural named.1) members)

-- the JSON value of every `x` is free of floating-point numbers
abbrev pub HasNoFloat : {A : Type 0} → (A → Data) → Type 0
HasNoFloat {A} value = (x : A) → has_float (value x) ≡ false

-- the JSON text of item `x`, preceded by a comma
abbrev pub after_comma : {A : Type 0} → (A → Data) → A → List ℕ
after_comma value x = codes "," ++ compact_text (value x)
