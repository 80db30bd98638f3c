-- A grammar read from a position, as the reader does it. (own)
use Rattle.std.specs.Prelude.{◌≡◌, ℕ, ◌+◌, nat_lt, nat_le, ◌&&◌, if◌then◌else◌, length, slice_range, Result, Ok, Err}
use Rattle.cs_bits.specs.Numbers.{number}
use Rattle.uper.specs.Cursor.{Cursor}
use Rattle.uper.specs.Grammar.{Grammar, done, field}

-- the number of a field and the position after it; as an error, the position at which the field begins if it is cut off
-- or out of range
abbrev pub field_at : ℕ → ℕ → ℕ → Cursor → Result (ℕ × Cursor) ℕ
field_at width least greatest at =
    let n = number (slice_range at.bits at.place (at.place + width)) in
    if nat_lt (length at.bits) (at.place + width) then Err at.place
    else if nat_le least n && nat_le n greatest then Ok (n, record { bits = at.bits; place = at.place + width })
    else Err at.place

-- one reading followed by another, which may depend on the value of the first reading; the first error ends both
abbrev pub and_then : {A B : Type 0} → Result A ℕ → (A → Result B ℕ) → Result B ℕ
and_then (Ok x) f = f x
and_then (Err place) f = Err place

-- the value that `grammar` reads at a position, and the position after it; as an error, the position of the first bad
-- field
unfoldable pub reading : {A : Type 0} → Grammar A → Cursor → Result (A × Cursor) ℕ
reading (done x) at = Ok (x, at)
reading (field width least greatest next) at = and_then (field_at width least greatest at) (λ x. reading (next x.0) x.1)

-- a result at the position `old` is the value that `grammar` reads there, and `new` is the position after it; or the
-- result is the position of the first bad field, and `new` is any position
abbrev pub Reads : {A : Type 0} → Grammar A → Cursor → Result A ℕ → Cursor → Type 0
Reads grammar old (Ok x) new = reading grammar old ≡ Ok (x, new)
Reads grammar old (Err place) new = reading grammar old ≡ Err place
