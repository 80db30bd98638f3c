-- The byte format of a certificate (own).
use Rattle.std.specs.Prelude.{◌≡◌, ◌≢◌, ℕ, ◌+◌, ◌-◌, ◌*◌, ◌/◌, ◌%◌, ◌^◌, ◌<◌, ◌≤◌, ◌++◌, ◌⊎◌, Bool, cond, List, [], ◌∷◌, Option, Some, None, codes, is_some, length, nat_abs, slice_index, slice_index_or, take, drop, ℤ}
use Rattle.std.specs.Fmt.{decimal}
use Rattle.std.specs.List.{flat_map}
use Rattle.std.specs.Int.{w16, cast_signed, cast_unsigned}
use Rattle.byteorder.specs.Endian.{little_bytes, big_bytes, little_number}
use Rattle.finite.specs.Bits.{odd}
use Rattle.finite.specs.Lists.{values_below}
use Rattle.finite.specs.Sums.{total_below}
use Rattle.cs_bits.specs.Numbers.{number}
use Rattle.tail_cert.specs.Certificate.{Held}

-- the mark (magic number), the first four bytes of a certificate: LTC2
abbrev pub mark : List ℕ
mark = 0x4c ∷ 0x54 ∷ 0x43 ∷ 0x32 ∷ []

-- the bytes of a soft value: a 16-bit two's complement number, little-endian
unfoldable pub value_bytes : ℤ → List ℕ
value_bytes z = little_bytes 2 (cast_unsigned w16 z)

-- the bytes of a table entry or cost: a 32-bit number, little-endian
unfoldable pub entry_bytes : ℕ → List ℕ
entry_bytes n = little_bytes 4 n

-- the bytes of an information word: its 40 bits, most significant bit first
unfoldable pub word_bytes : List Bool → List ℕ
word_bytes word = big_bytes 5 (number word)

-- the bytes of a position's soft values, in stream order
unfoldable pub place_bytes : List ℤ → List ℕ
place_bytes values = flat_map value_bytes values

-- the bytes of a step's bounds, in state order
unfoldable pub row_bytes : List ℕ → List ℕ
row_bytes row = flat_map entry_bytes row

-- a table's bytes, step by step
unfoldable pub table_bytes : List (List ℕ) → List ℕ
table_bytes table = flat_map row_bytes table

-- the set of start states that have their own tables: 64 bits, from state 63 down to 0
unfoldable pub set_of : List (Option (List (List ℕ))) → List Bool
set_of tables = values_below 64 (λ i. is_some (slice_index_or tables (63 - i) None))

-- the bytes of the set of start states that have their own tables: a 64-bit number, little-endian, in which state s has
-- weight 2 ^ s
unfoldable pub set_bytes : List (Option (List (List ℕ))) → List ℕ
set_bytes tables = little_bytes 8 (number (set_of tables))

-- the bytes of a start state's own table, no bytes if the state has no table
unfoldable pub maybe_bytes : Option (List (List ℕ)) → List ℕ
maybe_bytes None = []
maybe_bytes (Some table) = table_bytes table

-- a certificate's bytes: the mark, the values by position and stream, the word, the cost, the general table, the set of
-- start states that have tables, and their tables. A table has its bounds by step, then by state.
unfoldable pub bytes_of : Held → List ℕ
bytes_of c =
    mark ++ flat_map place_bytes c.values ++ word_bytes c.word ++ entry_bytes c.cost
    ++ table_bytes c.general ++ set_bytes c.tables
    ++ flat_map maybe_bytes c.tables

-- `bytes` with `piece` in place of the bytes from offset `at`; later bytes keep their offsets
unfoldable pub with_piece : ℕ → List ℕ → List ℕ → List ℕ
with_piece at piece bytes = take at bytes ++ piece ++ drop (at + length piece) bytes

-- ---- lengths

-- the length in bytes of a certificate up to and including its set of start states
abbrev pub head_count : ℕ
head_count = 10501

-- the length of a table in bytes: 40 steps of 64 bounds
abbrev pub table_count : ℕ
table_count = 10240

-- the longest certificate's length in bytes, with tables for all start states
abbrev pub most_count : ℕ
most_count = 665861

-- whether the set of start states, the eight bytes at offset 10,493, contains state s
abbrev pub tells_table : List ℕ → ℕ → Bool
tells_table bytes s = odd (little_number 8 (drop 10493 bytes) / 2 ^ s)

-- the length in bytes of the certificate that begins with `bytes`, which follows from its set of start states if
-- `bytes` include it
unfoldable pub count_of : List ℕ → ℕ
count_of bytes = head_count + table_count * total_below 64 (λ s. cond (tells_table bytes s) 1 0)

-- ---- format errors

-- the soft value in the two bytes at offset p
unfoldable pub value_at : List ℕ → ℕ → ℤ
value_at bytes p = cast_signed w16 (little_number 2 (drop p bytes))

-- offset p is within the first four bytes, and the byte there differs from the mark's
abbrev pub IsOffMark : List ℕ → ℕ → Type 0
IsOffMark bytes p = (p < 4) × (p < length bytes) × (slice_index bytes p ≢ slice_index mark p)

-- a soft value above 2,032 in magnitude begins at offset p
abbrev pub IsLargeValue : List ℕ → ℕ → Type 0
IsLargeValue bytes p = (4 ≤ p) × (p < 244) × (p % 2 ≡ 0) × (p + 2 ≤ length bytes) × (2032 < nat_abs (value_at bytes p))

-- `bytes` end at offset p, before the required length `count`
abbrev pub IsEarlyEnd : ℕ → List ℕ → ℕ → Type 0
IsEarlyEnd count bytes p = (p ≡ length bytes) × (p < count)

-- a certificate that must have at least `count` bytes has a format error at offset p: in the mark, in a soft value, or
-- an early end
abbrev pub BreaksUpTo : ℕ → List ℕ → ℕ → Type 0
BreaksUpTo count bytes p = IsOffMark bytes p ⊎ IsLargeValue bytes p ⊎ IsEarlyEnd count bytes p

-- a certificate has a format error at offset p, with the length that its set of start states requires
abbrev pub Breaks : List ℕ → ℕ → Type 0
Breaks bytes p = BreaksUpTo (count_of bytes) bytes p

-- a certificate that must have at least `count` bytes has no format error
abbrev pub IsUnbrokenUpTo : ℕ → List ℕ → Type 0
IsUnbrokenUpTo count bytes = (p : ℕ) → BreaksUpTo count bytes p → ⊥

-- the first format error in a certificate that must have at least `count` bytes is at offset p
pub record IsFirstBreakUpTo (count : ℕ) (bytes : List ℕ) (p : ℕ) : Type 0 where
  pub here : BreaksUpTo count bytes p
  pub before : (q : ℕ) → q < p → BreaksUpTo count bytes q → ⊥

-- the first format error in a certificate is at offset p, with the length that its set of start states requires
abbrev pub IsFirstBreak : List ℕ → ℕ → Type 0
IsFirstBreak bytes p = IsFirstBreakUpTo (count_of bytes) bytes p

-- the error message for a format error at the byte offset `place`
abbrev pub broken_text : ℕ → List ℕ
broken_text place = codes "bad certificate at byte " ++ decimal place
