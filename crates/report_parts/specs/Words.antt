-- The words that text and JSON share. (own; the names come from TS 36.331 sections 6.2.2 and 6.3)
use Rattle.std.specs.Prelude.{ℕ, ◌+◌, ◌-◌, ◌*◌, ◌/◌, ◌^◌, nat_le, if◌then◌else◌, Bool, List, [], ◌∷◌, length, slice_index_or, codes}
use Rattle.std.specs.List.{flat_map}
use Rattle.std.specs.Fmt.{decimal}
use Rattle.finite.specs.Lists.{values_below}
use Rattle.cs_bits.specs.Numbers.{field}
use Rattle.lte_types.specs.declared.carrier.Carrier.{Carrier}
use Rattle.lte_types.specs.declared.carrier.Carrier.TheVariants.{OnePort, TwoPorts, LongPrefix, FourPorts}
use Rattle.lte_types.specs.declared.mnc.Mnc.{Mnc}
use Rattle.lte_types.specs.declared.mnc.Mnc.TheVariants.{Two, Three}

-- the text of decimal digits, in order
abbrev pub digits_word : List ℕ → List ℕ
digits_word digits = flat_map decimal digits

-- the text of a mobile network code, with two or three digits
abbrev pub mnc_word : Mnc → List ℕ
mnc_word (Two digits) = digits_word digits
mnc_word (Three digits) = digits_word digits

-- four bits from index `4 * i`, as a number; bits past the end are 0
abbrev pub nibble : List Bool → ℕ → ℕ
nibble bits i = field bits (4 * i) 4

-- bits as 4-bit numbers, padded with zeros to a multiple of eight bits
abbrev pub nibbles : List Bool → List ℕ
nibbles bits = values_below (2 * ((length bits + 7) / 8)) (nibble bits)

-- the hexadecimal digit for a number up to 15, in lower case; empty for larger numbers
abbrev pub hex_digit : ℕ → List ℕ
hex_digit n = slice_index_or (
    codes "0" ∷ codes "1" ∷ codes "2" ∷ codes "3" ∷ codes "4" ∷ codes "5" ∷ codes "6" ∷ codes "7" ∷ codes "8"
    ∷ codes "9" ∷ codes "a" ∷ codes "b" ∷ codes "c" ∷ codes "d" ∷ codes "e" ∷ codes "f" ∷ []) n []

-- the text of bits in hexadecimal, one digit for four bits, padded with zeros to a multiple of eight bits
unfoldable pub hex_word : List Bool → List ℕ
hex_word bits = flat_map hex_digit (nibbles bits)

-- the published name of the list rule for a transmission scheme
abbrev pub rule_word : Carrier → List ℕ
rule_word OnePort = codes "one-port"
rule_word TwoPorts = codes "two-ports"
rule_word LongPrefix = codes "long-prefix"
rule_word FourPorts = codes "four-ports"

-- a power as reported: at most 2^64 - 1, which no recording's power exceeds
abbrev pub power_word : ℕ → ℕ
power_word power = if nat_le power (2 ^ 64 - 1) then power else 2 ^ 64 - 1
