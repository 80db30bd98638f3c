-- The CRCs of LTE: CRC16 with a mask, and CRC24A (TS 36.212 section 5.1.1).
use Rattle.std.specs.Prelude.{◌≡◌, ℕ, ◌-◌, Bool, List, ◌++◌, length, take, drop, nat_eq, bit_xor}
use Rattle.cs_bits.specs.Numbers.{number, bits_of}
use Rattle.cs_bits.specs.Polynomial.{remainder, generator_16, generator_24a}

-- a message's CRC16 as a number; the message's first bit is the highest coefficient
unfoldable pub crc16_of : List Bool → ℕ
crc16_of message = number (remainder 16 generator_16 message)

-- a message's CRC24A as a number; the message's first bit is the highest coefficient
unfoldable pub crc24a_of : List Bool → ℕ
crc24a_of message = number (remainder 24 generator_24a message)

-- a codeword without its `width`-bit CRC
abbrev pub message_of : ℕ → List Bool → List Bool
message_of width word = take (length word - width) word

-- the `width`-bit CRC at the end of a codeword, as a number
abbrev pub check_of : ℕ → List Bool → ℕ
check_of width word = number (drop (length word - width) word)

-- a message followed by its CRC16, XORed with a mask
abbrev pub with_check_16 : ℕ → List Bool → List Bool
with_check_16 mask message = message ++ bits_of 16 (bit_xor (crc16_of message) mask)

-- a message followed by its CRC24A
abbrev pub with_check_24 : List Bool → List Bool
with_check_24 message = message ++ bits_of 24 (crc24a_of message)

-- the last 16 bits of `word` are the CRC16 of the bits before them, XORed with `mask`
abbrev pub HasCheck16 : ℕ → List Bool → Type 0
HasCheck16 mask word = check_of 16 word ≡ bit_xor (crc16_of (message_of 16 word)) mask

-- whether the last 24 bits of `word` are the CRC24A of the bits before them
unfoldable pub has_check_24 : List Bool → Bool
has_check_24 word = nat_eq (check_of 24 word) (crc24a_of (message_of 24 word))
