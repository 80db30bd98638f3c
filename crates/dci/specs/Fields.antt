-- The fields in the 21 bits of DCI format 1A, for six resource blocks (TS 36.212 section 5.3.3.1.3).
use Rattle.std.specs.Prelude.{ℕ, Bool, false, List, slice_index_or}
use Rattle.cs_bits.specs.Numbers.{field}

-- bit `i` of the DCI `bits`
abbrev pub bit : List Bool → ℕ → Bool
bit bits i = slice_index_or bits i false

-- whether the flag that distinguishes format 1A from format 0 is set
abbrev pub is_1a : List Bool → Bool
is_1a bits = bit bits 0

-- whether the resource blocks are distributed, not localised
abbrev pub is_distributed : List Bool → Bool
is_distributed bits = bit bits 1

-- the resource indication value
abbrev pub assignment : List Bool → ℕ
assignment bits = field bits 2 5

-- the modulation and coding scheme (MCS)
abbrev pub mcs : List Bool → ℕ
mcs bits = field bits 7 5

-- the HARQ process number
abbrev pub harq : List Bool → ℕ
harq bits = field bits 12 3

-- the new data indicator
abbrev pub new_data : List Bool → Bool
new_data bits = bit bits 15

-- the redundancy version
abbrev pub rv : List Bool → ℕ
rv bits = field bits 16 2

-- the high bit of the transmit power control command
abbrev pub tpc_high : List Bool → Bool
tpc_high bits = bit bits 18

-- the low bit of the transmit power control command
abbrev pub tpc_low : List Bool → Bool
tpc_low bits = bit bits 19

-- the padding bit
abbrev pub padding : List Bool → Bool
padding bits = bit bits 20

-- the SI-RNTI (TS 36.321 section 7.1), which masks the CRC when DCI grants system information and enters the
-- scrambling of the granted PDSCH
abbrev pub system_information_rnti : ℕ
system_information_rnti = 65535
