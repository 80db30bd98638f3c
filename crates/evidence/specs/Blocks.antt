-- The bits of an entry's MIB and of its SIB1's transport block. (own)
use Rattle.std.specs.Prelude.{ℕ, ◌+◌, ◌*◌, Bool, List}
use Rattle.cs_num.specs.declared.Sample.{Sample}
use Rattle.cs_bits.specs.Numbers.{bits_of}
use Rattle.lte_types.specs.declared.mib.Mib.{Mib}
use Rattle.lte_types.specs.declared.entry.Entry.{Entry}
use Rattle.lte_types.specs.Codes.{bandwidth_code, duration_code, resource_code}
use Rattle.explain.specs.Receiver.{Receiver}
use Rattle.explain.specs.Blocks.{IsBlockFor}
use Rattle.explain.specs.Entries.{place_of}

-- ---- the MIB

-- the 24 bits of a MIB as a number: dl-Bandwidth, phich-Duration, phich-Resource, the frame number's upper 8 bits, and
-- the last 10 bits (TS 36.331 section 6.2.2)
abbrev pub master_number : Mib → ℕ
master_number mib =
    (((bandwidth_code mib.bandwidth * 2 + duration_code mib.duration) * 4 + resource_code mib.resource) * 256 +
    mib.upper) * 1024 + mib.spare

-- the 24 bits of a MIB
abbrev pub master_bits : Mib → List Bool
master_bits mib = bits_of 24 (master_number mib)

-- ---- an entry's transport block

-- the bits of the transport block that carried an entry's SIB1, without its CRC, as `receiver` decodes them; there are
-- no bits if the entry has no SIB1
abbrev pub IsSystemBlock : Receiver → List Sample → Entry → List Bool → Type 0
IsSystemBlock receiver recording entry =
    IsBlockFor receiver recording (place_of entry) entry.sfn entry.mib entry.sib1
