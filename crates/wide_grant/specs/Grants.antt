-- Downlink grants of SIB1 in DCI formats 1A and 1C, at any bandwidth (TS 36.212 sections 5.3.3.1.3 and 5.3.3.1.4, TS
-- 36.213 sections 7.1.6.3 and 7.1.7, TS 36.321 section 5.3.1).
use Rattle.std.specs.Prelude.{ℕ, ◌+◌, ◌*◌, ◌/◌, ◌%◌, Bool, true, false, not, ◌&&◌, ◌||◌, nat_eq, nat_le, nat_lt, if◌then◌else◌, List, Result, Ok, Err}
use Rattle.std.specs.List.{list_any, range_with_len}
use Rattle.finite.specs.Lists.{values_below}
use Rattle.cs_bits.specs.Numbers.{field}
use Rattle.dci.specs.Fields.{bit}
use Rattle.wide_grant.specs.declared.run.Run.{Run}
use Rattle.wide_grant.specs.declared.grant.Mapping.{Mapping}
use Rattle.wide_grant.specs.declared.grant.Mapping.TheVariants.{Localized, FirstGap, SecondGap}
use Rattle.wide_grant.specs.declared.grant.WideGrant.{WideGrant}
use Rattle.wide_grant.specs.declared.grant.Refusal.{Refusal}
use Rattle.wide_grant.specs.declared.grant.Refusal.TheVariants.{NotFormat1A, BadAllocation, ReservedMcs}
use Rattle.wide_grant.specs.Runs.{run_count, bits_for, run_of}
use Rattle.wide_grant.specs.Distributed.{virtual_blocks, physical}
use Rattle.wide_grant.specs.Sizes.{size_1a, size_1c}

-- ---- the resource blocks of a grant

-- the distributed mapping by the first or the second gap
abbrev pub distributed : Bool → Mapping
distributed second = if second then SecondGap else FirstGap

-- the number of virtual resource blocks of a mapping
abbrev pub available : ℕ → Mapping → ℕ
available blocks Localized = blocks
available blocks FirstGap = virtual_blocks blocks false
available blocks SecondGap = virtual_blocks blocks true

-- the resource block of virtual resource block v in a slot with an even or odd number
abbrev pub block_at : ℕ → Mapping → Bool → ℕ → ℕ
block_at blocks Localized odd v = v
block_at blocks FirstGap odd v = physical blocks false odd v
block_at blocks SecondGap odd v = physical blocks true odd v

-- whether a resource block is allocated in a slot with an even or odd number
abbrev pub is_allocated : ℕ → WideGrant → Bool → ℕ → Bool
is_allocated blocks grant odd b =
    list_any (λ v. nat_eq (block_at blocks grant.mapping odd v) b)
    (range_with_len grant.run.start grant.run.blocks)

-- for each resource block of a cell, whether a grant allocates the block
unfoldable pub allocated_blocks : ℕ → WideGrant → Bool → List Bool
allocated_blocks blocks grant odd = values_below blocks (is_allocated blocks grant odd)

-- ---- format 1A (section 5.3.3.1.3)

-- the width in bits of the resource indication value in format 1A
abbrev pub width_1a : ℕ → ℕ
width_1a blocks = bits_for (run_count blocks)

-- whether n bits, 20 to 28, are an ambiguous size, to which a payload pads one bit (table 5.3.3.1.2-1)
abbrev pub is_ambiguous : ℕ → Bool
is_ambiguous n = nat_eq n 20 || nat_eq n 24 || nat_eq n 26

-- the number of bits in a payload of format 1A for `blocks` resource blocks
abbrev pub bits_1a : ℕ → ℕ
bits_1a blocks =
    if is_ambiguous (15 + width_1a blocks) then 16 + width_1a blocks else 15 + width_1a blocks

-- the mapping in a payload of format 1A: bit 1 selects distributed blocks; from 50 resource blocks the new data
-- indicator selects the gap
abbrev pub mapping_1a : ℕ → List Bool → Mapping
mapping_1a blocks bits =
    if bit bits 1 then distributed (nat_le 50 blocks && bit bits (10 + width_1a blocks)) else Localized

-- the run of virtual resource blocks in a payload of format 1A
abbrev pub run_1a : ℕ → List Bool → Run
run_1a blocks bits = run_of blocks (field bits 2 (width_1a blocks))

-- whether the resource indication value in a payload of format 1A has a run, and the run ends within the virtual
-- resource blocks
abbrev pub has_run_1a : ℕ → List Bool → Bool
has_run_1a blocks bits =
    nat_lt (field bits 2 (width_1a blocks)) (run_count blocks)
    && nat_le ((run_1a blocks bits).start + (run_1a blocks bits).blocks)
    (available blocks (mapping_1a blocks bits))

-- the modulation and coding scheme in a payload of format 1A
abbrev pub mcs_1a : ℕ → List Bool → ℕ
mcs_1a blocks bits = field bits (2 + width_1a blocks) 5

-- the grant in a payload of format 1A, or the first reason to refuse it
abbrev pub grant_1a : ℕ → List Bool → Result WideGrant Refusal
grant_1a blocks bits =
    if not (bit bits 0) then Err NotFormat1A
    else (if not (has_run_1a blocks bits) then Err BadAllocation
    else (if nat_lt 26 (mcs_1a blocks bits) then Err ReservedMcs
    else Ok (record {
      mapping = mapping_1a blocks bits;
      run = run_1a blocks bits;
      size = size_1a (bit bits (14 + width_1a blocks)) (mcs_1a blocks bits);
      rv = field bits (11 + width_1a blocks) 2;
    })))

-- ---- format 1C (section 5.3.3.1.4): distributed blocks, in steps

-- the number of virtual resource blocks in a step of format 1C
abbrev pub step : ℕ → ℕ
step blocks = if nat_lt blocks 50 then 2 else 4

-- the number of whole steps among the virtual resource blocks of a gap
abbrev pub steps : ℕ → Bool → ℕ
steps blocks second = virtual_blocks blocks second / step blocks

-- the number of bits that select the gap in a payload of format 1C
abbrev pub gap_bits : ℕ → ℕ
gap_bits blocks = if nat_le 50 blocks then 1 else 0

-- the width in bits of the resource indication value in format 1C
abbrev pub width_1c : ℕ → ℕ
width_1c blocks = bits_for (run_count (steps blocks false))

-- the number of bits in a payload of format 1C for `blocks` resource blocks
abbrev pub bits_1c : ℕ → ℕ
bits_1c blocks = gap_bits blocks + width_1c blocks + 5

-- whether a payload of format 1C selects the second gap
abbrev pub has_second_gap : ℕ → List Bool → Bool
has_second_gap blocks bits = nat_le 50 blocks && bit bits 0

-- the resource indication value in a payload of format 1C
abbrev pub value_1c : ℕ → List Bool → ℕ
value_1c blocks bits = field bits (gap_bits blocks) (width_1c blocks)

-- the virtual resource blocks of a run of steps, with `length` blocks in a step
abbrev pub stepped : ℕ → Run → Run
stepped length run = record { start = length * run.start; blocks = length * run.blocks }

-- the redundancy version of SIB1 in a frame (TS 36.321 section 5.3.1): 0, 2, 3, 1 in turn, each for two frames
abbrev pub version_at : ℕ → ℕ
version_at sfn = (3 * (sfn / 2 % 4) + 1) / 2 % 4

-- the grant in a payload of format 1C in a frame, or the reason to refuse it
abbrev pub grant_1c : ℕ → ℕ → List Bool → Result WideGrant Refusal
grant_1c blocks sfn bits =
    if not (nat_lt (value_1c blocks bits) (run_count (steps blocks (has_second_gap blocks bits))))
    then Err BadAllocation
    else Ok (record {
      mapping = distributed (has_second_gap blocks bits);
      run = stepped (step blocks) (run_of (steps blocks (has_second_gap blocks bits)) (value_1c blocks bits));
      size = size_1c (field bits (gap_bits blocks + width_1c blocks) 5);
      rv = version_at sfn;
    })
