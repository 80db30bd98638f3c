-- Frames, slots and OFDM symbols in samples; the useful part of a symbol has 128 (TS 36.211 sections 4.1 and 6.12).
use Rattle.std.specs.Prelude.{◌≡◌, ◌⊎◌, ℕ, ◌+◌, ◌-◌, ◌*◌, ◌/◌, Bool, ◌&&◌, nat_eq, if◌then◌else◌}
use Rattle.lte_types.specs.declared.frame.Half.{Half}
use Rattle.lte_types.specs.declared.frame.Half.TheVariants.{Zero, Five}
use Rattle.lte_types.specs.declared.numerology.Prefix.{Prefix}

-- ---- lengths

-- samples per frame
abbrev pub frame_length : ℕ
frame_length = 19200

-- samples per half-frame
abbrev pub half_frame_length : ℕ
half_frame_length = 9600

-- samples per slot; a frame has 20 slots
abbrev pub slot_length : ℕ
slot_length = 960

-- samples in the useful part of a symbol
abbrev pub useful_length : ℕ
useful_length = 128

-- the resource blocks of the carrier, with twelve subcarriers each (TS 36.211 section 6.2.3)
abbrev pub block_count : ℕ
block_count = 6

-- the subcarriers of the carrier's resource blocks
abbrev pub subcarriers : ℕ
subcarriers = 12 * block_count

-- samples in 1,024 frames, after which frame numbers repeat
abbrev pub cycle_length : ℕ
cycle_length = 19660800

-- the minimum length of a recording, in samples: 30 ms (own)
abbrev pub least_samples : ℕ
least_samples = 57600

-- the maximum length of a recording, in samples: one second (own)
abbrev pub most_samples : ℕ
most_samples = 1920000

-- ---- symbols

-- the normal cyclic prefix: 10 samples in the first symbol of a slot, 9 in each other symbol
abbrev pub normal : Prefix
normal = record { first = 10; other = 9 }

-- the extended cyclic prefix: 32 samples in each symbol
abbrev pub extended : Prefix
extended = record { first = 32; other = 32 }

-- a prefix is the normal or the extended one
abbrev pub IsPrefix : Prefix → Type 0
IsPrefix prefix = (prefix ≡ normal) ⊎ (prefix ≡ extended)

-- whether a prefix is the extended one
abbrev pub is_extended : Prefix → Bool
is_extended prefix = nat_eq prefix.first 32 && nat_eq prefix.other 32

-- the number of prefix samples in symbol `symbol` of a slot
abbrev pub prefix_length : Prefix → ℕ → ℕ
prefix_length prefix symbol = if nat_eq symbol 0 then prefix.first else prefix.other

-- the distance, in samples, between the useful parts of consecutive symbols in a slot
abbrev pub symbol_step : Prefix → ℕ
symbol_step prefix = useful_length + prefix.other

-- the number of symbols in a slot: 7 with the normal prefix, 6 with the extended one
abbrev pub symbols_of_slot : Prefix → ℕ
symbols_of_slot prefix = slot_length / symbol_step prefix

-- the sample at which the useful part of symbol `symbol` in slot `slot` begins, for a frame that begins at sample
-- `frame`
abbrev pub useful_start : Prefix → ℕ → ℕ → ℕ → ℕ
useful_start prefix frame slot symbol = frame + slot_length * slot + prefix.first + symbol_step prefix * symbol

-- the index of the symbol that contains sample `i` of a slot, as part of its prefix or its useful part
abbrev pub symbol_of : Prefix → ℕ → ℕ
symbol_of prefix i = (i - (prefix.first - prefix.other)) / symbol_step prefix

-- ---- half-frames

-- the first subframe of a half-frame
abbrev pub subframe_of : Half → ℕ
subframe_of Zero = 0
subframe_of Five = 5

-- the half-frame that begins with a subframe, 0 or 5
abbrev pub half_of : ℕ → Half
half_of subframe = if nat_eq subframe 0 then Zero else Five

-- the offset, in samples, from the start of a frame to the useful part of a half-frame's PSS, which is in the last
-- symbol of slot 0 or 10 (TS 36.211 section 6.11.1.2): 832 or 10,432
abbrev pub primary_start : Half → ℕ
primary_start half = useful_start normal 0 (2 * subframe_of half) 6
