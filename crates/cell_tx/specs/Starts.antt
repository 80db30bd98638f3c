-- The first samples of symbols in a frame, and the samples that cyclic prefixes repeat (TS 36.211 section 6.12).
use Rattle.std.specs.Prelude.{ℕ, ◌+◌, ◌-◌, ◌*◌, ◌/◌, ◌%◌, nat_eq, if◌then◌else◌}
use Rattle.lte_types.specs.declared.numerology.Prefix.{Prefix}
use Rattle.lte_types.specs.Numerology.{slot_length, useful_length, symbol_step, symbols_of_slot, symbol_of}

-- the index that sample `i` of a slot has in its symbol's useful part; a cyclic prefix sample has the index of the
-- useful sample that it repeats
abbrev pub useful_place : Prefix → ℕ → ℕ
useful_place prefix i = (i + (useful_length - prefix.first) - symbol_step prefix * symbol_of prefix i) % useful_length

-- the first sample of symbol `l` in a slot, where the cyclic prefix begins
abbrev pub first_in_slot : Prefix → ℕ → ℕ
first_in_slot prefix l = if nat_eq l 0 then 0 else prefix.first - prefix.other + symbol_step prefix * l

-- the first sample of symbol `n` in a frame with 140 symbols, or 120 with the extended cyclic prefix; for the symbol
-- number after the last, the frame's end
abbrev pub first_sample : Prefix → ℕ → ℕ
first_sample prefix n = slot_length * (n / symbols_of_slot prefix) + first_in_slot prefix (n % symbols_of_slot prefix)
