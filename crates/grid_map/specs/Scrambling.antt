-- Scrambling seeds: c_init of each channel's sequence (TS 36.211 section 7.2), by the first slot of the subframe; and
-- the PCFICH codewords.
use Rattle.std.specs.Prelude.{ℕ, ◌+◌, ◌-◌, ◌*◌, ◌/◌, ◌%◌, ◌^◌, Bool, not, nat_eq}

-- c_init for the PBCH (section 6.6.1)
abbrev pub pbch_c_init : ℕ → ℕ
pbch_c_init identity = identity

-- c_init for the PCFICH (section 6.7.1)
abbrev pub pcfich_c_init : ℕ → ℕ → ℕ
pcfich_c_init identity slot = (slot / 2 + 1) * (2 * identity + 1) * 2 ^ 9 + identity

-- c_init for the PDCCH (section 6.8.2)
abbrev pub pdcch_c_init : ℕ → ℕ → ℕ
pdcch_c_init identity slot = slot / 2 * 2 ^ 9 + identity

-- c_init for the first codeword of the PDSCH, given the receiver's RNTI (section 6.3.1)
abbrev pub pdsch_c_init : ℕ → ℕ → ℕ → ℕ
pdsch_c_init identity slot rnti = rnti * 2 ^ 14 + slot / 2 * 2 ^ 9 + identity

-- bit `i` of the 32-bit PCFICH codeword for a control format indicator: every third bit is 0 (TS 36.212 section 5.3.4)
abbrev pub indicator_bit : ℕ → ℕ → Bool
indicator_bit indicator i = not (nat_eq (i % 3) (indicator - 1))
