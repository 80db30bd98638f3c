-- The fine offset, from the cyclic prefixes: each prefix sample repeats 128 samples later (TS 36.211 section 6.12),
-- with a phase shift proportional to the frequency offset. (own)
use Rattle.std.specs.Prelude.{ℕ, ◌+◌, ◌-◌, ◌%◌, Bool, ◌&&◌, ◌||◌, nat_eq, nat_le, if◌then◌else◌, List, length, ℤ}
use Rattle.cs_num.specs.declared.Cpx.{Cpx}
use Rattle.cs_num.specs.declared.Sample.{Sample}
use Rattle.cs_num.specs.Complex.{nothing, times, conjugate, sample_at}
use Rattle.cs_num.specs.Sums.{complex_sum_below}
use Rattle.lte_types.specs.Numerology.{half_frame_length, normal, useful_start, primary_start, useful_length}
use Rattle.lte_types.specs.declared.frame.Half.TheVariants.{Zero}
use Rattle.sss_detect.specs.Identity.{first_greatest}
use Rattle.frequency_offset.specs.Turned.{w_of}
use Rattle.frequency_offset.specs.Order.{by_magnitude}

-- the start of the first half-frame in a recording whose PSS is at sample `t`: (t - 832) modulo 9600
abbrev pub half_start : ℕ → ℕ
half_start t = (t + (half_frame_length - primary_start Zero)) % half_frame_length

-- whether every cell transmits in a symbol: symbols 0 and 4 of each slot carry reference signals, and symbols 5 and 6
-- carry synchronisation signals in the first slot of each half-frame
abbrev pub is_carried : ℕ → ℕ → Bool
is_carried slot symbol =
    nat_eq symbol 0 || nat_eq symbol 4 || (nat_eq (slot % 10) 0 && (nat_eq symbol 5 || nat_eq symbol 6))

-- the conjugate of sample `i` among the last nine in the cyclic prefix before `u`, times the sample 128 later
abbrev pub repeat_term : List Sample → ℕ → ℕ → Cpx
repeat_term recording u i = times (conjugate (sample_at recording (u - 9 + i))) (sample_at recording (u + 119 + i))

-- the sum of the nine products for the cyclic prefix before `u`
unfoldable pub repeat_sum : List Sample → ℕ → Cpx
repeat_sum recording u = complex_sum_below 9 (repeat_term recording u)

-- the sum of a symbol's nine prefix products; 0 if some cells do not transmit in the symbol, or the recording ends
-- before the symbol does
unfoldable pub symbol_sum : List Sample → ℕ → ℕ → ℕ → Cpx
symbol_sum recording start slot symbol =
    if is_carried slot symbol && nat_le (useful_start normal start slot symbol + useful_length) (length recording)
    then repeat_sum recording (useful_start normal start slot symbol) else nothing

-- the sum of the prefix products over the seven symbols of a slot
unfoldable pub slot_sum : List Sample → ℕ → ℕ → Cpx
slot_sum recording start slot = complex_sum_below 7 (symbol_sum recording start slot)

-- the sum S of the prefix products over 160 slots, from the first half-frame in a recording whose PSS is at sample `t`
unfoldable pub prefix_sum : List Sample → ℕ → Cpx
prefix_sum recording t = complex_sum_below 160 (slot_sum recording (half_start t))

-- how well the prefix sum `sum` matches offset `m`: the real part after rotation by `-m` / 128 of a cycle
unfoldable pub fit : Cpx → ℤ → ℤ
fit sum m = (times sum (conjugate (w_of m))).re

-- the offset from -64 to 63 that matches the prefix sum best; on a tie, the one with the smallest magnitude, then the
-- lower
unfoldable pub best_fit : Cpx → ℤ
best_fit sum = by_magnitude (first_greatest (λ k. fit sum (by_magnitude k)) 127)

-- the fine offset of a recording whose PSS is at sample `t`, in steps of 117.1875 Hz
abbrev pub fine_turn : List Sample → ℕ → ℤ
fine_turn recording t = best_fit (prefix_sum recording t)
