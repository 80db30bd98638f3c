-- Sums of the broadcast channel's soft values over all frames of a recording, whichever periods of 40 ms they are in.
-- (own; scrambling, rate matching and coding are in TS 36.211 section 6.6.1 and TS 36.212 section 5.3.1)
use Rattle.std.specs.Prelude.{ℕ, ◌+◌, ◌-◌, ◌*◌, ◌%◌, Bool, false, cond, bit_xor}
use Rattle.std.specs.Prelude.{List, [], slice_index_or, slice_range, ℤ, pos, neg_ℤ, ◌+ℤ◌}
use Rattle.std.specs.List.{flat_map}
use Rattle.finite.specs.Lists.{values_below}
use Rattle.finite.specs.Sums.{sum_below}
use Rattle.finite.specs.Tables.{sum_at}
use Rattle.cs_bits.specs.Numbers.{bits_of}
use Rattle.cs_bits.specs.Checks.{with_check_16}
use Rattle.conv_code.specs.Code.{coded_word}
use Rattle.pbch.specs.Values.{summed_values}

-- 40 rows of three integers, by index and stream of a coded bit
abbrev pub table_of : (ℕ → ℕ → ℤ) → List (List ℤ)
table_of f = values_below 40 (λ k. values_below 3 (f k))

-- ---- one period

-- the frames that belong to period `d` of four frames, if frame 0 is at `phase` in period 0
abbrev pub frames_in_period : ℕ → ℕ → List (List ℤ) → List (List ℤ)
frames_in_period phase d frames = slice_range frames (4 * d - phase) (4 * d + 4 - phase)

-- the combined soft values in period `d`, by coded bit; each frame has the next 480 bits of the period
abbrev pub sums_in_period : ℕ → ℕ → List (List ℤ) → ℕ → List (List ℤ)
sums_in_period identity phase frames d =
    summed_values identity (480 * (phase - 4 * d)) (flat_map (λ frame. frame) (frames_in_period phase d frames))

-- the combined soft values in each of the five periods that 17 frames can reach
unfoldable pub period_sums : ℕ → ℕ → List (List ℤ) → List (List (List ℤ))
period_sums identity phase frames = values_below 5 (sums_in_period identity phase frames)

-- ---- counting on

-- the bits in which the upper eight frame number bits change, from period 0, where they are `upper`, to period `d`
abbrev pub change : ℕ → ℕ → ℕ
change upper d = bit_xor upper ((upper + d) % 256)

-- the word whose coded bits change from period 0 to period `d`: the code and the CRC are linear, and the MIBs differ in
-- the frame number alone
unfoldable pub change_word : ℕ → ℕ → List Bool
change_word upper d = with_check_16 0 (bits_of 24 (1024 * change upper d))

-- the bit at an index and a stream of a codeword
abbrev pub bit_in : List (List Bool) → ℕ → ℕ → Bool
bit_in coded k t = slice_index_or (slice_index_or coded k []) t false

-- `z`, or its negative if `bit` is 1
abbrev pub turned : Bool → ℤ → ℤ
turned bit z = cond bit (neg_ℤ z) z

-- ---- all periods

-- the combined soft value of a coded bit in period `d`, as that of period 0, whose upper frame number bits are `upper`.
-- `sums` are those of each period.
abbrev pub counted_back : List (List (List ℤ)) → ℕ → ℕ → ℕ → ℕ → ℤ
counted_back sums upper k t d =
    turned (bit_in (coded_word (change_word upper d)) k t) (sum_at (slice_index_or sums d []) k t)

-- the 120 added sums: for each coded bit of the word of period 0, the sum over all five periods
unfoldable pub added_sums : List (List (List ℤ)) → ℕ → List (List ℤ)
added_sums sums upper = table_of (λ k t. sum_below 5 (counted_back sums upper k t))

-- ---- as the code computes them

-- the sum of a row at the stream `t`, with the value of a row added, or subtracted where the coded bit is 1
abbrev pub added_row : List ℤ → List ℤ → List Bool → ℕ → ℤ
added_row sums values coded t =
    slice_index_or sums t (pos 0) +ℤ turned (slice_index_or coded t false) (slice_index_or values t (pos 0))

-- the sums `sums`, with the values `values` added, or subtracted where the coded bit in `coded` is 1
unfoldable pub added_to : List (List ℤ) → List (List ℤ) → List (List Bool) → List (List ℤ)
added_to sums values coded =
    table_of (λ k. added_row (slice_index_or sums k []) (slice_index_or values k []) (slice_index_or coded k []))
