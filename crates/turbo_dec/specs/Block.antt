-- The iterations between the two constituent decoders, and the decoded block: the first iterate whose CRC24A passes
-- (own; the CRC is in TS 36.212 section 5.1.1).
use Rattle.std.specs.Prelude.{ℕ, zero, suc, ◌+◌, Bool, List, map, replicate, ℤ, pos, ◌+ℤ◌, ◌-ℤ◌, int_div, int_lt, Option}
use Rattle.std.specs.List.{find}
use Rattle.std.specs.Option.{option_map}
use Rattle.finite.specs.Lists.{values_below}
use Rattle.cs_bits.specs.Checks.{message_of, has_check_24}
use Rattle.turbo_code.specs.declared.rows.Row.{Row}
use Rattle.turbo_code.specs.Streams.{bits_of_stream, tail_items, in_order, in_word_order}
use Rattle.turbo_dec.specs.Decoder.{values_of, at, extrinsics}

-- the prior derived from the extrinsic value e: e less a quarter of e, which is rounded toward 0
abbrev pub handed_on : ℤ → ℤ
handed_on e = e -ℤ int_div e (pos 4)

-- the first decoder's extrinsic values, from the combined soft values `sums` by stream, and the decoder's prior
unfoldable pub first_extrinsics : Row → List (List ℤ) → List ℤ → List ℤ
first_extrinsics row sums prior =
    extrinsics (values_of (bits_of_stream (pos 0) row sums 0) (bits_of_stream (pos 0) row sums 1)
    (tail_items (pos 0) sums row.k) prior)

-- the second decoder's extrinsic values, deinterleaved, from the combined soft values `sums` by stream, and the
-- decoder's prior `handed`, not yet interleaved
unfoldable pub second_extrinsics : Row → List (List ℤ) → List ℤ → List ℤ
second_extrinsics row sums handed =
    in_word_order (pos 0) row (extrinsics (values_of
    (in_order (pos 0) row (bits_of_stream (pos 0) row sums 0)) (bits_of_stream (pos 0) row sums 2)
    (tail_items (pos 0) sums (row.k + 2))
    (in_order (pos 0) row handed)))

-- the second decoder's extrinsic values, deinterleaved, in an iteration that begins with the first decoder's prior
-- `prior`
abbrev pub second_after : Row → List (List ℤ) → List ℤ → List ℤ
second_after row sums prior = second_extrinsics row sums (map handed_on (first_extrinsics row sums prior))

-- the first decoder's prior after n iterations: 0 at first, then derived from the second decoder's extrinsic values in
-- the previous iteration
unfoldable pub prior_after : Row → List (List ℤ) → ℕ → List ℤ
prior_after row sums zero = replicate row.k (pos 0)
prior_after row sums (suc n) = map handed_on (second_after row sums (prior_after row sums n))

-- the hard decision on bit k: 1 if the sum of its soft value and both decoders' extrinsic values is negative
abbrev pub decoded_by : List ℤ → List ℤ → List ℤ → ℕ → Bool
decoded_by systematic first second k = int_lt (at systematic k +ℤ at first k +ℤ at second k) (pos 0)

-- the hard decisions on all bits after an iteration that begins with the first decoder's prior `prior`
unfoldable pub word_by : Row → List (List ℤ) → List ℤ → List Bool
word_by row sums prior =
    values_below row.k
    (decoded_by (bits_of_stream (pos 0) row sums 0) (first_extrinsics row sums prior) (second_after row sums prior))

-- the hard decisions of each of the first eight iterations (iterates)
abbrev pub iterates : Row → List (List ℤ) → List (List Bool)
iterates row sums = values_below 8 (λ n. word_by row sums (prior_after row sums n))

-- the block decoded from the combined soft values `sums`: the first iterate whose CRC24A passes, without the CRC; none
-- if no CRC passes
unfoldable pub block : Row → List (List ℤ) → Option (List Bool)
block row sums = option_map (message_of 24) (find has_check_24 (iterates row sums))
