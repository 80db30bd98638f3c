-- One constituent decoder of the turbo code (own; the encoder is in TS 36.212 section 5.1.3.2): the score of an
-- information word, and extrinsic values as differences of maximum scores.
use Rattle.std.specs.Prelude.{ℕ, ◌+◌, ◌-◌, ◌*◌, ◌≤◌, Bool, true, false, List, ◌∷◌, ◌++◌, length, slice_index_or, nat_abs, ℤ, pos, negsuc, ◌+ℤ◌, ◌-ℤ◌}
use Rattle.std.specs.Int.{int_min, int_max}
use Rattle.finite.specs.Sums.{sum_below}
use Rattle.finite.specs.Lists.{values_below}
use Rattle.trellis.specs.AllWords.{greatest}
use Rattle.turbo_code.specs.Encoder.{bit_at, parity, tail_x, tail_z}

-- a constituent decoder's input: a soft value for each information bit, for each parity bit and for each of the six
-- tail bits x(K), z(K), x(K + 1), z(K + 1), x(K + 2), z(K + 2), and a prior for each information bit
pub record Values : Type 0 where
  pub systematic : List ℤ
  pub parity : List ℤ
  pub tail : List ℤ
  pub prior : List ℤ

-- a constituent decoder's input, from its four lists
abbrev pub values_of : List ℤ → List ℤ → List ℤ → List ℤ → Values
values_of systematic parity tail prior = record { systematic = systematic; parity = parity; tail = tail; prior = prior }

-- value k of the list `values`, or 0 past its end
abbrev pub at : List ℤ → ℕ → ℤ
at values k = slice_index_or values k (pos 0)

-- the soft value or prior `value` is at most 4,096 in magnitude
abbrev pub IsSmall : ℤ → Type 0
IsSmall value = nat_abs value ≤ 4096

-- the term that a soft value adds to a score: the value if the coded bit is 0, and 0 if it is 1
abbrev pub taken : ℤ → Bool → ℤ
taken value false = value
taken value true = pos 0

-- the terms of index k in a word's score: for the information bit, its soft value plus its prior, and for the parity
-- bit, its soft value
abbrev pub score_at : Values → List Bool → ℕ → ℤ
score_at v word k = taken (at v.systematic k +ℤ at v.prior k) (bit_at word k) +ℤ taken (at v.parity k) (parity word k)

-- the terms of tail step j, 0 to 2, in a word's score, for its two tail bits
abbrev pub tail_score : Values → List Bool → ℕ → ℤ
tail_score v word j = taken (at v.tail (2 * j)) (tail_x word j) +ℤ taken (at v.tail (2 * j + 1)) (tail_z word j)

-- the score of an information word: the sum of the soft values of its information, parity and tail bits that are 0,
-- with the priors of the information bits
unfoldable pub score : Values → List Bool → ℤ
score v word = sum_below (length v.systematic) (score_at v word) +ℤ sum_below 3 (tail_score v word)

-- the maximum score among information words whose bit k is b
unfoldable pub greatest_score : Values → ℕ → Bool → ℤ
greatest_score v k b =
    greatest k (λ before. greatest (length v.systematic - k - 1) (λ after. score v (before ++ b ∷ after)))

-- the number z, clamped to -2047 to 2047
abbrev pub within_2047 : ℤ → ℤ
within_2047 z = int_max (negsuc 2046) (int_min z (pos 2047))

-- the extrinsic value of bit k (max-log-MAP), clamped to -2047 to 2047: the maximum score with the bit 0, less the
-- maximum score with the bit 1, less the bit's own soft value and prior
unfoldable pub extrinsic : Values → ℕ → ℤ
extrinsic v k =
    within_2047 (((greatest_score v k false -ℤ greatest_score v k true) -ℤ at v.systematic k) -ℤ at v.prior k)

-- the extrinsic values of all information bits
unfoldable pub extrinsics : Values → List ℤ
extrinsics v = values_below (length v.systematic) (extrinsic v)
