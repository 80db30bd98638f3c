-- Laws of clean reception of the turbo code. (own)
use Rattle.std.specs.Prelude.{◌≡◌, ◌≢◌, ℕ, suc, ◌+◌, ◌*◌, ◌<◌, ◌≤◌, Bool, true, List, length, Some, ℤ, pos}
use Rattle.finite.specs.Tables.{sum_at}
use Rattle.cs_bits.specs.Checks.{message_of, has_check_24}
use Rattle.cs_bits.specs.Signs.{Supports}
use Rattle.turbo_code.specs.declared.rows.Row.{Row}
use Rattle.turbo_code.specs.Table.{IsAnyRow}
use Rattle.turbo_code.specs.Encoder.{bit_at}
use Rattle.turbo_code.specs.Reading.{summed}
use Rattle.turbo_dec.specs.Decoder.{Values, at, extrinsic}
use Rattle.turbo_dec.specs.Block.{prior_after, first_extrinsics, second_after, word_by, block}
use Rattle.erasure.specs.Known.{Sent, found, first_found, known_after, word_after, resolvable, sent_of}
use Rattle.turbo_convergence.specs.Conveys.{Conveys, AllAllow, AllConvey, SumsSupport, SumsConvey, ValuesSupport}

-- ---- one constituent decoder

-- a law: if each value and prior of a constituent decoder is 0 or has the sign of its bit in a word, the same holds for
-- each extrinsic value
abbrev pub ExtrinsicsSpeak : Type 0
ExtrinsicsSpeak =
    (word : List Bool) (v : Values) → AllAllow word v →
    (k : ℕ) → k < length word → Supports 0 (bit_at word k) (extrinsic v k)

-- a law: if a constituent decoder's values convey the sent bits and its priors the known bits of a word, an extrinsic
-- value has its bit's sign if the bit is found, and is 0 otherwise
abbrev pub ExtrinsicsConvey : Type 0
ExtrinsicsConvey =
    (word : List Bool) (sent : Sent) (known : ℕ → Bool) (v : Values) → AllConvey word sent known v →
    (k : ℕ) → k < length word → Conveys (found (length word) sent known k) (bit_at word k) (extrinsic v k)

-- ---- the iterations

-- in iteration `n` + 1, on sums with the sent bits' signs, the extrinsic values of either decoder have the signs of the
-- bits that it finds and are 0 elsewhere, and the decoded word has exactly the settled bits
pub record IterationConveys (row : Row) (word : List Bool) (sent : ℕ → ℕ → Bool) (sums : List (List ℤ)) (n : ℕ)
    : Type 0 where
  pub first : (k : ℕ) → k < row.k →
      Conveys (first_found row sent (known_after row sent n) k) (bit_at word k)
      (at (first_extrinsics row sums (prior_after row sums n)) k)
  pub second : (k : ℕ) → k < row.k →
      Conveys (known_after row sent (suc n) k) (bit_at word k)
      (at (second_after row sums (prior_after row sums n)) k)
  pub decoded : word_by row sums (prior_after row sums n) ≡ word_after row sent word n

-- a law: if the sums have the signs of the sent coded bits and are 0 elsewhere, every iteration's extrinsic values
-- convey the bits found so far
abbrev pub IterationsConvey : Type 0
IterationsConvey =
    (row : Row) (word : List Bool) (sent : ℕ → ℕ → Bool) (sums : List (List ℤ)) → IsAnyRow row → length word ≡ row.k →
    SumsConvey row word sent sums → (n : ℕ) → IterationConveys row word sent sums n

-- ---- decoding sums

-- a law: a block with its CRC is decoded if each sum is 0 or has the sign of its coded bit, and no systematic bit has
-- the sum 0
abbrev pub SpokenBlockIsDecoded : Type 0
SpokenBlockIsDecoded =
    (row : Row) (word : List Bool) (sums : List (List ℤ)) → IsAnyRow row → length word ≡ row.k →
    has_check_24 word ≡ true → SumsSupport 0 row word sums → ((k : ℕ) → k < row.k → sum_at sums 0 k ≢ pos 0) →
    block row sums ≡ Some (message_of 24 word)

-- a law: a block with its CRC is decoded if the sums have the signs of the sent coded bits and are 0 elsewhere, and the
-- sent bits resolve the block
abbrev pub ResolvableBlockIsDecoded : Type 0
ResolvableBlockIsDecoded =
    (row : Row) (word : List Bool) (sent : ℕ → ℕ → Bool) (sums : List (List ℤ)) → IsAnyRow row → length word ≡ row.k →
    has_check_24 word ≡ true → SumsConvey row word sent sums → resolvable row sent word ≡ true →
    block row sums ≡ Some (message_of 24 word)

-- ---- sums of received values

-- a law: if each received value is 0 or has the sign of its sent bit, each sum is 0 or has the sign of its coded bit
abbrev pub ReceivedSumsAllow : Type 0
ReceivedSumsAllow =
    (row : Row) (word : List Bool) (rv : ℕ) (values : List ℤ) → IsAnyRow row → ValuesSupport 0 row word rv values →
    SumsSupport 0 row word (summed row.k rv values)

-- a law: if each received value has the sign of its sent bit, the sums have the signs of the sent coded bits and are 0
-- elsewhere
abbrev pub ReceivedSumsConvey : Type 0
ReceivedSumsConvey =
    (row : Row) (word : List Bool) (rv : ℕ) (values : List ℤ) → IsAnyRow row → ValuesSupport 1 row word rv values →
    SumsConvey row word (sent_of row.k rv (length values)) (summed row.k rv values)

-- a law: if there are at least as many received values as coded bits, and each value has the sign of its sent bit, each
-- sum has the sign of its coded bit and is not 0
abbrev pub WholeSumsSpeak : Type 0
WholeSumsSpeak =
    (row : Row) (word : List Bool) (rv : ℕ) (values : List ℤ) → IsAnyRow row → rv < 4 →
    ValuesSupport 1 row word rv values →
    3 * (row.k + 4) ≤ length values → SumsSupport 1 row word (summed row.k rv values)

-- ---- decoding received values

-- a law: a block with its CRC is decoded from at least as many received values as coded bits, if each value has the
-- sign of its sent bit
abbrev pub SentBlockIsDecoded : Type 0
SentBlockIsDecoded =
    (row : Row) (word : List Bool) (rv : ℕ) (values : List ℤ) → IsAnyRow row → rv < 4 → length word ≡ row.k →
    has_check_24 word ≡ true → ValuesSupport 1 row word rv values → 3 * (row.k + 4) ≤ length values →
    block row (summed row.k rv values) ≡ Some (message_of 24 word)

-- a law: a block with its CRC is decoded from any number of received values, if each value has the sign of its sent bit
-- and the sent bits resolve the block
abbrev pub PuncturedBlockIsDecoded : Type 0
PuncturedBlockIsDecoded =
    (row : Row) (word : List Bool) (rv : ℕ) (values : List ℤ) → IsAnyRow row → length word ≡ row.k →
    has_check_24 word ≡ true → ValuesSupport 1 row word rv values →
    resolvable row (sent_of row.k rv (length values)) word ≡ true →
    block row (summed row.k rv values) ≡ Some (message_of 24 word)
