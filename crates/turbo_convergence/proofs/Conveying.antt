-- Values that have a bit's sign where the bit is present, and are 0 elsewhere.
use Rattle.std.proofs.Common.{◌≡◌, zero, suc, Bool, true, false, refl, ap, arith}
use Rattle.std.specs.Prelude.{◌&&◌, ◌||◌, cond, ℤ, pos, negsuc, ◌+ℤ◌, nat_abs, int_lt}
use Rattle.std.proofs.lemmas.Int.{ints, clamps}
use Rattle.std.proofs.lemmas.Bool.{le-ltb}
use Rattle.finite.specs.Bits.{xor}
use Rattle.finite.proofs.Sums.{positive, positive_from}
use Rattle.cs_bits.specs.Signs.{Supports}
use Rattle.turbo_dec.specs.Decoder.{taken, within_2047}
use Rattle.turbo_dec.specs.Block.{handed_on}
use Rattle.turbo_convergence.specs.Conveys.{Conveys}

-- such a value is not 0 exactly if the bit is present
pub conveys_size : (there bit : Bool) (z : ℤ) → Conveys there bit z → positive (nat_abs z) ≡ there
conveys_size false bit z h = ap (λ n. positive (nat_abs n)) h
conveys_size true false z h = positive_from (nat_abs z) (omega (arith, ints, h))
conveys_size true true z h = positive_from (nat_abs z) (omega (arith, ints, h))

-- such a value never has the wrong sign
pub conveys_allows : (there bit : Bool) (z : ℤ) → Conveys there bit z → Supports 0 bit z
conveys_allows false false z h = omega (arith, ints, h)
conveys_allows false true z h = omega (arith, ints, h)
conveys_allows true false z h = omega (arith, ints, h)
conveys_allows true true z h = omega (arith, ints, h)

-- a value without the wrong sign has the bit's sign if it is not 0
pub allows_conveys : (bit : Bool) (z : ℤ) → Supports 0 bit z → Conveys (positive (nat_abs z)) bit z
allows_conveys false (pos zero) h = refl
allows_conveys false (pos (suc n)) h = omega (arith, ints)
allows_conveys false (negsuc n) h = absurd (omega (arith, ints, h))
allows_conveys true (pos zero) h = refl
allows_conveys true (pos (suc n)) h = absurd (omega (arith, ints, h))
allows_conveys true (negsuc n) h = omega (arith, ints)

-- ---- operations on such values

pub conveys-sum : (a b bit : Bool) (y z : ℤ) → Conveys a bit y → Conveys b bit z → Conveys (a || b) bit (y +ℤ z)
conveys-sum false false bit y z h k = omega (arith, ints, h, k)
conveys-sum false true false y z h k = omega (arith, ints, h, k)
conveys-sum false true true y z h k = omega (arith, ints, h, k)
conveys-sum true false false y z h k = omega (arith, ints, h, k)
conveys-sum true false true y z h k = omega (arith, ints, h, k)
conveys-sum true true false y z h k = omega (arith, ints, h, k)
conveys-sum true true true y z h k = omega (arith, ints, h, k)

pub conveys-within_2047 : (there bit : Bool) (z : ℤ) → Conveys there bit z → Conveys there bit (within_2047 z)
conveys-within_2047 false bit z h = omega (arith, ints, clamps, h)
conveys-within_2047 true false z h = omega (arith, ints, clamps, h)
conveys-within_2047 true true z h = omega (arith, ints, clamps, h)

-- the decoder hands on magnitudes 1, 2 and 3 unchanged
pub conveys-handed_on : (there bit : Bool) (z : ℤ) → Conveys there bit z → Conveys there bit (handed_on z)
conveys-handed_on false bit z h = ap handed_on h
conveys-handed_on true false (pos n) h = omega (arith, ints, h)
conveys-handed_on true false (negsuc n) h = absurd (omega (arith, ints, h))
conveys-handed_on true true (pos n) h = absurd (omega (arith, ints, h))
conveys-handed_on true true (negsuc n) h = omega (arith, ints, h)

-- a bit is decoded as 1 if it is present and is 1
pub conveys_below : (there bit : Bool) (z : ℤ) → Conveys there bit z → int_lt z (pos 0) ≡ (bit && there)
conveys_below false false z h = ap (λ n. int_lt n (pos 0)) h
conveys_below false true z h = ap (λ n. int_lt n (pos 0)) h
conveys_below true false (pos n) h = le-ltb n 0 (omega arith)
conveys_below true false (negsuc n) h = absurd (omega (arith, ints, h))
conveys_below true true (pos n) h = absurd (omega (arith, ints, h))
conveys_below true true (negsuc n) h = refl

-- ---- the loss from changing a value's bit

pub taken_loses : (there bit changed : Bool) (z : ℤ) → Conveys there bit z → taken z bit ≡ taken z (xor bit changed) +ℤ pos (cond changed (nat_abs z) 0)
taken_loses there false false z h = omega (arith, ints)
taken_loses there true false z h = refl
taken_loses there false true z h = let s = conveys_allows there false z h in omega (arith, ints, s)
taken_loses there true true z h = let s = conveys_allows there true z h in omega (arith, ints, s)
