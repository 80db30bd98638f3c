-- The CRC definitions evaluated for messages with known remainders.
use Rattle.std.proofs.Common.{◌≡◌, refl, true, [], ◌∷◌}
use Rattle.cs_bits.specs.Polynomial.{xor_onto, divide, remainder, has_power, powers_below, generator_16, generator_24a}
use Rattle.cs_bits.specs.Checks.{crc16_of, crc24a_of}

pub crc16-one : crc16_of (true ∷ []) ≡ 0x1021
unfolding xor_onto divide remainder has_power powers_below generator_16 crc16_of
crc16-one = refl

pub crc16-two : crc16_of (true ∷ true ∷ []) ≡ 0x3063
unfolding xor_onto divide remainder has_power powers_below generator_16 crc16_of
crc16-two = refl

pub crc24a-one : crc24a_of (true ∷ []) ≡ 0x864cfb
unfolding xor_onto divide remainder has_power powers_below generator_24a crc24a_of
crc24a-one = refl
