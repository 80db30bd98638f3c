-- A CRC fits its width, and a message followed by its CRC passes.
use Rattle.std.proofs.Common.{◌≡◌, ℕ, zero, suc, ◌+◌, ◌-◌, ◌^◌, ◌<◌, ◌≤◌, Bool, true, false, cond, List, [], ◌∷◌, ◌++◌, length, take, drop, replicate, refl, ap, ap₂, sym, subst, ◌∙◌, arith, bit_xor}
use Rattle.std.proofs.lemmas.List.{length-append, length-replicate}
use Rattle.std.proofs.Math.Seq.{take-append_seam, drop-append_seam}
use Rattle.std.proofs.lemmas.Bool.{eq-eqb}
use Rattle.std.proofs.lemmas.Nat.{xor_lt}
use Rattle.finite.specs.Bits.{xor}
use Rattle.cs_bits.specs.Numbers.{number, bits_of}
use Rattle.cs_bits.specs.Polynomial.{xor_onto, divide, remainder, generator_16, generator_24a}
use Rattle.cs_bits.specs.Checks.{crc16_of, crc24a_of, message_of, check_of, with_check_16, with_check_24, HasCheck16, has_check_24}
use Rattle.cs_bits.proofs.Numbers.{number_below, length-bits_of, number_of_bits}

-- ---- lengths

length-xor_onto : (xs gs : List Bool) → length (xor_onto xs gs) ≡ length xs
unfolding xor_onto
length-xor_onto [] gs = refl
length-xor_onto (x ∷ xs) [] = refl
length-xor_onto (x ∷ xs) (g ∷ gs) = ap suc (length-xor_onto xs gs)

length-divide : (n : ℕ) (divisor xs : List Bool) → length (divide n divisor xs) ≡ length xs - n
unfolding divide
length-divide zero divisor xs = omega arith
length-divide (suc n) divisor [] = omega arith
length-divide (suc n) divisor (true ∷ xs) = length-divide n divisor (xor_onto xs divisor) ∙ omega (arith, length-xor_onto xs divisor)
length-divide (suc n) divisor (false ∷ xs) = length-divide n divisor xs ∙ omega arith

pub length-remainder : (width : ℕ) (divisor message : List Bool) → length (remainder width divisor message) ≡ width
unfolding remainder
length-remainder width divisor message =
    length-divide (length message) divisor (message ++ replicate width false)
    ∙ omega (arith, length-append message (replicate width false), length-replicate width false)

pub crc16-fits : (message : List Bool) → crc16_of message < 2 ^ 16
unfolding crc16_of
crc16-fits message =
    subst (λ n. number (remainder 16 generator_16 message) < 2 ^ n) (length-remainder 16 generator_16 message) (number_below (remainder 16 generator_16 message))

pub crc24a-fits : (message : List Bool) → crc24a_of message < 2 ^ 24
unfolding crc24a_of
crc24a-fits message =
    subst (λ n. number (remainder 24 generator_24a message) < 2 ^ n) (length-remainder 24 generator_24a message) (number_below (remainder 24 generator_24a message))

-- ---- splitting a codeword into message and CRC

pub message_is : (width : ℕ) (message check : List Bool) → length check ≡ width → message_of width (message ++ check) ≡ message
message_is width message check size =
    let long = length-append message check in
    let e : length (message ++ check) - width ≡ length message = omega (arith, long, size) in
    ap (λ n. take n (message ++ check)) e ∙ take-append_seam message check

check_is : (width : ℕ) (message check : List Bool) → length check ≡ width → check_of width (message ++ check) ≡ number check
check_is width message check size =
    let long = length-append message check in
    let e : length (message ++ check) - width ≡ length message = omega (arith, long, size) in
    ap (λ n. number (drop n (message ++ check))) e ∙ ap number (drop-append_seam message check)

pub checked_16 : (mask : ℕ) (message : List Bool) → mask < 2 ^ 16 → HasCheck16 mask (with_check_16 mask message)
checked_16 mask message small =
    let check : ℕ = bit_xor (crc16_of message) mask in
    let size = length-bits_of 16 check in
    check_is 16 message (bits_of 16 check) size ∙ number_of_bits 16 check (xor_lt 16 (crc16_of message) mask (crc16-fits message) small)
    ∙ ap (λ (bits : List Bool). bit_xor (crc16_of bits) mask) (sym (message_is 16 message (bits_of 16 check) size))

pub checked_24 : (message : List Bool) → has_check_24 (with_check_24 message) ≡ true
unfolding has_check_24
checked_24 message =
    let check : ℕ = crc24a_of message in
    let size = length-bits_of 24 check in
    eq-eqb _ _ (check_is 24 message (bits_of 24 check) size ∙ number_of_bits 24 check (crc24a-fits message)
    ∙ ap crc24a_of (sym (message_is 24 message (bits_of 24 check) size)))
