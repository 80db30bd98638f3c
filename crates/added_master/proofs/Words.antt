-- A message and its CRC as one number.
use Rattle.std.proofs.Common.{◌≡◌, ℕ, ◌+◌, ◌*◌, ◌^◌, ◌<◌, Bool, true, false, List, [], ◌∷◌, ◌++◌, length, length-append, pow-add, arith, refl, ap, sym, ◌∙◌}
use Rattle.cs_bits.specs.Numbers.{number, bits_of}
use Rattle.cs_bits.proofs.Numbers.{length-bits_of, number_of_bits, bits_of_is}

-- the number of bits that 16 bits follow
join_16 : (a b : List Bool) → length b ≡ 16 → number (a ++ b) ≡ 65536 * number a + number b
join_16 [] b e = omega arith
join_16 (false ∷ a) b e = let before = join_16 a b e in omega (arith, before)
join_16 (true ∷ a) b e =
    let before = join_16 a b e in
    let size : length (a ++ b) ≡ length a + 16 = length-append a b ∙ ap (λ n. length a + n) e in
    let power : 2 ^ (length a + 16) ≡ 2 ^ length a * 2 ^ 16 = pow-add 2 (length a) 16 in
    rw size (omega (arith, before, power))

-- the bits of a number that has a message in front of its CRC
pub word_of_message : (w v m check : ℕ) → w ≡ 24 → v ≡ 16 → m < 2 ^ w → check < 2 ^ v → bits_of (w + v) (65536 * m + check) ≡ bits_of w m ++ bits_of v check
word_of_message w v m check e g small few =
    sym (bits_of_is (w + v) (65536 * m + check) (bits_of w m ++ bits_of v check)
    (length-append (bits_of w m) (bits_of v check) ∙ rw (length-bits_of w m, length-bits_of v check) refl)
    (join_16 (bits_of w m) (bits_of v check) (length-bits_of v check ∙ g) ∙ rw (number_of_bits w m small, number_of_bits v check few) refl))
