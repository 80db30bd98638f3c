use Rattle.std.proofs.Common.{◌≡◌, ◌∙◌, ℕ, ◌*◌, ◌++◌, arith, refl, ap, ap₂, sym}
use Rattle.std.specs.Int.Bits.{xor_zero_r}
use Rattle.cs_bits.specs.Numbers.{bits_of}
use Rattle.cs_bits.specs.Checks.{crc16_of}
use Rattle.added_master.specs.Sums.{change, change_word}
use Rattle.added_master.proofs.Words.{word_of_message}
use Rattle.added_master.proofs.counting.change_word.Goals as goal

pub returns : goal.returns
unfolding change_word
returns c =
    let x = c.change.ensures.value in
    let small = c.ranges.upper.fits in
    let few = c.crc16-check.type_inv in
    let m : ℕ = 1024 * c.change.result in
    let crc : c.crc16-check.result ≡ crc16_of (bits_of 24 (1024 * change c.args.upper c.args.d)) =
    c.crc16-check.ensures ∙ ap crc16_of (c.slice.ensures.bits ∙ c.of_number.ensures.word ∙ ap (λ (n : ℕ). bits_of 24 (1024 * n)) x) in
    c.of_number-2.ensures.word
    ∙ word_of_message 24 16 m c.crc16-check.result refl refl (let t = c.change.type_inv in omega (arith, t)) (omega (arith, few))
    ∙ ap₂ (λ (n : ℕ) (k : ℕ). bits_of 24 (1024 * n) ++ bits_of 16 k) x (crc ∙ sym (xor_zero_r _))
