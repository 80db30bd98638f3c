use Rattle.std.proofs.Common.{◌≡◌, ℕ, ◌/◌, ◌++◌, List, Bool, take, arith, refl, ap, ◌∙◌, sym, bit_xor}
use Rattle.std.proofs.lemmas.List.{take_all}
use Rattle.lte_types.specs.Codes.{duration_code, resource_code}
use Rattle.cs_bits.specs.Numbers.{bits_of}
use Rattle.cs_bits.specs.Checks.{crc16_of}
use Rattle.cell_grid.specs.Block.{master_bits, master_word}
use Rattle.cell_grid.proofs.block.master_word.Goals as goal

-- bits appended to other bits
next : (width number value : ℕ) (front more whole : List Bool) → whole ≡ front ++ bits_of width number → number ≡ value → front ≡ more → whole ≡ more ++ bits_of width value
next width number value front more whole e f g = rw (e, f, g) refl

pub returns : goal.returns
unfolding master_word master_bits
returns c =
    let a = c.args in
    let first : take 3 c.put_bits.new.bits ≡ bits_of 3 0 = c.put_bits.ensures.bits ∙ ap (bits_of 3) c.code.ensures.value in
    let second = next 1 _ (duration_code a.duration) _ _ _ c.put_bits-2.ensures.bits c.code-2.ensures.value first in
    let third = next 2 _ (resource_code a.resource) _ _ _ c.put_bits-3.ensures.bits c.code-3.ensures.value second in
    let fourth = next 8 _ (a.sfn / 4) _ _ _ c.put_bits-4.ensures.bits (ap (λ (n : ℕ). n / 4) c.value.ensures.value) third in
    let fifth = next 10 _ a.spare _ _ _ c.put_bits-5.ensures.bits refl fourth in
    let sixth = next 16 _ (bit_xor (crc16_of (master_bits a.duration a.resource a.sfn a.spare)) a.mask) _ _ _ c.put_bits-6.ensures.bits
    (ap (λ (n : ℕ). bit_xor n a.mask) (c.crc16.ensures ∙ ap crc16_of fifth)) fifth in
    c.new.ensures ∙ sym (take_all 40 c.put_bits-6.new.bits (let a = c.put_bits.ensures.count in let b = c.put_bits-2.ensures.count in let d = c.put_bits-3.ensures.count in
    let e = c.put_bits-4.ensures.count in let f = c.put_bits-5.ensures.count in let g = c.put_bits-6.ensures.count in omega (arith, a, b, d, e, f, g))) ∙ sixth
