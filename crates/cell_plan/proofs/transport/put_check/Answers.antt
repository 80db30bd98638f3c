use Rattle.std.proofs.Common.{◌≡◌, ℕ, ◌+◌, ◌-◌, ◌≤◌, Bool, List, ◌++◌, ◌∙◌, length, take, drop, ap, arith}
use Rattle.std.proofs.lemmas.List.{length-drop, length-take-le}
use Rattle.std.proofs.lemmas.Slice.{take-put_mid}
use borrow.Rule.Slice.PartMut.{put_mid}
use Rattle.cs_bits.specs.Numbers.{bits_of}
use Rattle.cs_bits.proofs.Numbers.{length-bits_of}
use Rattle.cell_plan.proofs.transport.put_check.Goals as goal

-- 24 bits are written after the first `size`
bits_behind : (word out : List Bool) (size check : ℕ) → length word ≡ 1024 → size ≤ 1000 → out ≡ bits_of (length (take (size + 24 - size) (drop size word))) check →
    take (size + 24) (put_mid size (size + 24 - size) word out) ≡ take size word ++ bits_of 24 check
bits_behind word out size check long room is =
    let d = length-drop size word in
    let few = length-take-le (size + 24 - size) (drop size word) (omega (arith, d, long, room)) in
    let wide : length (take (size + 24 - size) (drop size word)) ≡ 24 = omega (arith, few) in
    let same : out ≡ bits_of 24 check = is ∙ ap (λ n. bits_of n check) wide in
    let l : length out ≡ 24 = ap length same ∙ length-bits_of 24 check in
    take-put_mid size (size + 24 - size) word out (size + 24) (omega (arith, l)) (omega (arith, long, room)) ∙ ap (λ bits. take size word ++ bits) same

pub returns : goal.returns
returns c =
    bits_behind c.args.word.now c.put_number.new.out c.args.size c.crc24a-check.result c.told-word c.requires c.put_number.ensures
    ∙ ap (λ n. take c.args.size c.args.word.now ++ bits_of 24 n) c.crc24a-check.ensures.value
