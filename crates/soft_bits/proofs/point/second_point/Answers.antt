use Rattle.std.proofs.Common.{◌≡◌, ℕ, ◌*◌, ◌^◌, arith}
use Rattle.std.proofs.lemmas.Nat.{mul-le}
use Rattle.cs_num.specs.declared.Cpx.{Cpx}
use Rattle.cs_num.specs.Complex.{IsWithin, times, conjugate, largest_part}
use Rattle.cs_num.proofs.Complex.{largest_part-le, times-within, minus-within, conjugate-within}
use Rattle.soft_bits.proofs.point.second_point.Goals as goal

turned : (z w : Cpx) (m : ℕ) → w ≡ conjugate z → IsWithin m z → IsWithin m w
turned z w m e small = rw e (conjugate-within z m small)

product : (h a z : Cpx) → z ≡ times h a → IsWithin (1080 * 2 ^ 25) h → IsWithin (2 ^ 25) a → IsWithin (2160 * 2 ^ 50) z
product h a z e p q = rw e (times-within h a (1080 * 2 ^ 25) (2 ^ 25) (1080 * 2 ^ 50) p q (omega arith))

pub mul-requires : goal.mul-requires
mul-requires c =
    omega (arith, mul-le (largest_part c.conj.result) (largest_part c.args.b) (1080 * 2 ^ 25) (2 ^ 25) (largest_part-le _ _ (turned c.args.h c.conj.result (1080 * 2 ^ 25) c.conj.ensures c.requires.h)) (largest_part-le _ _ c.requires.b))

pub mul-requires-2 : goal.mul-requires-2
mul-requires-2 c =
    omega (arith, mul-le (largest_part c.args.g) (largest_part c.conj-2.result) (1080 * 2 ^ 25) (2 ^ 25) (largest_part-le _ _ c.requires.g) (largest_part-le _ _ (turned c.args.a c.conj-2.result (2 ^ 25) c.conj-2.ensures c.requires.a)))

pub sub-requires : goal.sub-requires
sub-requires c =
    let x : IsWithin (2160 * 2 ^ 50) c.mul.result = product c.conj.result c.args.b c.mul.result c.mul.ensures (turned c.args.h c.conj.result (1080 * 2 ^ 25) c.conj.ensures c.requires.h) c.requires.b in
    let y : IsWithin (2160 * 2 ^ 50) c.mul-2.result = product c.args.g c.conj-2.result c.mul-2.result c.mul-2.ensures c.requires.g (turned c.args.a c.conj-2.result (2 ^ 25) c.conj-2.ensures c.requires.a) in
    omega (arith, largest_part-le _ _ x, largest_part-le _ _ y)

pub returns-clause-small : goal.returns-clause-small
returns-clause-small c =
    let x : IsWithin (2160 * 2 ^ 50) c.mul.result = product c.conj.result c.args.b c.mul.result c.mul.ensures (turned c.args.h c.conj.result (1080 * 2 ^ 25) c.conj.ensures c.requires.h) c.requires.b in
    let y : IsWithin (2160 * 2 ^ 50) c.mul-2.result = product c.args.g c.conj-2.result c.mul-2.result c.mul-2.ensures c.requires.g (turned c.args.a c.conj-2.result (2 ^ 25) c.conj-2.ensures c.requires.a) in
    rw c.sub.ensures (minus-within c.mul.result c.mul-2.result (2160 * 2 ^ 50) (2160 * 2 ^ 50) (4320 * 2 ^ 50) x y (omega arith))
