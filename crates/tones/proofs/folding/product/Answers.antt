use Rattle.std.proofs.Common.{arith, ◌^◌}
use Rattle.cs_num.specs.Complex.{conjugate}
use Rattle.cs_num.proofs.Complex.{largest_part-le, times-within, conjugate-within}
use Rattle.std.proofs.lemmas.Nat.{mul-le}
use Rattle.tones.proofs.folding.product.Goals as goal

pub mul-requires : goal.mul-requires
mul-requires c =
    let n = largest_part-le c.args.number 131072 c.requires.number in
    let t = largest_part-le (conjugate c.args.tone) 262144 (conjugate-within c.args.tone 262144 c.requires.tone) in
    rw c.conj.ensures (omega (arith, mul-le _ _ 131072 262144 n t))

pub returns-clause-small : goal.returns-clause-small
returns-clause-small c =
    rw (c.mul.ensures, c.conj.ensures) (times-within c.args.number (conjugate c.args.tone) 131072 262144 (2 ^ 35) c.requires.number (conjugate-within c.args.tone 262144 c.requires.tone) (omega arith))
