use Rattle.std.proofs.Common.{rules, arith, ◌<◌, ◌-◌, length}
use Rattle.cs_num.specs.Complex.{nothing}
use Rattle.cs_num.proofs.Complex.{multiple-within}
use Rattle.soft_bits.proofs.line.line.Goals as goal

pub returns-else-k-first-2-clause-small : goal.returns-else-k-first-2-clause-small
returns-else-k-first-2-clause-small c =
    let some : 0 < length c.args.pilots.now = search rules in
    rw c.scaled-else-k-first-2.ensures (multiple-within c.args.step _ 6039797760 (c.requires.pilots (length c.args.pilots.now - 1) nothing (omega (arith, some))))
