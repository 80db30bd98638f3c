use Rattle.std.proofs.Common.{arith, ◌+◌, ◌-◌}
use Rattle.cs_num.specs.Complex.{nothing}
use Rattle.cs_num.proofs.Complex.{largest_part-le, plus-within, multiple-within}
use Rattle.soft_bits.proofs.line.between.Goals as goal

pub add-requires : goal.add-requires
add-requires c =
    let p = multiple-within (c.args.step - c.args.r) _ 6039797760 (c.requires.pilots c.args.i nothing (omega arith)) in
    let q = multiple-within c.args.r _ 6039797760 (c.requires.pilots (c.args.i + 1) nothing (omega arith)) in
    rw (c.scaled.ensures, c.scaled-2.ensures) (omega (arith, largest_part-le _ _ p, largest_part-le _ _ q))

pub returns-clause-small : goal.returns-clause-small
returns-clause-small c =
    let p = multiple-within (c.args.step - c.args.r) _ 6039797760 (c.requires.pilots c.args.i nothing (omega arith)) in
    let q = multiple-within c.args.r _ 6039797760 (c.requires.pilots (c.args.i + 1) nothing (omega arith)) in
    rw (c.add.ensures, c.scaled.ensures, c.scaled-2.ensures) (plus-within _ _ _ _ _ p q (omega arith))
