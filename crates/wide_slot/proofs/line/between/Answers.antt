use Rattle.std.proofs.Common.{arith, ◌+◌, ◌-◌}
use Rattle.cs_num.proofs.Complex.{largest_part-le, plus-within, multiple-within}
use Rattle.wide_slot.proofs.Bounds.{value-within}
use Rattle.wide_slot.proofs.line.between.Goals as goal

pub add-requires : goal.add-requires
add-requires c =
    let p = multiple-within (c.args.step - c.args.r) _ 48318382080 (value-within 48318382080 c.args.pilots.now c.args.i c.requires.pilots) in
    let q = multiple-within c.args.r _ 48318382080 (value-within 48318382080 c.args.pilots.now (c.args.i + 1) c.requires.pilots) in
    rw (c.scaled.ensures, c.scaled-2.ensures, c.value_at.ensures, c.value_at-2.ensures) (omega (arith, c.requires.near, c.requires.r, largest_part-le _ _ p, largest_part-le _ _ q))

pub returns-clause-small : goal.returns-clause-small
returns-clause-small c =
    let p = multiple-within (c.args.step - c.args.r) _ 48318382080 (value-within 48318382080 c.args.pilots.now c.args.i c.requires.pilots) in
    let q = multiple-within c.args.r _ 48318382080 (value-within 48318382080 c.args.pilots.now (c.args.i + 1) c.requires.pilots) in
    rw (c.add.ensures, c.scaled.ensures, c.scaled-2.ensures, c.value_at.ensures, c.value_at-2.ensures) (plus-within _ _ _ _ _ p q (omega (arith, c.requires.r)))
