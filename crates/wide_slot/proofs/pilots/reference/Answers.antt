use Rattle.std.proofs.Common.{arith, ◌∙◌, ap, false, get_or}
use Rattle.crs.specs.Reference.{port_0, pattern_c_init, value_of_width}
use Rattle.wide_slot.proofs.References.{value_is}
use Rattle.wide_slot.proofs.pilots.reference.Goals as goal

pub returns-clause-value : goal.returns-clause-value
returns-clause-value c =
    let bounds = c.blocks-2.ensures.bounds in
    let same = c.blocks-2.ensures.value in
    c.value_of_width.ensures.value
    ∙ ap (λ n. value_of_width n (λ i. get_or c.args.bits.now i false) c.args.m) same
    ∙ value_is c.args.bits.now (pattern_c_init port_0 c.args.cell.now.identity c.args.number c.args.symbol) c.args.cell.now.blocks c.args.m c.requires.bits c.requires.m
    (omega (arith, bounds, same))
