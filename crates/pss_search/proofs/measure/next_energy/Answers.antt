use Rattle.std.proofs.Common.{arith}
use Rattle.pss_search.proofs.Correlations.{energy_slides, first-le}
use Rattle.pss_search.proofs.measure.next_energy.Goals as goal

pub overflow_sub-result : goal.overflow_sub-result
overflow_sub-result c =
    let part = first-le c.args.samples.now c.args.t in
    omega (arith, part, c.requires.energy, c.energy_part.ensures.value)

pub returns-clause-value : goal.returns-clause-value
returns-clause-value c =
    let part = first-le c.args.samples.now c.args.t in
    omega (arith, part, c.requires.energy, c.energy_part.ensures.value, c.energy_part-2.ensures.value, energy_slides c.args.samples.now c.args.t)
