use Rattle.std.proofs.Common.{arith}
use Rattle.pss_search.proofs.Correlations.{energy-small}
use Rattle.pss_search.proofs.measure.Sweep.measure.Goals as goal

pub row_of-row-requires-clause-few : goal.row_of-row-requires-clause-few
row_of-row-requires-clause-few c =
    let ready = c.self.invariant.0 in
    omega (arith, ready.energy, energy-small c.self.inside.samples.now c.self.inside.place ready.first ready.small)

pub next_energy-self-inside-requires-clause-few : goal.next_energy-self-inside-requires-clause-few
next_energy-self-inside-requires-clause-few c =
    let ready = c.self.invariant.0 in
    omega (arith, ready.energy, energy-small c.self.inside.samples.now c.self.inside.place ready.first ready.small)
