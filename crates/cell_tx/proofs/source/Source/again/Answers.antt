use Rattle.std.proofs.Common.{◌≡◌, ℕ, ◌≤◌, ap₂}
use Rattle.std.proofs.Props.{props}
use Rattle.lte_types.specs.Numerology.{most_samples}
use Rattle.cell_tx.specs.declared.source.Source.{Source}
use Rattle.cell_tx.specs.Mixing.{AreGainsBy, gains_by_prop}
use Rattle.cell_tx.proofs.source.Source.again.Goals as goal

few_prop : (n : ℕ) → IsProp (n ≤ most_samples)
few_prop n = hlevel props

abbrev with_facts : (s : Source) → s.samples ≤ most_samples → AreGainsBy s.ports s.gains → Source
with_facts s most fit = record {
  cell = s.cell;
  ports = s.ports;
  timing = s.timing;
  samples = s.samples;
  gains = s.gains;
  load = s.load;
  samples_most = most;
  gains_fit = fit;
}

same : (s : Source) (most : s.samples ≤ most_samples) (fit : AreGainsBy s.ports s.gains) → with_facts s most fit ≡ s
same s most fit = ap₂ (with_facts s) (few_prop s.samples most s.samples_most) (gains_by_prop s.ports s.gains fit s.gains_fit)

pub returns : goal.returns
returns c = same c.args.self.now _ _
