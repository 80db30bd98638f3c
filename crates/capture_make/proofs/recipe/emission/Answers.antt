use Rattle.std.proofs.Common.{sym, subst}
use Rattle.cell_plan.specs.Gains.{AreGainsOf}
use Rattle.capture_make.proofs.Samples.{are_gains}
use Rattle.capture_make.proofs.recipe.emission.Goals as goal

pub invariant_of-result : goal.invariant_of-result
invariant_of-result c = record {
  samples_range = c.sample_count.ensures.bound;
  gains_are = subst (AreGainsOf c.args.carrier) (sym c.gains.ensures) (are_gains c.args.carrier c.args.n);
  accepted = c.cell.ensures.accepted;
}
