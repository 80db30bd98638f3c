use Rattle.std.proofs.Common.{◌∙◌}
use Rattle.halving.proofs.Folded.{sum_folds}
use Rattle.halving.proofs.filter.filtered.Goals as goal

pub returns-clause-value : goal.returns-clause-value
returns-clause-value c =
    let sums = sum_folds c.args.samples.now c.args.i in
    c.weighted.ensures.value ∙ rw (c.add.ensures, c.add-2.ensures, c.add-3.ensures, c.add-4.ensures, c.near.ensures.value, c.near-2.ensures.value, c.near-3.ensures.value, c.near-4.ensures.value, c.near-5.ensures.value, c.near-6.ensures.value, c.near-7.ensures.value, c.near-8.ensures.value, c.near-9.ensures.value) sums
