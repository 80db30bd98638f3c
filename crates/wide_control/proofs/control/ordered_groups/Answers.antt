use Rattle.std.proofs.Common.{◌∙◌, ◌/◌, length, ap}
use Rattle.std.proofs.lemmas.Result.{IfOk-weaker}
use Rattle.wide_grid.specs.Control.{quadruplet_groups}
use Rattle.wide_control.proofs.Lengths.{length-ordered}
use Rattle.wide_control.proofs.control.ordered_groups.Goals as goal

pub returns-clause-count : goal.returns-clause-count
returns-clause-count c =
    let same = ap (quadruplet_groups c.args.cell.now) (c.deref.ensures.value ∙ c.in_ok-groups.ensures.groups) in
    IfOk-weaker c.quadruplet_groups.result _ _
    (λ ordered is. ap (λ n. n / 9) (ap length (is ∙ same) ∙ length-ordered c.args.cell.now c.args.cfi)) c.quadruplet_groups.ensures.groups
