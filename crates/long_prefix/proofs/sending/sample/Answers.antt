use Rattle.std.proofs.Common.{ℕ, ◌*◌, ◌≤◌, ap, subst, ◌∙◌}
use Rattle.cs_num.specs.declared.Cpx.{Cpx}
use Rattle.cs_num.specs.Complex.{square, sample_of}
use Rattle.long_prefix.proofs.SentPlan.{same_sent}
use Rattle.long_prefix.proofs.sending.sample.Goals as goal

pub returns-clause-value : goal.returns-clause-value
returns-clause-value c =
    let same = same_sent c.cell_of.result c.args.plan.now c.cell_of.ensures c.args.sfn in
    c.port_sample.ensures.value ∙ ap (λ (sequence : ℕ → Cpx). sample_of (sequence c.args.i)) same

pub returns-clause-magnitude : goal.returns-clause-magnitude
returns-clause-magnitude c =
    let same = same_sent c.cell_of.result c.args.plan.now c.cell_of.ensures c.args.sfn in
    subst (λ (sequence : ℕ → Cpx). square (sequence c.args.i) ≤ 1153 * 1153) same c.port_sample.ensures.magnitude
