use Rattle.std.proofs.Common.{ℕ, subst}
use Rattle.sample_file.specs.Reading.{HasReadFront}
use Rattle.lte_top.proofs.Fronts.{kept_output}
use Rattle.lte_top.proofs.reading.plain_signal.Goals as goal

pub returns-clause-ok : goal.returns-clause-ok
returns-clause-ok g c =
    kept_output c.args.report.now c.args.form c.in_ok-narrow.narrow _ _
    (subst (λ (most : ℕ). HasReadFront c.args.form most c.in_ok-narrow.narrow (g.S.Source.state c.args.source.now) (g.S.Source.state c.front_of.new.source)) c.kept_for.ensures.value c.in_ok-narrow.ensures.ok)
