use Rattle.std.proofs.Common.{ℕ, subst}
use Rattle.sample_file.specs.Reading.{HasReadRecordingAt}
use Rattle.lte_top.proofs.Ending.{whole_at}
use Rattle.lte_top.proofs.reading.samples_of.Goals as goal

pub returns-clause-ok : goal.returns-clause-ok
returns-clause-ok g c =
    subst (λ (factor : ℕ). HasReadRecordingAt factor c.args.form c.in_ok-samples.samples.items (g.S.Source.state c.args.source.now) (g.S.Source.state c.read_front_at.new.source)) c.factor-factor.ensures
    (whole_at _ _ _ _ _ c.in_ok-samples.ensures.ok)
