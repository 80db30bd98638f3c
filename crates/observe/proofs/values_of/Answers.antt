use Rattle.std.proofs.Common.{◌∙◌, ap}
use Rattle.cs_num.specs.Complex.{value_at, sample_at}
use Rattle.observe.specs.Steps.{rounded_values}
use Rattle.observe.proofs.Seen.{rounded_is}
use Rattle.observe.proofs.values_of.Goals as goal

pub returns-clause-value : goal.returns-clause-value
returns-clause-value c =
    c.round_all.ensures.value ∙ ap (λ sums. rounded_values (value_at sums)) c.transform.ensures.value ∙ rounded_is (sample_at c.args.samples.now)
