use Rattle.std.proofs.Common.{subst, List, Option, Some, None}
use Rattle.std.specs.Prelude.{IfOk, IfSome}
use Rattle.std.proofs.lemmas.Result.{IfOk-weaker}
use Rattle.cs_num.specs.declared.Sample.{Sample}
use Rattle.frequency_offset.specs.declared.estimation.OffsetEstimate.{OffsetEstimate}
use Rattle.frequency_offset.specs.Estimation.{IsEstimated}
use Rattle.frequency_offset.specs.Laws.{IsTurnInRange}
use Rattle.frequency_offset.proofs.Ranges.{turn_is_in_range}
use Rattle.frequency_offset.proofs.estimation.tell.Goals as goal

pub returns-clause-estimate : goal.returns-clause-estimate
returns-clause-estimate c = subst (λ (r : List Sample). IfOk c.estimated_with.result (IsEstimated r)) c.new-centred.ensures c.estimated_with.ensures

pub returns-clause-range : goal.returns-clause-range
returns-clause-range c = IfOk-weaker c.estimated_with.result (IsEstimated c.args.recording.now) _ in_range (returns-clause-estimate c)
  where
    in_range : (estimate : Option OffsetEstimate) → IsEstimated c.args.recording.now estimate → IfSome estimate IsTurnInRange
    in_range None is = tt
    in_range (Some estimate) is = turn_is_in_range c.args.recording.now estimate is
