use Rattle.std.proofs.Common.{arith, ◌∙◌, ap}
use Rattle.std.proofs.lemmas.List.Elements.{All-weaker}
use Rattle.cs_num.specs.Complex.{IsWithin, sample_at}
use Rattle.cs_num.proofs.Complex.{within_more}
use Rattle.observe.specs.Steps.{seen_of}
use Rattle.observe.proofs.Seen.{seen_is}
use Rattle.observe.proofs.symbol.Goals as goal

pub returns-clause-value : goal.returns-clause-value
returns-clause-value c =
    c.values_of.ensures.value ∙ ap (λ samples. seen_of (sample_at samples)) c.window.ensures ∙ seen_is c.args.recording.now c.args.start

pub returns-clause-small : goal.returns-clause-small
returns-clause-small c = All-weaker (IsWithin 23726080) (IsWithin 33554432) (λ z h. within_more z 23726080 33554432 h (omega arith)) c.values_of.result c.values_of.ensures.small
