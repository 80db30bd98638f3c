use Rattle.std.proofs.Common.{◌≡◌, ◌∙◌, ◌+◌, ◌*◌, ◌^◌, arith, ap, ap₂, ℕ}
use Rattle.cs_num.specs.Complex.{sample_at}
use Rattle.cs_num.specs.Rounding.{quotient}
use Rattle.cs_num.proofs.Complex.{within_more}
use Rattle.cs_num.proofs.Rounding.{quotient-within}
use Rattle.norms.specs.Magnitudes.{correlation_below, energy_below}
use Rattle.pss_search.specs.Correlation.{wave, wave_power}
use Rattle.cancel.proofs.estimating.estimate.Goals as goal

pub correlation-requires-clause-inside : goal.correlation-requires-clause-inside
correlation-requires-clause-inside c =
    let first = c.useful_start-first.ensures in
    let early = c.requires in
    let long = c.if-prove.false in
    let count = c.len-count.ensures.value in
    omega (arith, first, early, long, count)

pub returns-clause-value : goal.returns-clause-value
unfolding wave_power
returns-clause-value c =
    let first = c.useful_start-first.ensures in
    let place : c.useful_start-first.result ≡ c.args.start + 832 = omega (arith, first) in
    c.quotient.ensures
    ∙ ap₂ quotient
    (c.correlation.ensures.value
    ∙ ap₂ (λ (first n2 : ℕ). correlation_below 128 (λ n. sample_at c.args.recording.now (first + n)) (wave n2)) place c.root_of-n2.ensures.value)
    (c.signal_power.ensures.value ∙ ap (λ (n2 : ℕ). energy_below 128 (wave n2)) c.root_of-n2.ensures.value)

pub quotient-requires-clause-magnitude : goal.quotient-requires-clause-magnitude
quotient-requires-clause-magnitude c = within_more c.correlation.result _ _ c.correlation.ensures.small (omega arith)

pub returns-clause-small : goal.returns-clause-small
returns-clause-small c =
    let some = c.signal_power.ensures.least in
    let sum = within_more c.correlation.result _ (c.signal_power.result * 2 ^ 40) c.correlation.ensures.small (omega (arith, some)) in
    rw c.quotient.ensures (quotient-within c.correlation.result c.signal_power.result (2 ^ 40) (omega (arith, some)) sum)
