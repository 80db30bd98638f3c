use Rattle.std.proofs.Common.{ℕ, ◌+◌, sym, ap, ◌∙◌, length}
use Rattle.finite.specs.Lists.{values_below}
use Rattle.finite.proofs.Lists.{values_below-length}
use Rattle.cs_num.specs.declared.Cpx.{Cpx}
use Rattle.cs_num.specs.Complex.{times, sample_of}
use Rattle.cell_plan.specs.declared.transmission.Transmission.{Transmission}
use Rattle.cell_grid.specs.Grid.{element}
use Rattle.cell_tx.specs.Sent.{sent}
use Rattle.cell_tx.proofs.samples.send_all.Goals as goal

-- the transmission from a sample, times a gain
abbrev part : Transmission → ℕ → ℕ → Cpx → ℕ → Cpx
part t sfn offset gain i = times gain (sent (element t.cell) sfn (i + offset))

pub put_all-requires-clause-room : goal.put_all-requires-clause-room
put_all-requires-clause-room c =
    sym (values_below-length (length c.args.out.now) (λ i. sample_of (part c.args.t.now c.timing.result.sfn c.timing.result.offset c.value.result i)))
    ∙ ap length (sym c.of_port-source.ensures)
    ∙ ap length (sym c.by.ensures.samples)

pub returns : goal.returns
returns c =
    let t = c.args.t.now in
    let timing = c.timing.ensures in
    c.put_all.ensures
    ∙ c.by.ensures.samples
    ∙ c.of_port-source.ensures
    ∙ ap (λ (m : ℕ). values_below m (λ i. sample_of (part t c.timing.result.sfn c.timing.result.offset c.value.result i))) c.requires
    ∙ ap (λ (s : ℕ). values_below t.samples (λ i. sample_of (part t s c.timing.result.offset c.value.result i))) timing.sfn
    ∙ ap (λ (o : ℕ). values_below t.samples (λ i. sample_of (part t t.sfn o c.value.result i))) timing.offset
    ∙ ap (λ (z : Cpx). values_below t.samples (λ i. sample_of (part t t.sfn t.offset z i))) (c.value.ensures.value ∙ c.gain.ensures)
