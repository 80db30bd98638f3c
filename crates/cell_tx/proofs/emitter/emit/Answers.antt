use Rattle.std.proofs.Common.{ap, sym, ◌∙◌, length}
use Rattle.finite.proofs.Lists.{values_below-length}
use Rattle.cs_num.specs.Complex.{sample_of}
use Rattle.cell_tx.specs.Emission.{emitted}
use Rattle.cell_tx.proofs.Received.{received_by-small}
use Rattle.cell_tx.proofs.emitter.emit.Goals as goal

pub put_all-requires-clause-room : goal.put_all-requires-clause-room
put_all-requires-clause-room c =
    let e = c.args.emission.now in
    c.requires ∙ sym (values_below-length e.samples (λ i. sample_of (emitted e i))) ∙ ap length (sym c.new.ensures.samples)

pub returns-clause-magnitude : goal.returns-clause-magnitude
returns-clause-magnitude c i =
    let e = c.args.emission.now in
    received_by-small e.carrier e.load e.cell e.timing.sfn e.timing.offset e.gains i e.gains_are
