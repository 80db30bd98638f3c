use Rattle.std.proofs.Common.{ℕ, ap, sym, ◌∙◌, ◌≡◌, ◌+◌, arith, None}
use Rattle.cs_num.specs.Complex.{sample_of}
use Rattle.lte_types.specs.Timing.{number_of}
use Rattle.cell_grid.specs.Ports.{port_prefix}
use Rattle.cell_grid.specs.Load.{sent_element}
use Rattle.cell_tx.proofs.Bounds.{sent_by-square}
use Rattle.cell_tx.proofs.Symbols.{prefix_sent_is}
use Rattle.cell_tx.proofs.samples.port_sample.Goals as goal

pub returns-clause-value : goal.returns-clause-value
returns-clause-value c =
    let i : ℕ = c.args.i in
    let same : i + 0 ≡ i = omega arith in
    let number = c.new-signals.ensures.sfn ∙ c.number_at-sfn.ensures ∙ ap (number_of c.args.sfn) same in
    c.sample_of_frame.ensures
    ∙ rw (c.new-signals.ensures.cell, c.new-signals.ensures.port, c.new-signals.ensures.load, number)
    (ap sample_of (sym (prefix_sent_is (port_prefix c.args.port) (sent_element None c.args.port c.args.cell.now) c.args.sfn i)))

pub returns-clause-magnitude : goal.returns-clause-magnitude
returns-clause-magnitude c = sent_by-square None c.args.port c.args.cell.now c.args.sfn c.args.i
