use Rattle.std.proofs.Common.{ℕ, ◌/◌, sym, subst, ap, ◌∙◌}
use Rattle.finite.proofs.Lists.{values_below_at}
use Rattle.cs_num.specs.Complex.{IsWithin, value_at}
use Rattle.fold128.specs.Symbol.{useful_part}
use Rattle.cell_grid.specs.Load.{sent_element}
use Rattle.cell_grid.proofs.Bounds.{sent_element-within}
use Rattle.cell_tx.proofs.Symbols.{useful_from}
use Rattle.cell_tx.proofs.useful.useful_of.Goals as goal

pub synth-requires : goal.synth-requires
synth-requires c =
    let signals = c.args.signals.now in
    let plan = signals.cell.now in
    let sfn : ℕ = signals.sfn in
    let subframe : ℕ = c.args.slot / 2 in
    let symbol : ℕ = c.symbol_of.result in
    rw c.grid_of-grid.ensures
    (λ k d inside. subst (IsWithin 127) (sym (values_below_at (sent_element signals.load signals.port plan sfn subframe symbol) 72 k d inside))
    (sent_element-within signals.load signals.port plan sfn subframe symbol k))

pub returns : goal.returns
returns c =
    let signals = c.args.signals.now in
    c.synth.ensures ∙ ap (λ grid. useful_part (value_at grid)) c.grid_of-grid.ensures
    ∙ useful_from (sent_element signals.load signals.port signals.cell.now signals.sfn (c.args.slot / 2) c.symbol_of.result)
    ∙ ap (λ (n : ℕ). useful_part (sent_element signals.load signals.port signals.cell.now signals.sfn (c.args.slot / 2) n)) c.symbol_of.ensures.value
