use Rattle.std.proofs.Common.{ℕ, ◌≤◌, Bool, arith}
use Rattle.std.proofs.lemmas.Bool.{or_right}
use Rattle.cell_grid.specs.declared.grid.Signals.{Signals}
use Rattle.cell_tx.specs.declared.frame_symbols.Symbols.{Symbols}
use Rattle.cell_grid.specs.Ports.{port_prefix}
use Rattle.cell_tx.specs.Sending.{sample_in, symbol_start}
use Rattle.cell_tx.specs.Emitting.{is_between, is_made_anew, AreSpans, added}
use Rattle.cell_grid.proofs.Prefixes.{port_prefix_known}
use Rattle.cell_tx.proofs.Symbols.{first-mono}
use Rattle.cell_tx.proofs.Changes.{before, after, is_from, is_below, room_left, changed_both}
use Rattle.cell_tx.proofs.frame_symbols.add_symbols.Goals as goal

-- the first range and the second range
abbrev early : Signals → Symbols → ℕ → Bool
early s symbols = is_between (symbol_start s symbols.first) (symbol_start s symbols.last)

abbrev late : Signals → Symbols → ℕ → Bool
late s symbols = is_between (symbol_start s symbols.again) (symbol_start s symbols.end)

meet : (s : Signals) (symbols : Symbols) → AreSpans (port_prefix s.port) symbols → symbol_start s symbols.last ≤ symbol_start s symbols.again
meet s symbols order = first-mono (port_prefix s.port) symbols.last symbols.again (port_prefix_known s.port) order.again

pub add_between-requires-2-clause-small : goal.add_between-requires-2-clause-small
add_between-requires-2-clause-small c =
    let s = c.args.signals.now in
    let symbols = c.args.symbols.now in
    let apart = meet s symbols c.requires.order in
    room_left (is_made_anew (port_prefix s.port) symbols) (early s symbols) (late s symbols) (added c.args.gain.now (sample_in s)) c.args.gain.now (sample_in s) c.args.out.now c.add_between.new.out
    (λ i e. or_right (early s symbols i) (late s symbols i) e)
    (λ i e. after (symbol_start s symbols.first) (symbol_start s symbols.last) i (omega (arith, apart, is_from (symbol_start s symbols.again) (symbol_start s symbols.end) i e)))
    c.requires.small c.add_between.ensures

pub returns : goal.returns
returns c =
    let s = c.args.signals.now in
    let symbols = c.args.symbols.now in
    let apart = meet s symbols c.requires.order in
    changed_both (early s symbols) (late s symbols) (added c.args.gain.now (sample_in s)) c.args.out.now c.add_between.new.out c.add_between-2.new.out
    (λ i e. before (symbol_start s symbols.again) (symbol_start s symbols.end) i (omega (arith, apart, is_below (symbol_start s symbols.first) (symbol_start s symbols.last) i e)))
    c.add_between.ensures c.add_between-2.ensures
