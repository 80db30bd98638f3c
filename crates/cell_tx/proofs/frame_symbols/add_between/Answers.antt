use Rattle.std.proofs.Common.{ℕ, ◌+◌, ◌≤◌, arith, ◌∙◌}
use Rattle.cell_grid.specs.Ports.{port_prefix}
use Rattle.cell_tx.specs.Sending.{sample_in, symbol_start}
use Rattle.cell_tx.specs.Emitting.{is_between, added}
use Rattle.cell_grid.proofs.Prefixes.{port_prefix_known}
use Rattle.cell_tx.proofs.Symbols.{first-mono}
use Rattle.cell_tx.proofs.Changes.{between, after, is_from, is_below, room_left, changed_on}
use Rattle.cell_tx.proofs.frame_symbols.add_between.Goals as goal

pub add_symbol-requires-clause-small : goal.add_symbol-requires-clause-small
add_symbol-requires-clause-small c =
    let s = c.args.signals.now in
    let prefix = port_prefix s.port in
    let known = port_prefix_known s.port in
    let n : ℕ = c.loop-symbol.symbol in
    let first : ℕ = symbol_start s c.args.first in
    let here : ℕ = symbol_start s n in
    let next : ℕ = symbol_start s (n + 1) in
    let last : ℕ = symbol_start s c.args.last in
    let low : first ≤ here = first-mono prefix c.args.first n known (omega (arith, c.loop-symbol.auto.symbol)) in
    let high : next ≤ last = first-mono prefix (n + 1) c.args.last known (omega (arith, c.loop-symbol-test.true)) in
    room_left (is_between first last) (is_between first here) (is_between here next) (added c.args.gain.now (sample_in s)) c.args.gain.now (sample_in s) c.args.out.now c.loop-symbol.out
    (λ i e. between first last i (omega (arith, low, is_from here next i e)) (omega (arith, high, is_below here next i e)))
    (λ i e. after first here i (is_from here next i e))
    c.requires.small c.loop-symbol.invariant.done

pub loop-symbol-preserved : goal.loop-symbol-preserved
loop-symbol-preserved c =
    let s = c.args.signals.now in
    let prefix = port_prefix s.port in
    let known = port_prefix_known s.port in
    let n : ℕ = c.loop-symbol.symbol in
    record {
      whole = c.add_symbol.auto.out ∙ c.loop-symbol.invariant.whole;
      done = changed_on (added c.args.gain.now (sample_in s)) (symbol_start s c.args.first) (symbol_start s n) (symbol_start s (n + 1)) c.args.out.now c.loop-symbol.out c.add_symbol.new.out
          (first-mono prefix c.args.first n known (omega (arith, c.loop-symbol.auto.symbol))) (first-mono prefix n (n + 1) known (omega arith))
          c.loop-symbol.invariant.done c.add_symbol.ensures;
    }
