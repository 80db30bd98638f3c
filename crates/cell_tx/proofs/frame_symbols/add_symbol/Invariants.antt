use Rattle.std.proofs.Common.{◌≡◌, length}
use Rattle.cell_tx.specs.Sending.{sample_in, symbol_start}
use Rattle.cell_tx.specs.Emitting.{is_between, AreChanged, added}
use Rattle.cell_tx.proofs.frame_symbols.add_symbol.Given as goal

abbrev pub invariant-loop-i : goal.invariant-loop-i
invariant-loop-i l = record {
  whole : length l.out ≡ 19200;
  done : AreChanged (is_between (symbol_start l.signals l.symbol) l.i) (added l.gain (sample_in l.signals)) l.fn.out l.out;
}
