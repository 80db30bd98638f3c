use Rattle.std.proofs.Common.{◌≡◌, length}
use Rattle.cell_tx.specs.Sending.{sample_in, symbol_start}
use Rattle.cell_tx.specs.Emitting.{is_between, AreChanged, added}
use Rattle.cell_tx.proofs.frame_symbols.add_between.Given as goal

abbrev pub invariant-loop-symbol : goal.invariant-loop-symbol
invariant-loop-symbol l = record {
  whole : length l.out ≡ 19200;
  done : AreChanged (is_between (symbol_start l.signals l.first) (symbol_start l.signals l.symbol)) (added l.gain (sample_in l.signals)) l.fn.out l.out;
}
