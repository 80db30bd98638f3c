use Rattle.std.proofs.Common.{◌≡◌, length}
use Rattle.cs_num.specs.Complex.{silence}
use Rattle.cell_tx.specs.Emitting.{is_between, AreChanged}
use Rattle.cell_tx.proofs.frame_symbols.clear_between.Given as goal

abbrev pub invariant-loop-i : goal.invariant-loop-i
invariant-loop-i l = record {
  whole : length l.out ≡ 19200;
  done : AreChanged (is_between l.first l.i) (λ i before. silence) l.fn.out l.out;
}
