use Rattle.std.proofs.Common.{◌≡◌, length}
use Rattle.lte_types.specs.Carrier.{prefix_of}
use Rattle.cell_tx.specs.Emitting.{is_made_anew}
use Rattle.cell_tx.proofs.Mixing.{HaveSum}
use Rattle.cell_tx.proofs.emitter.FrameMaker.add_ports.Given as goal

abbrev pub invariant-loop-number : goal.invariant-loop-number
invariant-loop-number l = record {
  whole : length l.frame ≡ 19200;
  done : HaveSum l.self.source l.fn.sfn (is_made_anew (prefix_of l.fn.carrier) l.symbols) l.fn.carrier l.fn.frame l.number l.frame;
}
