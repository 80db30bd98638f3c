use Rattle.std.proofs.Common.{sym, arith}
use Rattle.std.proofs.lemmas.List.{length-take-le}
use Rattle.list_tests.proofs.clean_cells.receive.Goals as goal

pub slice_bounds-frame-end-2 : goal.slice_bounds-frame-end-2
slice_bounds-frame-end-2 c = sym (length-take-le 19200 c.args.samples.now (omega (arith, c.requires)))

pub frame-requires : goal.frame-requires
frame-requires c = length-take-le 19200 c.args.samples.now (omega (arith, c.requires))
