use Rattle.std.proofs.Common.{arith}
use Rattle.cs_outside.proofs.Writing.{written_more}
use Rattle.cs_outside.proofs.streams.write_whole.Goals as goal

pub loop-rest-preserved : goal.loop-rest-preserved
loop-rest-preserved g c = record {
  so_far = written_more _ _ _ _ _ _ c.loop-rest.invariant.so_far c.in-Ok.ensures.fits c.in-Ok.ensures.written;
  later = omega (arith, c.loop-rest.invariant.later, c.write.ensures.never_falls);
}
