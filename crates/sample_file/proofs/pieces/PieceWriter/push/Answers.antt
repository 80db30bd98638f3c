use Rattle.std.proofs.Common.{refl, arith}
use Rattle.sample_file.proofs.Waiting.{pieces_on, pieces_front, pieces_short, samples_wait}
use Rattle.sample_file.proofs.pieces.PieceWriter.push.Goals as goal

pub loop-rest-preserved : goal.loop-rest-preserved
loop-rest-preserved g c = record {
  so_far = samples_wait _ _ _ _ _ _ _ (pieces_on _ _ _ _ _ _ _ _ c.loop-rest.invariant.so_far refl c.in-Ok.ensures.ok) c.take_samples-count.ensures.taken;
  later = omega (arith, c.loop-rest.invariant.later, c.make_room.ensures.never_falls);
}

pub returns-in-Err-clause-front : goal.returns-in-Err-clause-front
returns-in-Err-clause-front g c = pieces_front _ _ _ _ _ _ _ c.loop-rest.invariant.so_far refl c.in-Err.ensures.front

pub returns-in-Err-clause-full : goal.returns-in-Err-clause-full
returns-in-Err-clause-full g c = pieces_short _ _ _ _ _ _ c.loop-rest.invariant.so_far refl c.in-Err.ensures.full
