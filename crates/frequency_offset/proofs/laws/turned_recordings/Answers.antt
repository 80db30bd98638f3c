use Rattle.std.proofs.Common.{arith}
use Rattle.frequency_offset.proofs.AtZero.{stays_at_zero}
use Rattle.frequency_offset.proofs.TurnedSamples.{turned-length}
use Rattle.frequency_offset.proofs.laws.turned_recordings.Goals as goal

pub returns-clause-stays : goal.returns-clause-stays
returns-clause-stays c = stays_at_zero

pub returns-clause-recording : goal.returns-clause-recording
returns-clause-recording c = λ recording m h.
    let e = turned-length recording m in
    record { least = omega (arith, e, h.least); most = omega (arith, e, h.most) }
