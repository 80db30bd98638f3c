use Rattle.std.proofs.Common.{refl}
use Rattle.turbo_code.specs.Table.{interleaver}
use Rattle.turbo_code.proofs.encoder.interleaver.Goals as goal

pub returns-clause-bit : goal.returns-clause-bit
unfolding interleaver
returns-clause-bit c = refl
