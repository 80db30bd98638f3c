use Rattle.std.proofs.Common.{arith}
use Rattle.cs_outside.proofs.Buffers.{read_at_place, front_stays}
use Rattle.cs_outside.proofs.streams.read_at.Goals as goal

pub returns-clause-read : goal.returns-clause-read
returns-clause-read g c = read_at_place c.args.at c.args.buffer.now c.read.new.into _ _ _ (omega arith) c.read.result c.read.ensures.fits c.read.ensures.next c.read.ensures.end

pub returns-clause-front : goal.returns-clause-front
returns-clause-front g c = front_stays c.args.at c.args.buffer.now _ (omega arith)
