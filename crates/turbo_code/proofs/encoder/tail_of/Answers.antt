use Rattle.turbo_code.proofs.Encoding.{three_x, three_z}
use Rattle.turbo_code.proofs.encoder.tail_of.Goals as goal

pub returns-clause-x : goal.returns-clause-x
returns-clause-x c = three_x c.args.register.now

pub returns-clause-z : goal.returns-clause-z
returns-clause-z c = three_z c.args.register.now
