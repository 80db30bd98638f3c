use Rattle.trellis.proofs.Rows.{one_zero}
use Rattle.tail_cert.specs.Certificate.{unbounded}
use Rattle.tail_cert.proofs.checker.row_from.Goals as goal

pub returns : goal.returns
returns c x below = one_zero 64 unbounded c.args.s x c.requires below
