use Rattle.trellis.proofs.Rows.{one_zero}
use Rattle.trellis.proofs.Rounds.{ends_in-le}
use Rattle.tailbite.proofs.search.free_at.Goals as goal

pub returns-clause-row : goal.returns-clause-row
returns-clause-row c x below = one_zero 64 1073741824 c.args.state x c.requires below

pub returns-clause-room : goal.returns-clause-room
returns-clause-room c x below =
    rw (one_zero 64 1073741824 c.args.state x c.requires below) (ends_in-le 1073741824 c.args.state x)
