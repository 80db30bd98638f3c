use Rattle.cell_tx.proofs.Symbols.{frames_follow, frames_begin}
use Rattle.cell_tx.proofs.laws.frames_stand.Goals as goal

pub returns-clause-follow : goal.returns-clause-follow
returns-clause-follow c = frames_follow

pub returns-clause-begin : goal.returns-clause-begin
returns-clause-begin c = frames_begin
