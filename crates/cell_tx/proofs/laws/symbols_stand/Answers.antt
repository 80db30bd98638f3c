use Rattle.cell_tx.proofs.Symbols.{useful_parts_stand, prefixes_repeat}
use Rattle.cell_tx.proofs.laws.symbols_stand.Goals as goal

pub returns-clause-useful : goal.returns-clause-useful
returns-clause-useful c = useful_parts_stand

pub returns-clause-prefix : goal.returns-clause-prefix
returns-clause-prefix c = prefixes_repeat
