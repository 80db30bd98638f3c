use Rattle.wide_list.proofs.Blocks.{one_system_block, some_system_block, system_is_in_bits}
use Rattle.wide_list.proofs.laws.one_system_block.Goals as goal

pub returns-clause-one : goal.returns-clause-one
returns-clause-one c = one_system_block

pub returns-clause-some : goal.returns-clause-some
returns-clause-some c = some_system_block

pub returns-clause-fields : goal.returns-clause-fields
returns-clause-fields c = system_is_in_bits
