use Rattle.std.proofs.Common.{inl}
use Rattle.wide_block.proofs.FoundRows.{some_is_found, further_is_found}
use Rattle.wide_block.proofs.row.row_for.Goals as goal

pub returns-in-Some-clause-value : goal.returns-in-Some-clause-value
returns-in-Some-clause-value c = some_is_found c.args.size c.in-Some.row (inl c.in-Some.ensures.0) c.in-Some.ensures.1

pub returns-in-None-clause-value : goal.returns-in-None-clause-value
returns-in-None-clause-value c = further_is_found c.args.size c.further_row_of.result c.in-None.ensures c.further_row_of.ensures
