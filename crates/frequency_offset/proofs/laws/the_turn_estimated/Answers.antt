use Rattle.frequency_offset.proofs.OneEstimate.{has_one_estimate, is_one_applied, reported_cells_are_listed}
use Rattle.frequency_offset.proofs.Ranges.{turn_is_in_range}
use Rattle.frequency_offset.proofs.laws.the_turn_estimated.Goals as goal

pub returns-clause-one : goal.returns-clause-one
returns-clause-one c = has_one_estimate

pub returns-clause-applied : goal.returns-clause-applied
returns-clause-applied c = is_one_applied

pub returns-clause-range : goal.returns-clause-range
returns-clause-range c = turn_is_in_range

pub returns-clause-cells : goal.returns-clause-cells
returns-clause-cells c = reported_cells_are_listed
