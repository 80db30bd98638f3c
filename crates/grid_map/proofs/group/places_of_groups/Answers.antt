use Rattle.grid_map.proofs.Spans.{group_in_order, group_ends, places_apart}
use Rattle.grid_map.proofs.group.places_of_groups.Goals as goal

pub returns-clause-order : goal.returns-clause-order
returns-clause-order c = group_in_order

pub returns-clause-inside : goal.returns-clause-inside
returns-clause-inside c = group_ends

pub returns-clause-apart : goal.returns-clause-apart
returns-clause-apart c = places_apart
