use Rattle.std.proofs.Common.{rules, List, subst}
use Rattle.std.specs.List.Sorted.{IsPermutation}
use Rattle.std.proofs.lemmas.List.Sorted.{IsNonDecreasingBy-from_sort_by_key}
use Rattle.accumulated_list.specs.declared.cell.DetectedCell.{DetectedCell}
use Rattle.accumulated_list.specs.Steps.{order_of}
use Rattle.accumulated_list.proofs.Ordered.{list_from_sort, sorted_few}
use Rattle.accumulated_list.proofs.listing.list_accumulated.Goals as goal

pub returns-clause-list : goal.returns-clause-list
returns-clause-list c =
    list_from_sort c.args.recording.now c.args.halves _
    (subst (λ (xs : List DetectedCell). IsPermutation xs c.sort_by_key.new.self.items) c.in_ok-list.ensures c.in_ok-sort_by_key.ensures.permutation)
    (IsNonDecreasingBy-from_sort_by_key order_of _ c.in_ok-sort_by_key.ensures.sorted (λ a r q k. search rules))

pub returns-clause-few : goal.returns-clause-few
returns-clause-few c =
    sorted_few c.args.recording.now c.args.halves _
    (subst (λ (xs : List DetectedCell). IsPermutation xs c.sort_by_key.new.self.items) c.in_ok-list.ensures c.in_ok-sort_by_key.ensures.permutation)
