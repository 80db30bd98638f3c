-- The groups in the order of their quadruplets.
use Rattle.std.proofs.Common.{ℕ, ◌*◌, ◌<◌, ◌≤◌, ◌≡◌, true, false, nat_eq, List, length, get_or, ap, sym, arith}
use Rattle.std.specs.List.{All}
use Rattle.std.proofs.lemmas.Bool.{and_parts}
use Rattle.std.proofs.lemmas.List.Elements.{filter_passes}
use Rattle.finite.specs.Lists.{values_below}
use Rattle.finite.proofs.Lists.{values_below-All, values_below-length}
use Rattle.grid_map.specs.Control.{quadruplet_at}
use Rattle.grid_map.specs.Candidate.{group_of_quadruplet}
use Rattle.grid_map.proofs.Kept.{length-filter_within}
use Rattle.grid_map.proofs.Carried.{group_is_first, group_inside}
use Rattle.wide_cell.specs.Cell.{Cell}
use Rattle.wide_grid.specs.declared.group.WideReg.{WideReg}
use Rattle.wide_grid.specs.Group.{group, is_group}
use Rattle.wide_grid.specs.Control.{quadruplet_group, quadruplet_groups, is_pdcch, pdcch_groups, numbered}

-- the first group found is the result
pub found : (cell : Cell) (groups : List WideReg) (q r : ℕ) → r < length groups →
    ((k : ℕ) → k < r → nat_eq (quadruplet_at cell.identity (length groups) k) q ≡ false) →
    quadruplet_at cell.identity (length groups) r ≡ q →
    get_or groups r (group 0 0) ≡ quadruplet_group cell groups q
found cell groups q r l before here =
    sym (ap (λ n. get_or groups n (group 0 0)) (group_is_first cell.identity (length groups) q r l before here))

-- the groups in another order are valid
pub ordered_valid : (cell : Cell) (groups : List WideReg) → All (λ (g : WideReg). is_group cell g ≡ true) groups →
    All (λ (g : WideReg). is_group cell g ≡ true) (quadruplet_groups cell groups)
unfolding quadruplet_groups
ordered_valid cell groups all =
    values_below-All (λ (g : WideReg). is_group cell g ≡ true) (length groups) (quadruplet_group cell groups) (group 0 0)
    (λ q l. all (group_of_quadruplet cell.identity (length groups) q) (group 0 0) (group_inside cell.identity (length groups) q l))

-- the PDCCH groups are valid
pub pdcch_valid : (cell : Cell) (cfi : ℕ) → All (λ (g : WideReg). is_group cell g ≡ true) (pdcch_groups cell cfi)
unfolding pdcch_groups
pdcch_valid cell cfi k d l =
    let passes = filter_passes (is_pdcch cell cfi) (values_below (4 * (12 * cell.blocks)) numbered) k d l in
    (and_parts (is_group cell _) _ (and_parts _ _ passes).0).0

-- there are at most four groups for each subcarrier
pub pdcch_few : (cell : Cell) (cfi : ℕ) → length (pdcch_groups cell cfi) ≤ 4 * (12 * cell.blocks)
unfolding pdcch_groups
pdcch_few cell cfi =
    let some = length-filter_within (is_pdcch cell cfi) (values_below (4 * (12 * cell.blocks)) numbered) in
    let all = values_below-length (4 * (12 * cell.blocks)) numbered in
    omega (arith, some, all)
