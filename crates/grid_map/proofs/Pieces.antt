-- The resource elements for a list of groups, group by group.
use Rattle.std.proofs.Common.{◌≡◌, ℕ, ◌*◌, ◌/◌, ◌%◌, ◌<◌, ◌≤◌, ◌∙◌, true, List, length, get_or, ap, arith}
use Rattle.std.specs.Prelude.{All}
use Rattle.std.proofs.lemmas.List.Elements.{All-get_or}
use Rattle.finite.proofs.Lists.{values_below_at, values_below-length, values_below-All}
use Rattle.finite.proofs.Pieces.{HaveSize, length-pieces, get_or-pieces}
use Rattle.grid_map.specs.declared.Reg.{Reg}
use Rattle.grid_map.specs.Place.{place}
use Rattle.grid_map.specs.Group.{group, is_group, group_places}
use Rattle.grid_map.specs.Control.{pcfich_group, pcfich_groups, pcfich_places}
use Rattle.grid_map.specs.Candidate.{group_of_quadruplet, quadruplet_group, candidate_groups, candidate_places}
use Rattle.grid_map.proofs.Spans.{four_places}
use Rattle.grid_map.proofs.Regions.{pcfich_inside}
use Rattle.grid_map.proofs.Carried.{group_inside}

-- ---- the PCFICH

length-pcfich_groups : (identity : ℕ) → length (pcfich_groups identity) ≡ 4
unfolding pcfich_groups
length-pcfich_groups identity = values_below-length 4 (pcfich_group identity)

pcfich_fours : (identity : ℕ) → HaveSize 4 (group_places identity) (pcfich_groups identity)
pcfich_fours identity k d inside = four_places identity _ (pcfich_inside identity k d inside).0

pub length-pcfich_places : (identity : ℕ) → length (pcfich_places identity) ≡ 16
unfolding pcfich_places
length-pcfich_places identity =
    length-pieces 4 (group_places identity) (pcfich_groups identity) (pcfich_fours identity) ∙ ap (λ n. n * 4) (length-pcfich_groups identity)

pub pcfich_place_at : (identity i : ℕ) → i < 16 →
    get_or (pcfich_places identity) i (place 0 0) ≡ get_or (group_places identity (get_or (pcfich_groups identity) (i / 4) (group 0 0))) (i % 4) (place 0 0)
unfolding pcfich_places
pcfich_place_at identity i inside =
    get_or-pieces 4 (group_places identity) (pcfich_groups identity) i (group 0 0) (place 0 0) (omega arith) (pcfich_fours identity)
    (let size = length-pcfich_groups identity in omega (arith, size, inside))

-- ---- the PDCCH candidate

length-candidate_groups : (identity : ℕ) (groups : List Reg) → length (candidate_groups identity groups) ≡ 36
unfolding candidate_groups
length-candidate_groups identity groups = values_below-length 36 (quadruplet_group identity groups)

candidate_fours : (identity : ℕ) (groups : List Reg) → 36 ≤ length groups → All (λ g. is_group g ≡ true) groups →
    HaveSize 4 (group_places identity) (candidate_groups identity groups)
unfolding candidate_groups
candidate_fours identity groups enough each =
    values_below-All (λ g. length (group_places identity g) ≡ 4) 36 (quadruplet_group identity groups) (group 0 0)
    (λ q below. four_places identity _
    (All-get_or (λ g. is_group g ≡ true) groups (group_of_quadruplet identity (length groups) q) (group 0 0)
    (group_inside identity (length groups) q (omega (arith, enough, below))) each))

pub length-candidate_places : (identity : ℕ) (groups : List Reg) → 36 ≤ length groups → All (λ g. is_group g ≡ true) groups →
    length (candidate_places identity groups) ≡ 144
unfolding candidate_places
length-candidate_places identity groups enough each =
    length-pieces 4 (group_places identity) (candidate_groups identity groups) (candidate_fours identity groups enough each)
    ∙ ap (λ n. n * 4) (length-candidate_groups identity groups)

pub candidate_place_at : (identity : ℕ) (groups : List Reg) (i : ℕ) → 36 ≤ length groups → All (λ g. is_group g ≡ true) groups → i < 144 →
    get_or (candidate_places identity groups) i (place 0 0)
    ≡ get_or (group_places identity (quadruplet_group identity groups (i / 4))) (i % 4) (place 0 0)
unfolding candidate_places candidate_groups
candidate_place_at identity groups i enough each inside =
    get_or-pieces 4 (group_places identity) (candidate_groups identity groups) i (group 0 0) (place 0 0) (omega arith)
    (candidate_fours identity groups enough each) (let size = length-candidate_groups identity groups in omega (arith, size, inside))
    ∙ ap (λ g. get_or (group_places identity g) (i % 4) (place 0 0)) (values_below_at (quadruplet_group identity groups) 36 (i / 4) (group 0 0) (omega (arith, inside)))
