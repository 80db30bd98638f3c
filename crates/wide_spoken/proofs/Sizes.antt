-- Sizes of payloads, and the number of soft values of a candidate.
use Rattle.std.proofs.Common.{◌≡◌, ℕ, zero, suc, ◌+◌, ◌*◌, ◌<◌, ◌≤◌, ◌^◌, Bool, true, false, not, nat_le, cond, List, [], ◌∷◌, ◌++◌, length, get_or, filter, All, refl, arith}
use Rattle.std.specs.List.{flat_map, range_with_len}
use Rattle.std.proofs.lemmas.Bool.{leb-true}
use Rattle.std.proofs.lemmas.List.Sums.{prefix_len-le-length}
use Rattle.soft_bits.proofs.Channel.{length-descrambled}
use Rattle.grid_map.specs.Scrambling.{pdcch_c_init}
use Rattle.wide_cell.specs.Cell.{Cell}
use Rattle.wide_grid.specs.declared.candidate.Candidate.{Candidate}
use Rattle.wide_grid.specs.declared.group.WideReg.{WideReg}
use Rattle.wide_grid.specs.Group.{group, is_group, group_places}
use Rattle.wide_grid.specs.Candidate.{candidates, has_candidate, candidate_places}
use Rattle.wide_grid.specs.Control.{pdcch_groups, element_count}
use Rattle.wide_grid.proofs.Groups.{group_four}
use Rattle.wide_grid.proofs.Carried.{pdcch_valid, ordered_valid}
use Rattle.wide_grant.specs.Runs.{run_count, bits_for}
use Rattle.wide_slot.specs.Slot.{WideSeen}
use Rattle.wide_slot.specs.Values.{placed_values}
use Rattle.wide_control.specs.declared.format.DciFormat.{DciFormat}
use Rattle.wide_control.specs.declared.format.DciFormat.TheVariants.{Format1A, Format1C}
use Rattle.wide_control.specs.Format.{payload_size}
use Rattle.wide_control.specs.Values.{candidate_values, ordered_groups}
use Rattle.wide_control.specs.Control.{Search, searches, searches_of, searches_among}
use Rattle.wide_control.proofs.Lengths.{length-joined, length-placed, length-ordered}

-- ---- payloads

bits_few : (n : ℕ) → bits_for n ≤ 13
bits_few n = prefix_len-le-length (λ b. not (nat_le n (2 ^ b))) (range_with_len 0 13)

padded_few : (ambiguous : Bool) (n : ℕ) → n ≤ 13 → (5 ≤ cond ambiguous (16 + n) (15 + n)) × (cond ambiguous (16 + n) (15 + n) ≤ 29)
padded_few true n few = (omega arith, omega (arith, few))
padded_few false n few = (omega arith, omega (arith, few))

gap_few : (wide : Bool) (n : ℕ) → n ≤ 13 → (5 ≤ cond wide 1 0 + n + 5) × (cond wide 1 0 + n + 5 ≤ 29)
gap_few true n few = (omega arith, omega (arith, few))
gap_few false n few = (omega arith, omega (arith, few))

-- a payload has 5 to 29 bits
pub payload_few : (blocks : ℕ) (format : DciFormat) → (5 ≤ payload_size blocks format) × (payload_size blocks format ≤ 29)
unfolding payload_size
payload_few blocks Format1A = padded_few _ (bits_for (run_count blocks)) (bits_few (run_count blocks))
payload_few blocks Format1C = gap_few (nat_le 50 blocks) _ (bits_few _)

-- ---- candidates

-- what a PDCCH with `count` control channel elements searches
pub record IsInside (count : ℕ) (search : Search) : Type 0 where
  pub ends : search.candidate.first + search.candidate.level ≤ count
  pub level : 4 ≤ search.candidate.level

module _ (count : ℕ) where
  two_more : (c : Candidate) (rest : List Search) → 4 ≤ c.level → has_candidate count c ≡ true → All (IsInside count) rest →
      All (IsInside count) (searches_of c ++ rest)
  two_more c rest level has all zero d inside = record { ends = leb-true (c.first + c.level) count has; level = level }
  two_more c rest level has all (suc zero) d inside = record { ends = leb-true (c.first + c.level) count has; level = level }
  two_more c rest level has all (suc (suc k)) d inside = all k d (omega (arith, inside))

  among_inside : (list : List Candidate) → All (λ (c : Candidate). 4 ≤ c.level) list → All (IsInside count) (searches_among count list)
  among_inside [] levels = λ k d inside. absurd (omega (arith, inside))
  among_inside (c ∷ list) levels = by (among_inside list (λ k d inside. levels (suc k) d (omega (arith, inside)))) (has_candidate count c) refl
    where
      by : All (IsInside count) (searches_among count list) → (has : Bool) → has_candidate count c ≡ has →
          All (IsInside count) (flat_map searches_of (cond has (c ∷ filter (has_candidate count) list) (filter (has_candidate count) list)))
      by rest true e = two_more c (searches_among count list) (levels 0 c (omega arith)) e rest
      by rest false e = rest

four_levels : All (λ (c : Candidate). 4 ≤ c.level) candidates
four_levels zero d inside = omega arith
four_levels (suc zero) d inside = omega arith
four_levels (suc (suc zero)) d inside = omega arith
four_levels (suc (suc (suc zero))) d inside = omega arith
four_levels (suc (suc (suc (suc zero)))) d inside = omega arith
four_levels (suc (suc (suc (suc (suc zero))))) d inside = omega arith
four_levels (suc (suc (suc (suc (suc (suc k)))))) d inside = absurd (omega (arith, inside))

-- each search is in a candidate that the PDCCH has, with four control channel elements at least
pub searches_inside : (count : ℕ) → All (IsInside count) (searches count)
searches_inside count = among_inside count candidates four_levels

-- ---- the soft values of a candidate

length-candidate_places : (cell : Cell) (groups : List WideReg) (c : Candidate) → All (λ (g : WideReg). is_group cell g ≡ true) groups →
    9 * (c.first + c.level) ≤ length groups → length (candidate_places cell groups c) ≡ 4 * (9 * c.level)
unfolding candidate_places
length-candidate_places cell groups c valid there =
    length-joined (9 * c.level) 4 (λ j. group_places cell (get_or groups (9 * c.first + j) (group 0 0)))
    (λ j below. group_four cell (get_or groups (9 * c.first + j) (group 0 0)) (valid (9 * c.first + j) (group 0 0) (omega (arith, below, there))))

-- a candidate has 72 soft values for each control channel element
pub length-candidate : (slot : WideSeen) (cfi : ℕ) (c : Candidate) → c.first + c.level ≤ element_count slot.cell cfi →
    length (candidate_values slot (ordered_groups slot.cell cfi) c) ≡ 72 * c.level
unfolding candidate_values
length-candidate slot cfi c there =
    let cell : Cell = slot.cell in
    let groups : List WideReg = ordered_groups cell cfi in
    let same : length groups ≡ length (pdcch_groups cell cfi) = length-ordered cell cfi in
    let inside : 9 * (c.first + c.level) ≤ length groups = omega (arith, same, there) in
    let count = length-candidate_places cell groups c (ordered_valid cell (pdcch_groups cell cfi) (pdcch_valid cell cfi)) inside in
    let placed = length-placed slot slot (candidate_places cell groups c) (18 * c.level) (omega (arith, count)) in
    let all = length-descrambled (pdcch_c_init cell.identity slot.slot.number) (72 * c.first) (placed_values slot slot (candidate_places cell groups c)) in
    omega (arith, placed, all)
