-- The resource-element groups for PCFICH, PHICH and PDCCH at any bandwidth (TS 36.211 sections 6.7.4, 6.9, 6.9.3 and
-- 6.8.5).
use Rattle.std.specs.Prelude.{ℕ, ◌+◌, ◌*◌, ◌/◌, ◌%◌, Bool, not, ◌&&◌, nat_lt, List, filter, length, slice_index_or}
use Rattle.finite.specs.Lists.{values_below, joined_below}
use Rattle.lte_types.specs.declared.resource.Resource.{Resource}
use Rattle.lte_types.specs.declared.resource.Resource.TheVariants.{OneSixth, Half, One, Two}
use Rattle.grid_map.specs.Control.{phich_symbol, phich_number}
use Rattle.grid_map.specs.Candidate.{group_of_quadruplet}
use Rattle.wide_cell.specs.declared.place.WidePlace.{WidePlace}
use Rattle.wide_cell.specs.Cell.{Cell, subcarriers}
use Rattle.wide_grid.specs.declared.group.WideReg.{WideReg}
use Rattle.wide_grid.specs.Group.{group, symbol_groups, is_group, is_group_in, group_places, region}

-- ---- PCFICH (section 6.7.4)

-- PCFICH group i
abbrev pub pcfich_group : Cell → ℕ → WideReg
pcfich_group cell i =
    group 0 ((6 * (cell.identity % (2 * cell.blocks)) + 6 * (i * cell.blocks / 2)) % subcarriers cell.blocks)

-- the four PCFICH groups
unfoldable pub pcfich_groups : Cell → List WideReg
pcfich_groups cell = values_below 4 (pcfich_group cell)

-- the PCFICH's sixteen resource elements, in order
unfoldable pub pcfich_places : Cell → List WidePlace
pcfich_places cell = joined_below 4 (λ i. group_places cell (pcfich_group cell i))

-- ---- PHICH (sections 6.9 and 6.9.3)

-- six times N_g
abbrev pub sixths : Resource → ℕ
sixths OneSixth = 1
sixths Half = 3
sixths One = 6
sixths Two = 12

-- the PHICH group count: N_g times the resource blocks, divided by 8 and rounded up
abbrev pub phich_count : Cell → ℕ
phich_count cell = (sixths cell.resource * cell.blocks + 47) / 48

-- the groups in a symbol that the PCFICH does not use, by subcarrier
unfoldable pub free_groups : Cell → ℕ → List WideReg
free_groups cell symbol = filter (λ g. not (is_group_in (pcfich_groups cell) g)) (symbol_groups cell symbol)

-- the number of groups in a symbol that the PCFICH does not use
abbrev pub free_count : Cell → ℕ → ℕ
free_count cell symbol = length (free_groups cell symbol)

-- the resource-element group in a symbol for quadruplet i of PHICH group m
unfoldable pub phich_group_in : Cell → ℕ → ℕ → ℕ → WideReg
phich_group_in cell symbol m i =
    slice_index_or (free_groups cell symbol)
    (phich_number cell.identity (free_count cell symbol) (free_count cell 0) m i) (group 0 0)

-- the resource-element group for quadruplet i of PHICH group m
abbrev pub phich_group : Cell → ℕ → ℕ → WideReg
phich_group cell m i = phich_group_in cell (phich_symbol cell.duration i) m i

-- all PHICH groups
unfoldable pub phich_groups : Cell → List WideReg
phich_groups cell = joined_below (phich_count cell) (λ m. values_below 3 (phich_group cell m))

-- ---- PDCCH (section 6.8.5)

-- the resource-element group, valid or not, in symbol n mod 4 that begins at subcarrier n / 4: numbers order groups by
-- first subcarrier, then symbol
abbrev pub numbered : ℕ → WideReg
numbered n = group (n % 4) (n / 4)

-- whether a group is in the control region of a control format indicator, and used by neither PCFICH nor PHICH
abbrev pub is_pdcch : Cell → ℕ → WideReg → Bool
is_pdcch cell cfi g =
    is_group cell g && nat_lt g.symbol (region cell cfi)
    && (not (is_group_in (pcfich_groups cell) g) && not (is_group_in (phich_groups cell) g))

-- the PDCCH groups, by first subcarrier, then symbol
unfoldable pub pdcch_groups : Cell → ℕ → List WideReg
pdcch_groups cell cfi = filter (is_pdcch cell cfi) (values_below (4 * subcarriers cell.blocks) numbered)

-- the number of control channel elements (CCE), with nine groups each (section 6.8.1)
abbrev pub element_count : Cell → ℕ → ℕ
element_count cell cfi = length (pdcch_groups cell cfi) / 9

-- the group, among the PDCCH groups, that carries quadruplet q
abbrev pub quadruplet_group : Cell → List WideReg → ℕ → WideReg
quadruplet_group cell groups q =
    slice_index_or groups (group_of_quadruplet cell.identity (length groups) q) (group 0 0)

-- the PDCCH groups in the order of the quadruplets that the groups carry
unfoldable pub quadruplet_groups : Cell → List WideReg → List WideReg
quadruplet_groups cell groups = values_below (length groups) (quadruplet_group cell groups)
