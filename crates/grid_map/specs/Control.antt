-- The resource-element groups for PCFICH, PHICH and PDCCH (TS 36.211 sections 6.7.4, 6.9.3 and 6.8.5), for
-- six resource blocks.
use Rattle.std.specs.Prelude.{ℕ, ◌+◌, ◌-◌, ◌*◌, ◌/◌, ◌%◌, Bool, not, ◌&&◌, nat_eq, nat_le, if◌then◌else◌, List, filter, length, slice_index_or}
use Rattle.std.specs.List.{list_any, flat_map}
use Rattle.finite.specs.Lists.{values_below, joined_below}
use Rattle.conv_code.specs.Reading.{stream_order}
use Rattle.lte_types.specs.declared.duration.Duration.{Duration}
use Rattle.lte_types.specs.declared.duration.Duration.TheVariants.{Normal, Extended}
use Rattle.lte_types.specs.declared.resource.Resource.{Resource}
use Rattle.lte_types.specs.declared.resource.Resource.TheVariants.{OneSixth, Half, One, Two}
use Rattle.grid_map.specs.declared.Reg.{Reg}
use Rattle.grid_map.specs.declared.Place.{Place}
use Rattle.grid_map.specs.Group.{group, is_group, same_group, symbol_groups, group_places}
use Rattle.lte_types.specs.Numerology.{subcarriers}

-- whether the resource-element group `g` is in `groups`
abbrev pub is_group_in : List Reg → Reg → Bool
is_group_in groups g = list_any (same_group g) groups

-- the resource-element groups in `groups` that are not in `taken`, in order
abbrev pub without : List Reg → List Reg → List Reg
without taken groups = filter (λ g. not (is_group_in taken g)) groups

-- the PCFICH's resource-element group `i`, 0 to 3
abbrev pub pcfich_group : ℕ → ℕ → Reg
pcfich_group identity i = group 0 ((6 * (identity % 12) + 18 * i) % subcarriers)

-- the four resource-element groups of the PCFICH
unfoldable pub pcfich_groups : ℕ → List Reg
pcfich_groups identity = values_below 4 (pcfich_group identity)

-- the PCFICH's sixteen resource elements, in order
unfoldable pub pcfich_places : ℕ → List Place
pcfich_places identity = flat_map (group_places identity) (pcfich_groups identity)

-- the resource-element groups of `symbol` that the PCFICH does not use, in order of subcarrier
unfoldable pub left_groups : ℕ → ℕ → List Reg
left_groups identity symbol = without (pcfich_groups identity) (symbol_groups symbol)

-- the number of resource-element groups of `symbol` that the PCFICH does not use
abbrev pub left_count : ℕ → ℕ → ℕ
left_count identity symbol = length (left_groups identity symbol)

-- the number of PHICH groups
abbrev pub phich_count : Resource → ℕ
phich_count OneSixth = 1
phich_count Half = 1
phich_count One = 1
phich_count Two = 2

-- the symbol that carries quadruplet `i` of a PHICH group
abbrev pub phich_symbol : Duration → ℕ → ℕ
phich_symbol Normal i = 0
phich_symbol Extended i = i

-- the index of quadruplet `i` of PHICH group `m` among the `n` resource-element groups of its symbol that the PCFICH
-- does not use; symbol 0 has `n0` such groups (TS 36.211 section 6.9.3)
abbrev pub phich_number : ℕ → ℕ → ℕ → ℕ → ℕ → ℕ
phich_number identity n n0 m i = ((identity * n) / n0 + m + (i * n) / 3) % n

-- the resource-element group in `symbol` that carries quadruplet `i` of PHICH group `m`
unfoldable pub phich_group_in : ℕ → ℕ → ℕ → ℕ → Reg
phich_group_in identity symbol m i =
    slice_index_or (left_groups identity symbol)
    (phich_number identity (left_count identity symbol) (left_count identity 0) m i) (group 0 0)

-- the resource-element group that carries quadruplet `i` of PHICH group `m`
abbrev pub phich_group : ℕ → Duration → ℕ → ℕ → Reg
phich_group identity duration m i = phich_group_in identity (phich_symbol duration i) m i

-- the resource-element groups of all PHICH groups
unfoldable pub phich_groups : ℕ → Duration → Resource → List Reg
phich_groups identity duration resource =
    joined_below (phich_count resource) (λ m. values_below 3 (phich_group identity duration m))

-- the resource-element group, valid or not, in symbol n mod 4 that begins at subcarrier n / 4
abbrev pub numbered : ℕ → Reg
numbered n = group (n % 4) (n / 4)

-- a resource-element group's number, which orders groups by first subcarrier, then by symbol: 4 times the first
-- subcarrier, plus the symbol
abbrev pub group_number : Reg → ℕ
group_number g = 4 * g.first + g.symbol

-- whether `g` is a valid resource-element group in the control region, which has cfi + 1 symbols
abbrev pub is_in_region : ℕ → Reg → Bool
is_in_region cfi g = is_group g && nat_le g.symbol cfi

-- the resource-element groups of the control region, ordered by first subcarrier, then by symbol
unfoldable pub region_groups : ℕ → List Reg
region_groups cfi = filter (is_in_region cfi) (values_below 288 numbered)

-- the PDCCH's resource-element groups: the control region's groups that PCFICH and PHICH do not use, ordered by first
-- subcarrier, then by symbol
unfoldable pub pdcch_groups : ℕ → ℕ → Duration → Resource → List Reg
pdcch_groups identity cfi duration resource =
    without (phich_groups identity duration resource) (without (pcfich_groups identity) (region_groups cfi))

-- the number of quadruplets per PHICH group in the control region. With the extended duration the last quadruplet is in
-- symbol 2, which the region does not include if `cfi` is 1.
abbrev pub phich_inside : ℕ → Duration → ℕ
phich_inside cfi Normal = 3
phich_inside cfi Extended = if nat_eq cfi 1 then 2 else 3

-- the number of PDCCH resource-element groups; symbol 0 has twelve groups, each later symbol eighteen, and the PCFICH
-- uses four
abbrev pub group_count : ℕ → Duration → Resource → ℕ
group_count cfi duration resource = 12 + 18 * cfi - 4 - phich_inside cfi duration * phich_count resource

-- the number of control channel elements (CCEs); a CCE has nine resource-element groups (section 6.8.1)
abbrev pub element_count : ℕ → Duration → Resource → ℕ
element_count cfi duration resource = group_count cfi duration resource / 9

-- the quadruplet that PDCCH resource-element group `r`, of `count` groups, carries: quadruplets are interleaved like a
-- stream's bits (TS 36.212 section 5.1.4.2.1), and cyclically shifted by the identity
unfoldable pub quadruplet_at : ℕ → ℕ → ℕ → ℕ
quadruplet_at identity count r = slice_index_or (stream_order count) ((r + identity) % count) 0
