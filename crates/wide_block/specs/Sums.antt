-- The soft values of a grant in subframe 5, at any bandwidth, and their sums by coded bit, in one frame and in several
-- (TS 36.211 sections 6.3.1 and 6.4, TS 36.212 section 5.1.4.1).
use Rattle.std.specs.Prelude.{ℕ, ◌+◌, true, false, nat_eq, List, ◌++◌, take, replicate, ℤ, pos, ◌+ℤ◌, Option, None, Some}
use Rattle.std.specs.List.{find, fold}
use Rattle.std.specs.Option.{option_map}
use Rattle.finite.specs.Lists.{values_below}
use Rattle.finite.specs.Tables.{sum_at}
use Rattle.cs_num.specs.Rounding.{clamped}
use Rattle.grid_map.specs.Scrambling.{pdsch_c_init}
use Rattle.dci.specs.Fields.{system_information_rnti}
use Rattle.soft_bits.specs.Places.{descrambled}
use Rattle.turbo_code.specs.declared.rows.Row.{Row}
use Rattle.turbo_code.specs.Table.{rows, further_rows}
use Rattle.turbo_code.specs.Reading.{summed}
use Rattle.wide_cell.specs.declared.place.WidePlace.{WidePlace}
use Rattle.wide_cell.specs.Cell.{Cell}
use Rattle.wide_grid.specs.Pdsch.{pdsch_places}
use Rattle.wide_grant.specs.declared.grant.WideGrant.{WideGrant}
use Rattle.wide_grant.specs.Grants.{allocated_blocks}
use Rattle.wide_slot.specs.Slot.{WideSeen}
use Rattle.wide_slot.specs.Values.{placed_values}

-- ---- one frame

-- the resource elements that a grant allocates
abbrev pub grant_places : Cell → ℕ → WideGrant → List WidePlace
grant_places cell cfi grant =
    pdsch_places cell cfi (allocated_blocks cell.blocks grant false) (allocated_blocks cell.blocks grant true)

-- the descrambled soft values of a grant: two for each of its first 2,880 resource elements (own), in a subframe with a
-- first and a second slot
unfoldable pub shared_values : WideSeen → WideSeen → ℕ → WideGrant → List ℤ
shared_values first second cfi grant =
    descrambled (pdsch_c_init first.cell.identity first.slot.number system_information_rnti) 0
    (placed_values first second (take 2880 (grant_places first.cell cfi grant)))

-- the turbo code's row for a transport block of `size` bits and its 24 CRC bits, if either table has one
unfoldable pub row_for : ℕ → Option Row
row_for size = find (λ row. nat_eq row.k (size + 24)) (rows ++ further_rows)

-- the sums of a grant's soft values by coded bit, with rate matching from the grant's redundancy version
abbrev pub grant_sums : WideSeen → WideSeen → ℕ → WideGrant → Row → List (List ℤ)
grant_sums first second cfi grant row = summed row.k grant.rv (shared_values first second cfi grant)

-- a grant, and the sums of its soft values by coded bit; no sums if the transport block is too large
pub record Offer : Type 0 where
  pub grant : WideGrant
  pub sums : Option (List (List ℤ))

-- a grant in a subframe with a first and a second slot, with its sums
unfoldable pub offer_of : WideSeen → WideSeen → ℕ → WideGrant → Offer
offer_of first second cfi grant =
    record { grant = grant; sums = option_map (grant_sums first second cfi grant) (row_for grant.size) }

-- ---- several frames (own)

-- the sum 0 for each coded bit
unfoldable pub zero_sums : List (List ℤ)
zero_sums = replicate 3 (replicate 1028 (pos 0))

-- two sums for each coded bit, added
unfoldable pub plus : List (List ℤ) → List (List ℤ) → List (List ℤ)
plus a b = values_below 3 (λ t. values_below 1028 (λ i. sum_at a t i +ℤ sum_at b t i))

-- sums with those of an offer added, if the offer has any
abbrev pub plus_any : List (List ℤ) → Option (List (List ℤ)) → List (List ℤ)
plus_any sums None = sums
plus_any sums (Some more) = plus sums more

-- the sums of several offers, added
abbrev pub total : List Offer → List (List ℤ)
total offers = fold (λ sums offer. plus_any sums offer.sums) zero_sums offers

-- sums, clamped to -4,096 to 4,096
unfoldable pub limited : List (List ℤ) → List (List ℤ)
limited sums = values_below 3 (λ t. values_below 1028 (λ i. clamped (sum_at sums t i) 4096))

-- the sums of several offers, added and then clamped
abbrev pub added : List Offer → List (List ℤ)
added offers = limited (total offers)

-- a number of offers, and their sums, added and not yet clamped
pub record Adding : Type 0 where
  pub count : ℕ
  pub sums : List (List ℤ)
