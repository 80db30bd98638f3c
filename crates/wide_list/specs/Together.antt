-- The SIB1 fields in the frames of one period of 80 ms together: each frame carries the same transport block, so the sums
-- for its coded bits are added. (own)
use Rattle.std.specs.Prelude.{ℕ, Bool, true, false, ◌&&◌, nat_eq, if◌then◌else◌, List, filter_map, Option, None, Some, Result, Ok, ℤ}
use Rattle.std.specs.List.{find}
use Rattle.lte_types.specs.declared.sib1.Sib1.{Sib1}
use Rattle.lte_types.specs.declared.sib1_reason.Sib1Reason.{Sib1Reason}
use Rattle.wide_grant.specs.declared.grant.Mapping.{Mapping}
use Rattle.wide_grant.specs.declared.grant.Mapping.TheVariants.{Localized, FirstGap, SecondGap}
use Rattle.wide_grant.specs.declared.grant.WideGrant.{WideGrant}
use Rattle.wide_block.specs.Sums.{Offer, plus_any, added}
use Rattle.wide_block.specs.Block.{Decodes, CarriesFields, block_in}
use Rattle.wide_list.specs.First.{IsFirstOf}
use Rattle.wide_list.specs.Frames.{Frame}

-- whether two mappings are the same
abbrev pub is_same_mapping : Mapping → Mapping → Bool
is_same_mapping Localized Localized = true
is_same_mapping FirstGap FirstGap = true
is_same_mapping SecondGap SecondGap = true
is_same_mapping a b = false

-- whether two grants are alike: they allocate the same virtual resource blocks, for a transport block of the same size
abbrev pub is_alike : WideGrant → WideGrant → Bool
is_alike a b =
    is_same_mapping a.mapping b.mapping && nat_eq a.run.start b.run.start && nat_eq a.run.blocks b.run.blocks
    && nat_eq a.size b.size

-- the first offer whose grant is like a grant, if there is one
abbrev pub first_like : WideGrant → List Offer → Option Offer
first_like grant offers = find (λ offer. is_alike grant offer.grant) offers

-- a frame's first offer like a grant, if the frame is in the period and has one
abbrev pub like_in : ℕ → WideGrant → Frame → Option Offer
like_in period grant frame = if nat_eq frame.period period then first_like grant frame.offers else None

-- the offers of a period's frames that are like a grant, the first of each frame
abbrev pub like_offers : List Frame → ℕ → WideGrant → List Offer
like_offers frames period grant = filter_map (like_in period grant) frames

-- sums with those of an offer added, if there is an offer
abbrev pub with_offer : List (List ℤ) → Option Offer → List (List ℤ)
with_offer sums None = sums
with_offer sums (Some offer) = plus_any sums offer.sums

-- the answer of an offer in a period, together with the frames' offers like it
abbrev pub AnswersWith : List Frame → ℕ → Offer → Result Sib1 Sib1Reason → Type 0
AnswersWith frames period offer answer = Decodes (added (like_offers frames period offer.grant)) offer.grant.size answer

-- `fields` are the SIB1 fields in the transport block of an offer in a period, together with the frames' offers like it
abbrev pub HasFieldsWith : List Frame → ℕ → Offer → Sib1 → Type 0
HasFieldsWith frames period offer fields = AnswersWith frames period offer (Ok fields)

-- `fields` are those of a frame's first offer that has any, together with the frames' offers like it
abbrev pub HasFieldsTogether : List Frame → Frame → Sib1 → Type 0
HasFieldsTogether frames frame fields = IsFirstOf (HasFieldsWith frames frame.period) frame.offers fields

-- ---- the transport block of frames together

-- `bits` are the transport block of an offer in a period, together with the frames' offers like it, and carry SIB1
-- fields
abbrev pub HasBitsWith : List Frame → ℕ → Offer → List Bool → Type 0
HasBitsWith frames period offer bits =
    CarriesFields (block_in (added (like_offers frames period offer.grant)) offer.grant.size) bits

-- `bits` are the transport block of a frame's first offer that has fields, together with the frames' offers like it
abbrev pub HasBitsTogether : List Frame → Frame → List Bool → Type 0
HasBitsTogether frames frame bits = IsFirstOf (HasBitsWith frames frame.period) frame.offers bits
