-- Laws of transport blocks and their answers.
use Rattle.std.specs.Prelude.{◌≡◌, ◌⊎◌, ◌↔◌, ℕ, ◌+◌, ◌<◌, Bool, List, ℤ, None, MatchOption, Result, Ok}
use Rattle.lte_types.specs.declared.sib1.Sib1.{Sib1}
use Rattle.lte_types.specs.declared.sib1_reason.Sib1Reason.{Sib1Reason}
use Rattle.lte_types.specs.Ranges.{IsValid}
use Rattle.turbo_code.specs.declared.rows.Row.{Row}
use Rattle.turbo_code.specs.Table.{IsAnyRow, IsAnySize}
use Rattle.wide_grant.specs.declared.grant.WideGrant.{WideGrant}
use Rattle.wide_grant.specs.Grants.{grant_1a, grant_1c}
use Rattle.wide_block.specs.Sums.{Offer, row_for}
use Rattle.wide_block.specs.Block.{Decodes, OfferSays}

-- ---- which blocks are too large

-- `row` is the only row of either table for a transport block of `size` bits and its 24 CRC bits
pub record IsRowFor (size : ℕ) (row : Row) : Type 0 where
  pub is_row : IsAnyRow row
  pub fits : row.k ≡ size + 24
  pub only : (other : Row) → IsAnyRow other → other.k ≡ size + 24 → other ≡ row

-- for each size, `row_for` is the only row of either table for that size; if there is no such row, none
abbrev pub RowsAreFound : Type 0
RowsAreFound = (size : ℕ) → MatchOption (row_for size) (IsAnySize (size + 24) → ⊥) (IsRowFor size)

-- some payload of format 1A or 1C has this grant
abbrev pub IsGiven : WideGrant → Type 0
IsGiven grant =
    ((blocks : ℕ) × (bits : List Bool) × (grant_1a blocks bits ≡ Ok grant))
    ⊎ ((blocks : ℕ) × (sfn : ℕ) × (bits : List Bool) × (grant_1c blocks sfn bits ≡ Ok grant))

-- a grant's transport block is too large exactly if it has more than 1,000 bits
abbrev pub LargeIsOver1000 : Type 0
LargeIsOver1000 = (grant : WideGrant) → IsGiven grant → (row_for grant.size ≡ None) ↔ (1000 < grant.size)

-- ---- answers

-- sums and a size have at most one answer
abbrev pub IsOneAnswer : Type 0
IsOneAnswer =
    (sums : List (List ℤ)) (size : ℕ) (a b : Result Sib1 Sib1Reason) →
    Decodes sums size a → Decodes sums size b → a ≡ b

-- any sums and size have an answer
abbrev pub IsSomeAnswer : Type 0
IsSomeAnswer = (sums : List (List ℤ)) (size : ℕ) → (answer : Result Sib1 Sib1Reason) × Decodes sums size answer

-- an offer has at most one answer
abbrev pub IsOneSaying : Type 0
IsOneSaying = (offer : Offer) (a b : Result Sib1 Sib1Reason) → OfferSays offer a → OfferSays offer b → a ≡ b

-- any offer has an answer
abbrev pub IsSomeSaying : Type 0
IsSomeSaying = (offer : Offer) → (answer : Result Sib1 Sib1Reason) × OfferSays offer answer

-- SIB1 fields that are decoded are within their ranges
abbrev pub IsReadValid : Type 0
IsReadValid = (sums : List (List ℤ)) (size : ℕ) (fields : Sib1) → Decodes sums size (Ok fields) → IsValid fields
