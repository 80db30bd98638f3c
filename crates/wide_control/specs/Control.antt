-- What the control channels of subframe 5 say about SIB1: the control format indicator, and the grants in the common
-- search space (TS 36.213 section 9.1.1).
use Rattle.std.specs.Prelude.{◌≡◌, ℕ, ◌+◌, ◌<◌, ◌≤◌, List, [], ◌∷◌, filter, Option}
use Rattle.std.specs.List.{AllZip, filter_map, flat_map}
use Rattle.pcfich.specs.Indicator.{IsIndicator}
use Rattle.wide_grid.specs.declared.candidate.Candidate.{Candidate}
use Rattle.wide_grid.specs.declared.group.WideReg.{WideReg}
use Rattle.wide_grid.specs.Candidate.{candidates, has_candidate}
use Rattle.wide_grid.specs.Control.{element_count}
use Rattle.wide_grant.specs.declared.grant.WideGrant.{WideGrant}
use Rattle.wide_slot.specs.Slot.{WideSeen}
use Rattle.wide_control.specs.declared.format.DciFormat.{DciFormat}
use Rattle.wide_control.specs.declared.format.DciFormat.TheVariants.{Format1A, Format1C}
use Rattle.wide_control.specs.Offer.{IsOffer}
use Rattle.wide_control.specs.Values.{indicator_values, candidate_values, ordered_groups}

-- a search: a candidate, and the format in which its word is decoded
pub record Search : Type 0 where
  pub candidate : Candidate
  pub format : DciFormat

-- a candidate's searches: format 1A, then format 1C (own)
abbrev pub searches_of : Candidate → List Search
searches_of c = record { candidate = c; format = Format1A } ∷ record { candidate = c; format = Format1C } ∷ []

-- the searches for those of a list of candidates that a PDCCH with `count` control channel elements has
abbrev pub searches_among : ℕ → List Candidate → List Search
searches_among count list = flat_map searches_of (filter (has_candidate count) list)

-- the searches in a PDCCH with `count` control channel elements, in order
abbrev pub searches : ℕ → List Search
searches count = searches_among count candidates

-- `found` is the grant that a search finds, or none; `groups` are the PDCCH groups in quadruplet order
abbrev pub Finds : WideSeen → ℕ → List WideReg → Search → Option WideGrant → Type 0
Finds slot sfn groups search found =
    IsOffer slot.cell.blocks sfn (candidate_values slot groups search.candidate) search.format found

-- the grants among what a list of searches found, in order
abbrev pub grants_among : List (Option WideGrant) → List WideGrant
grants_among founds = filter_map (λ found. found) founds

-- `grants` are the grants that the searches of a list find, in order
pub record AreGrants (slot : WideSeen) (sfn : ℕ) (groups : List WideReg) (list : List Search)
    (grants : List WideGrant) : Type 0 where
  pub founds : List (Option WideGrant)
  pub each : AllZip (Finds slot sfn groups) list founds
  pub given : grants ≡ grants_among founds

-- ---- bounds

-- a grant's run ends at block 1,000 at most, and its redundancy version is 0 to 3
pub record IsBounded (grant : WideGrant) : Type 0 where
  pub run : grant.run.start + grant.run.blocks ≤ 1000
  pub version : grant.rv < 4

-- ---- the control channels

-- what the control channels of a subframe say: the control format indicator, the number of control channel elements,
-- and the grants
pub record SeenControl : Type 0 where
  pub cfi : ℕ
  pub elements : ℕ
  pub grants : List WideGrant

-- `control` is what the control channels say in the subframe with this first slot, in frame `sfn`
pub record IsControl (slot : WideSeen) (sfn : ℕ) (control : SeenControl) : Type 0 where
  pub indicator : IsIndicator (indicator_values slot) control.cfi
  pub elements : control.elements ≡ element_count slot.cell control.cfi
  pub grants : AreGrants slot sfn (ordered_groups slot.cell control.cfi) (searches control.elements) control.grants
