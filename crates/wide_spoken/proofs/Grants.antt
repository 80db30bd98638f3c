-- The grants that the searches find: those before the sent one, the sent one, and those after it.
use Rattle.std.proofs.Common.{◌≡◌, ◌∙◌, ℕ, suc, List, [], ◌∷◌, ◌++◌, All, Option, Some, ap, refl, sym, subst, arith}
use Rattle.std.specs.List.{AllZip, Contains}
use Rattle.std.proofs.lemmas.List.Elements.{filter_map-append, Contains-append_right}
use Rattle.pcfich.proofs.Indicators.{spoken_indicator}
use Rattle.wide_grid.specs.Control.{element_count}
use Rattle.wide_grant.specs.declared.grant.WideGrant.{WideGrant}
use Rattle.wide_slot.specs.Slot.{WideSeen}
use Rattle.wide_control.specs.Values.{indicator_values, ordered_groups}
use Rattle.wide_control.specs.Control.{Search, searches, Finds, grants_among, AreGrants, SeenControl, IsControl}
use Rattle.wide_spoken.specs.Sent.{Sent, IsControlSent}
use Rattle.wide_spoken.specs.Spoken.{IsControlSpoken}
use Rattle.wide_spoken.specs.Laws.{SpokenGrantIsFound}
use Rattle.wide_spoken.proofs.Sizes.{IsInside, searches_inside}
use Rattle.wide_spoken.proofs.Words.{found_is}

-- ---- lists

-- what holds of all items holds of one in the middle
middle : {A : Type 0} (P : A → Type 0) (before : List A) (x : A) (after : List A) → All P (before ++ x ∷ after) → P x
middle P [] x after all = all 0 x (omega arith)
middle P (y ∷ before) x after all = middle P before x after (λ k d inside. all (suc k) d (omega (arith, inside)))

-- the items that are related to those of a list with `x` in the middle
record IsSplit {A B : Type 0} (R : A → B → Type 0) (before : List A) (x : A) (ys : List B) : Type 0 where
  pub early : List B
  pub here : B
  pub late : List B
  pub are : ys ≡ early ++ here ∷ late
  pub each : AllZip R before early
  pub related : R x here

split : {A B : Type 0} (R : A → B → Type 0) (before : List A) (x : A) (after : List A) (ys : List B) → AllZip R (before ++ x ∷ after) ys →
    IsSplit R before x ys
split R [] x after [] all = absurd all
split R [] x after (y ∷ ys) all = record { early = []; here = y; late = ys; are = refl; each = tt; related = all.0 }
split R (b ∷ before) x after [] all = absurd all
split R (b ∷ before) x after (y ∷ ys) all =
    let rest = split R before x after ys all.1 in
    record { early = y ∷ rest.early; here = rest.here; late = rest.late; are = ap (λ l. y ∷ l) rest.are; each = (all.0, rest.each); related = rest.related }

-- ---- the grants

-- the content of the control channels: `early` is what the searches before the sent one find
pub record HasGrantAt (slot : WideSeen) (sfn : ℕ) (sent : Sent) (control : SeenControl) : Type 0 where
  pub indicator : control.cfi ≡ sent.cfi
  pub early : List (Option WideGrant)
  pub late : List (Option WideGrant)
  pub each : AllZip (Finds slot sfn (ordered_groups slot.cell sent.cfi)) sent.before early
  pub are : control.grants ≡ grants_among early ++ sent.grant ∷ grants_among late

module _ (slot : WideSeen) (sfn : ℕ) (sent : Sent) (control : IsControlSent slot.cell sfn sent) (spoken : IsControlSpoken slot sent) where
  inside : IsInside (element_count slot.cell sent.cfi) sent.search
  inside =
      middle (IsInside (element_count slot.cell sent.cfi)) sent.before sent.search sent.after
      (subst (λ (list : List Search). All (IsInside (element_count slot.cell sent.cfi)) list) control.order (searches_inside (element_count slot.cell sent.cfi)))

  abbrev FoundBy : Search → Option WideGrant → Type 0
  FoundBy = Finds slot sfn (ordered_groups slot.cell sent.cfi)

  split_grants : (grants : List WideGrant) (founds : List (Option WideGrant)) → grants ≡ grants_among founds →
      (s : IsSplit FoundBy sent.before sent.search founds) → grants ≡ grants_among s.early ++ sent.grant ∷ grants_among s.late
  split_grants grants founds given s =
      let here : s.here ≡ Some sent.grant = found_is slot sfn sent s.here control inside spoken s.related in
      given ∙ ap grants_among (s.are ∙ ap (λ (found : Option WideGrant). s.early ++ found ∷ s.late) here)
      ∙ filter_map-append (λ (found : Option WideGrant). found) s.early (Some sent.grant ∷ s.late)

  pub grant_at : (seen : SeenControl) → IsControl slot sfn seen → HasGrantAt slot sfn sent seen
  grant_at seen is =
      let same : seen.cfi ≡ sent.cfi = spoken_indicator (indicator_values slot) sent.cfi seen.cfi control.indicator.0 control.indicator.1 spoken.indicator is.indicator in
      let list : searches seen.elements ≡ sent.before ++ sent.search ∷ sent.after =
      ap searches (is.elements ∙ ap (element_count slot.cell) same) ∙ control.order in
      let are : AreGrants slot sfn (ordered_groups slot.cell sent.cfi) (sent.before ++ sent.search ∷ sent.after) seen.grants =
      subst (λ (l : List Search). AreGrants slot sfn (ordered_groups slot.cell sent.cfi) l seen.grants) list
      (subst (λ cfi. AreGrants slot sfn (ordered_groups slot.cell cfi) (searches seen.elements) seen.grants) same is.grants) in
      let s = split FoundBy sent.before sent.search sent.after are.founds are.each in
      record { indicator = same; early = s.early; late = s.late; each = s.each; are = split_grants seen.grants are.founds are.given s }

pub spoken_grant_is_found : SpokenGrantIsFound
spoken_grant_is_found slot sfn sent seen control spoken is =
    let at = grant_at slot sfn sent control spoken seen is in
    record {
      indicator = at.indicator;
      grant = subst (λ (grants : List WideGrant). Contains grants sent.grant) (sym at.are)
          (Contains-append_right (grants_among at.early) (sent.grant ∷ grants_among at.late) sent.grant (0, omega arith, refl));
    }
