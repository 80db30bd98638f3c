-- The answer of a spoken frame alone is the sent fields.
use Rattle.std.proofs.Common.{◌≡◌, ◌∙◌, ℕ, zero, suc, ◌%◌, List, [], ◌∷◌, ◌++◌, map, All, Option, Some, None, Result, Ok, Err, ap, subst, arith}
use Rattle.std.specs.List.{AllZip, AllWithin, HoldsAt}
use Rattle.std.proofs.lemmas.List.{map-append}
use Rattle.std.proofs.lemmas.List.Elements.{All-map}
use Rattle.lte_types.specs.declared.sib1.Sib1.{Sib1}
use Rattle.lte_types.specs.declared.sib1_reason.Sib1Reason.{Sib1Reason}
use Rattle.wide_grant.specs.declared.grant.WideGrant.{WideGrant}
use Rattle.wide_slot.specs.Slot.{WideSeen}
use Rattle.wide_control.specs.Values.{ordered_groups}
use Rattle.wide_control.specs.Control.{Search, Finds, grants_among}
use Rattle.wide_block.specs.Sums.{Offer, offer_of}
use Rattle.wide_list.specs.First.{HasNone, IsFirstOf}
use Rattle.wide_list.specs.Frames.{Frame, HasFields, AnswersAlone}
use Rattle.wide_list.proofs.Same.{one_fields}
use Rattle.wide_list.proofs.Exists.{some_answer_alone}
use Rattle.wide_spoken.specs.Sent.{Sent}
use Rattle.wide_spoken.specs.Spoken.{FindsNoOther}
use Rattle.wide_spoken.specs.Laws.{SpokenFrameIsRead}
use Rattle.wide_spoken.proofs.Grants.{HasGrantAt, grant_at}
use Rattle.wide_spoken.proofs.Blocks.{spoken_block_is_read}

-- ---- lists

all_cons : {A : Type 0} (P : A → Type 0) (x : A) (xs : List A) → P x → All P xs → All P (x ∷ xs)
all_cons P x xs here rest zero d inside = here
all_cons P x xs here rest (suc k) d inside = rest k d (omega (arith, inside))

all_tail : {A : Type 0} (P : A → Type 0) (x : A) (xs : List A) → All P (x ∷ xs) → All P xs
all_tail P x xs all k d inside = all (suc k) d (omega (arith, inside))

module _ {A B : Type 0} (Has : A → B → Type 0) (value : B) where
  -- an item has no other value
  abbrev pub HasNoOther : A → Type 0
  HasNoOther item = (other : B) → Has item other → other ≡ value

  -- the first value is that of an item, if this item and the items before it have no other value
  first_at : (before : List A) (item : A) (after : List A) (first : B) (at : ℕ) → All HasNoOther before → HasNoOther item → Has item value →
      HoldsAt (λ x. Has x first) (before ++ item ∷ after) at → AllWithin (HasNone Has) (before ++ item ∷ after) 0 at → first ≡ value
  first_at [] item after first zero earlier one has is none = one first (is item)
  first_at [] item after first (suc k) earlier one has is none = absurd (none 0 item (omega arith) (omega arith) value has)
  first_at (x ∷ before) item after first zero earlier one has is none = earlier 0 x (omega arith) first (is x)
  first_at (x ∷ before) item after first (suc k) earlier one has is none =
      first_at before item after first k (all_tail HasNoOther x before earlier) one has is
      (λ j d low high. none (suc j) d (omega arith) (omega (arith, high)))

  pub first_is : (before : List A) (item : A) (after : List A) (first : B) → All HasNoOther before → HasNoOther item → Has item value →
      IsFirstOf Has (before ++ item ∷ after) first → first ≡ value
  first_is before item after first earlier one has is = first_at before item after first is.at earlier one has is.has is.none

-- ---- the offers before the sent one

module _ (first second : WideSeen) (sfn : ℕ) (sent : Sent) where
  abbrev sent_offer : WideGrant → Offer
  sent_offer = offer_of first second sent.cfi

  abbrev NoOther : WideGrant → Type 0
  NoOther grant = HasNoOther HasFields sent.fields (sent_offer grant)

  none_other : (before : List Search) (early : List (Option WideGrant)) →
      AllZip (Finds first sfn (ordered_groups first.cell sent.cfi)) before early → All (FindsNoOther first second sfn sent) before →
      All NoOther (grants_among early)
  none_other [] [] found earlier = λ k d inside. absurd (omega (arith, inside))
  none_other [] (x ∷ early) found earlier = absurd found
  none_other (search ∷ before) [] found earlier = absurd found
  none_other (search ∷ before) (Some grant ∷ early) found earlier =
      all_cons NoOther grant (grants_among early) (λ fields has. earlier 0 search (omega arith) grant fields found.0 has)
      (none_other before early found.1 (all_tail (FindsNoOther first second sfn sent) search before earlier))
  none_other (search ∷ before) (None ∷ early) found earlier =
      none_other before early found.1 (all_tail (FindsNoOther first second sfn sent) search before earlier)

-- the offers of a list of grants with the sent grant in the middle
abbrev offers_around : (WideGrant → Offer) → List WideGrant → WideGrant → List WideGrant → List Offer
offers_around offer before grant after = map offer before ++ offer grant ∷ map offer after

-- the frame's first fields are the sent ones
alone_is : (offers before after : List Offer) (offer : Offer) (fields : Sib1) (elements period : ℕ) (answer : Result Sib1 Sib1Reason) →
    offers ≡ before ++ offer ∷ after → All (HasNoOther HasFields fields) before → HasFields offer fields →
    AnswersAlone (record { period = period; elements = elements; offers = offers }) answer → answer ≡ Ok fields
alone_is offers before after offer fields elements period (Ok other) are earlier has first =
    let same : other ≡ fields = first_is HasFields fields before offer after other earlier (λ f h. one_fields offer f fields h has) has
    (subst (λ (l : List Offer). IsFirstOf HasFields l other) are first) in
    ap (λ (f : Sib1). Ok f) same
alone_is offers before after offer fields elements period (Err reason) are earlier has unread =
    absurd (middle before (subst (λ (l : List Offer). All (HasNone HasFields) l) are unread.none) fields has)
  where
    middle : (list : List Offer) → All (HasNone HasFields) (list ++ offer ∷ after) → HasNone HasFields offer
    middle [] all = all 0 offer (omega arith)
    middle (x ∷ list) all = middle list (all_tail (HasNone HasFields) x (list ++ offer ∷ after) all)

pub spoken_frame_is_read : SpokenFrameIsRead
spoken_frame_is_read first second number sent frame spoken offered = by (some_answer_alone frame)
  where
    at : HasGrantAt first (number % 1024) sent offered.control
    at = grant_at first (number % 1024) sent spoken.control spoken.control_spoken offered.control offered.decoded

    offer : WideGrant → Offer
    offer = offer_of first second sent.cfi

    has : HasFields (offer sent.grant) sent.fields
    has = spoken_block_is_read first second (number % 1024) sent spoken.control spoken.block spoken.block_spoken

    are : frame.offers ≡ map offer (grants_among at.early) ++ offer sent.grant ∷ map offer (grants_among at.late)
    are =
        ap (λ (f : Frame). f.offers) offered.is
        ∙ ap (λ cfi. map (offer_of first second cfi) offered.control.grants) at.indicator
        ∙ ap (map offer) at.are
        ∙ map-append offer (grants_among at.early) (sent.grant ∷ grants_among at.late)

    earlier : All (HasNoOther HasFields sent.fields) (map offer (grants_among at.early))
    earlier =
        All-map (HasNoOther HasFields sent.fields) offer (grants_among at.early)
        (none_other first second (number % 1024) sent sent.before at.early at.each spoken.earlier)

    by : (answer : Result Sib1 Sib1Reason) × AnswersAlone frame answer → AnswersAlone frame (Ok sent.fields)
    by (answer, answers) =
        subst (AnswersAlone frame)
        (alone_is frame.offers (map offer (grants_among at.early)) (map offer (grants_among at.late)) (offer sent.grant) sent.fields frame.elements frame.period answer are earlier has answers)
        answers
