-- A cell has an answer.
use Rattle.std.proofs.Common.{◌≡◌, ◌⊎◌, inl, inr, ℕ, zero, suc, ◌+◌, ◌%◌, ◌<◌, List, [], ◌∷◌, length, Result, Ok, Err, arith, refl, sym, subst}
use Rattle.std.proofs.lemmas.Bool.{cases_lt}
use Rattle.finite.specs.Lists.{values_below}
use Rattle.finite.proofs.Lists.{values_below-length, values_below_at}
use Rattle.lte_types.specs.declared.sib1.Sib1.{Sib1}
use Rattle.lte_types.specs.declared.sib1_reason.Sib1Reason.{Sib1Reason}
use Rattle.halving.specs.Wide.{Wide, narrowed}
use Rattle.halving.proofs.Lengths.{narrowed_between}
use Rattle.wide_cell.specs.Cell.{Cell}
use Rattle.wide_control.proofs.Exists.{some_control}
use Rattle.wide_block.specs.Sums.{Offer, added}
use Rattle.wide_block.specs.Block.{OfferSays}
use Rattle.wide_block.proofs.Once.{some_answer, some_saying}
use Rattle.explain.specs.System.{even_frame, IsTried, IsFirstRead}
use Rattle.wide_list.specs.First.{HasNone, HaveNone, IsFirstOf}
use Rattle.wide_list.specs.Frames.{Frame, frame_of, slot_at, IsFrame, IsAlone, HasFields, IsReason, reason_without, AnswersAlone}
use Rattle.wide_list.specs.Together.{like_offers, AnswersWith, HasFieldsWith, HasFieldsTogether}
use Rattle.wide_list.specs.System.{AreTried, AreUnread, IsWideSystem}
use Rattle.wide_list.specs.Laws.{IsSomeWideSystem}
use Rattle.wide_list.proofs.First.{first_of-none, first_or_none}
use Rattle.wide_list.proofs.Lengths.{tried_count, tried_below}
use Rattle.wide_list.proofs.Same.{no_fields, no_fields_with, not_alone}

-- ---- one frame alone

pub fields_or_not : (offer : Offer) → ((fields : Sib1) × HasFields offer fields) ⊎ HasNone HasFields offer
fields_or_not offer = by (some_saying offer)
  where
    by : (answer : Result Sib1 Sib1Reason) × OfferSays offer answer → ((fields : Sib1) × HasFields offer fields) ⊎ HasNone HasFields offer
    by (Ok fields, answers) = inl (fields, answers)
    by (Err reason, answers) = inr (no_fields offer reason answers)

some_reason : (elements : ℕ) (offers : List Offer) → HaveNone HasFields offers → (reason : Sib1Reason) × IsReason elements offers reason
some_reason elements [] none = (reason_without elements, refl)
some_reason elements (offer ∷ rest) none = by (some_saying offer)
  where
    by : (answer : Result Sib1 Sib1Reason) × OfferSays offer answer → (reason : Sib1Reason) × OfferSays offer (Err reason)
    by (Ok fields, answers) = absurd (none 0 offer (omega arith) fields answers)
    by (Err reason, answers) = (reason, answers)

pub some_answer_alone : (frame : Frame) → (answer : Result Sib1 Sib1Reason) × AnswersAlone frame answer
some_answer_alone frame = by (first_or_none HasFields fields_or_not frame.offers)
  where
    by : ((fields : Sib1) × IsFirstOf HasFields frame.offers fields) ⊎ HaveNone HasFields frame.offers → (answer : Result Sib1 Sib1Reason) × AnswersAlone frame answer
    by (inl (fields, first)) = (Ok fields, first)
    by (inr none) = let found = some_reason frame.elements frame.offers none in (Err found.0, record { none = none; first = found.1 })

-- ---- frames together

fields_with_or_not : (frames : List Frame) (period : ℕ) (offer : Offer) → ((fields : Sib1) × HasFieldsWith frames period offer fields) ⊎ HasNone (HasFieldsWith frames period) offer
fields_with_or_not frames period offer = by (some_answer (added (like_offers frames period offer.grant)) offer.grant.size)
  where
    by : (answer : Result Sib1 Sib1Reason) × AnswersWith frames period offer answer → ((fields : Sib1) × HasFieldsWith frames period offer fields) ⊎ HasNone (HasFieldsWith frames period) offer
    by (Ok fields, answers) = inl (fields, answers)
    by (Err reason, answers) = inr (no_fields_with frames period offer reason answers)

-- if no offer of a frame has fields together with others, the frame has none
pub none_together : (frames : List Frame) (frame : Frame) → HaveNone (HasFieldsWith frames frame.period) frame.offers → HasNone (HasFieldsTogether frames) frame
none_together frames frame none fields first = first_of-none (HasFieldsWith frames frame.period) frame.offers fields none first

pub together_or_not : (frames : List Frame) (frame : Frame) → ((fields : Sib1) × HasFieldsTogether frames frame fields) ⊎ HasNone (HasFieldsTogether frames) frame
together_or_not frames frame = by (first_or_none (HasFieldsWith frames frame.period) (fields_with_or_not frames frame.period) frame.offers)
  where
    by : ((fields : Sib1) × HasFieldsTogether frames frame fields) ⊎ HaveNone (HasFieldsWith frames frame.period) frame.offers →
        ((fields : Sib1) × HasFieldsTogether frames frame fields) ⊎ HasNone (HasFieldsTogether frames) frame
    by (inl found) = inl found
    by (inr none) = inr (none_together frames frame none)

-- ---- the frames of a cell

module _ (wide : Wide) (cell : Cell) (start sfn : ℕ) where
  abbrev Tried : ℕ → Type 0
  Tried = IsTried (narrowed wide) start sfn

  abbrev Alone : ℕ → Result Sib1 Sib1Reason → Type 0
  Alone i = IsAlone wide cell start sfn (even_frame sfn i)

  some_frame : (j : ℕ) → (frame : Frame) × IsFrame wide cell start sfn j frame
  some_frame j =
      let control = some_control (slot_at wide cell start j 10) ((sfn + j) % 1024) in
      (frame_of (slot_at wide cell start j 10) (slot_at wide cell start j 11) (sfn + j) control.0, record { control = control.0; decoded = control.1; is = refl })

  pub some_alone : (i : ℕ) → (answer : Result Sib1 Sib1Reason) × Alone i answer
  some_alone i =
      let frame = some_frame (even_frame sfn i) in
      let answer = some_answer_alone frame.0 in (answer.0, record { frame = frame.0; is = frame.1; answers = answer.1 })

  tried_or_not : (i : ℕ) → Tried i ⊎ (Tried i → ⊥)
  tried_or_not i = elim (cases_lt i (tried_count (length (narrowed wide)) start sfn)) [
    | inl below ↦ inl ((tried_below (narrowed wide) start sfn i).0 below)
    | inr above ↦ inr (λ tried. let below = (tried_below (narrowed wide) start sfn i).1 tried in absurd (omega (arith, above, below)))
  ]

  -- frames before a tried frame are tried
  earlier : (h i : ℕ) → h < i → Tried i → Tried h
  earlier h i before tried = let among = tried.among in let whole = tried.whole in record { among = omega (arith, before, among); whole = omega (arith, before, whole) }

  -- no tried frame before frame n has fields alone
  abbrev NoneBefore : ℕ → Type 0
  NoneBefore n = (i : ℕ) (fields : Sib1) → i < n → Tried i → Alone i (Ok fields) → ⊥

  abbrev FirstRead : Type 0
  FirstRead = (fields : Sib1) × IsFirstRead (IsAlone wide cell start sfn) (narrowed wide) start sfn fields

  untried : (n : ℕ) → NoneBefore n → (Tried n → ⊥) → NoneBefore (suc n)
  untried n none not i fields below tried alone = elim (cases_lt i n) [
    | inl before ↦ none i fields before tried alone
    | inr above ↦ let same : i ≡ n = omega (arith, below, above) in not (subst Tried same tried)
  ]

  with_reason : (n : ℕ) (reason : Sib1Reason) → NoneBefore n → Alone n (Err reason) → NoneBefore (suc n)
  with_reason n reason none refused i fields below tried alone = elim (cases_lt i n) [
    | inl before ↦ none i fields before tried alone
    | inr above ↦ let same : i ≡ n = omega (arith, below, above) in
        not_alone wide cell start sfn (even_frame sfn n) fields reason (subst (λ i. Alone i (Ok fields)) same alone) refused
  ]

  first_at : (n : ℕ) (fields : Sib1) → NoneBefore n → Tried n → Alone n (Ok fields) → IsFirstRead (IsAlone wide cell start sfn) (narrowed wide) start sfn fields
  first_at n fields none tried alone =
      record { i = n; tried = tried; answers = alone; first = λ h other before a. none h other before (earlier h n before tried) a }

  read_or_none : (n : ℕ) → FirstRead ⊎ NoneBefore n
  read_or_none zero = inr (λ i fields below. absurd (omega (arith, below)))
  read_or_none (suc n) = by (read_or_none n) (tried_or_not n) (some_alone n)
    where
      by : FirstRead ⊎ NoneBefore n → Tried n ⊎ (Tried n → ⊥) → (answer : Result Sib1 Sib1Reason) × Alone n answer → FirstRead ⊎ NoneBefore (suc n)
      by (inl found) tried answer = inl found
      by (inr none) (inr not) answer = inr (untried n none not)
      by (inr none) (inl tried) (Ok fields, alone) = inl (fields, first_at n fields none tried alone)
      by (inr none) (inl tried) (Err reason, alone) = inr (with_reason n reason none alone)

  -- ---- the frames that are tried

  abbrev tried_frames : List Frame
  tried_frames = values_below (tried_count (length (narrowed wide)) start sfn) (λ i. (some_frame (even_frame sfn i)).0)

  frames_are_tried : AreTried wide cell start sfn tried_frames
  frames_are_tried =
      let count = tried_count (length (narrowed wide)) start sfn in
      let frame : ℕ → Frame = λ i. (some_frame (even_frame sfn i)).0 in
      let size = values_below-length count frame in
      record {
        tried = λ i. (
          (λ below. (tried_below (narrowed wide) start sfn i).0 (omega (arith, below, size))),
          (λ tried. let below = (tried_below (narrowed wide) start sfn i).1 tried in omega (arith, below, size)),
        );
        each = λ i inside d. subst (IsFrame wide cell start sfn (even_frame sfn i)) (sym (values_below_at frame count i d (omega (arith, inside, size)))) (some_frame (even_frame sfn i)).1;
      }

  pub some_tried : (frames : List Frame) × AreTried wide cell start sfn frames
  some_tried = (tried_frames, frames_are_tried)

  unread : (reason : Sib1Reason) → NoneBefore 8 → Alone 0 (Err reason) → AreUnread wide cell start sfn reason tried_frames
  unread reason none refused = record {
    tried = frames_are_tried;
    alone = record { none = λ i fields tried a. none i fields tried.among tried a; refused = refused };
  }

  abbrev Answered : Type 0
  Answered = (answer : Result Sib1 Sib1Reason) × IsWideSystem wide cell start sfn answer

  from_unread : (reason : Sib1Reason) → AreUnread wide cell start sfn reason tried_frames → Answered
  from_unread reason are = by (first_or_none (HasFieldsTogether tried_frames) (together_or_not tried_frames) tried_frames)
    where
      by : ((fields : Sib1) × IsFirstOf (HasFieldsTogether tried_frames) tried_frames fields) ⊎ HaveNone (HasFieldsTogether tried_frames) tried_frames → Answered
      by (inl (fields, first)) = (Ok fields, inr (record { reason = reason; frames = tried_frames; unread = are; first = first }))
      by (inr none) = (Err reason, record { frames = tried_frames; unread = are; none = none })

  some_of : Tried 0 → Answered
  some_of tried = by (read_or_none 8) (some_alone 0)
    where
      by : FirstRead ⊎ NoneBefore 8 → (answer : Result Sib1 Sib1Reason) × Alone 0 answer → Answered
      by (inl (fields, first)) answer = (Ok fields, inl first)
      by (inr none) (Ok fields, alone) = absurd (none 0 fields (omega arith) tried alone)
      by (inr none) (Err reason, alone) = from_unread reason (unread reason none alone)

pub some_wide_system : IsSomeWideSystem
some_wide_system wide cell start sfn valid early =
    let long = (narrowed_between wide valid).0 in some_of wide cell start sfn (record { among = omega arith; whole = omega (arith, long, early) })
