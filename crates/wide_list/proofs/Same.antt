-- Uniqueness: of what a frame offers and of its answer, of the frames that are tried, and of the answer.
use Rattle.std.proofs.Common.{◌≡◌, ◌⊎◌, inl, inr, ℕ, ◌+◌, ◌%◌, ◌<◌, ◌≤◌, List, [], ◌∷◌, length, get_or, Result, Ok, Err, arith, ap, sym, subst, ◌∙◌}
use Rattle.std.proofs.lemmas.Bool.{cases_lt}
use Rattle.std.proofs.lemmas.List.{ext_get_or}
use Rattle.lte_types.specs.declared.sib1.Sib1.{Sib1}
use Rattle.lte_types.specs.declared.sib1_reason.Sib1Reason.{Sib1Reason}
use Rattle.halving.specs.Wide.{Wide, narrowed}
use Rattle.wide_cell.specs.Cell.{Cell}
use Rattle.wide_slot.specs.Slot.{WideSeen}
use Rattle.wide_control.proofs.Once.{one_control}
use Rattle.wide_block.specs.Sums.{Offer, added}
use Rattle.wide_block.specs.Block.{OfferSays}
use Rattle.wide_block.proofs.Once.{one_answer, one_saying}
use Rattle.explain.specs.System.{even_frame, IsTried, IsFirstRead}
use Rattle.wide_list.specs.Frames.{Frame, frame_of, IsOffered, IsAlone, HasFields, IsReason, AnswersAlone}
use Rattle.wide_list.specs.Together.{like_offers, AnswersWith, HasFieldsWith, HasFieldsTogether}
use Rattle.wide_list.specs.System.{AreTried, AreUnread, IsReadTogether, IsNotRead, IsWideSystem}
use Rattle.wide_list.specs.Laws.{IsOneWideSystem}
use Rattle.wide_list.specs.First.{IsFirstOf}
use Rattle.wide_list.proofs.First.{first_of-none, one_first_of}

-- ---- answers

abbrev answer_with : Sib1 → Result Sib1 Sib1Reason
answer_with fields = Ok fields

abbrev reason_with : Sib1Reason → Result Sib1 Sib1Reason
reason_with reason = Err reason

pub same_fields : (a b : Sib1) → answer_with a ≡ answer_with b → a ≡ b
same_fields a b e = cc

same_reasons : (a b : Sib1Reason) → reason_with a ≡ reason_with b → a ≡ b
same_reasons a b e = cc

pub not_both : (fields : Sib1) (reason : Sib1Reason) → answer_with fields ≡ reason_with reason → ⊥
not_both fields reason e = absurd cc

-- ---- one frame

-- a frame offers one thing
pub one_frame : (first second : WideSeen) (number : ℕ) (a b : Frame) → IsOffered first second number a → IsOffered first second number b → a ≡ b
one_frame first second number a b x y =
    x.is ∙ ap (frame_of first second number) (one_control first (number % 1024) x.control y.control x.decoded y.decoded) ∙ sym y.is

-- an offer has at most one set of fields
pub one_fields : (offer : Offer) (a b : Sib1) → HasFields offer a → HasFields offer b → a ≡ b
one_fields offer a b s t = same_fields a b (one_saying offer (Ok a) (Ok b) s t)

one_reason : (elements : ℕ) (offers : List Offer) (a b : Sib1Reason) → IsReason elements offers a → IsReason elements offers b → a ≡ b
one_reason elements [] a b s t = s ∙ sym t
one_reason elements (offer ∷ rest) a b s t = same_reasons a b (one_saying offer (Err a) (Err b) s t)

alone_once : (frame : Frame) (a b : Result Sib1 Sib1Reason) → AnswersAlone frame a → AnswersAlone frame b → a ≡ b
alone_once frame (Ok x) (Ok y) s t = ap answer_with (one_first_of HasFields one_fields frame.offers x y s t)
alone_once frame (Ok x) (Err r) s t = absurd (first_of-none HasFields frame.offers x t.none s)
alone_once frame (Err q) (Ok y) s t = absurd (first_of-none HasFields frame.offers y s.none t)
alone_once frame (Err q) (Err r) s t = ap reason_with (one_reason frame.elements frame.offers q r s.first t.first)

-- an offer in a period has at most one set of fields, together with the frames' offers like it
pub one_fields_with : (frames : List Frame) (period : ℕ) (offer : Offer) (a b : Sib1) → HasFieldsWith frames period offer a → HasFieldsWith frames period offer b → a ≡ b
one_fields_with frames period offer a b s t =
    same_fields a b (one_answer (added (like_offers frames period offer.grant)) offer.grant.size (Ok a) (Ok b) s t)

-- an offer with a reason has no fields, together with the frames' offers like it
pub no_fields_with : (frames : List Frame) (period : ℕ) (offer : Offer) (reason : Sib1Reason) → AnswersWith frames period offer (Err reason) →
    (fields : Sib1) → HasFieldsWith frames period offer fields → ⊥
no_fields_with frames period offer reason s fields t =
    not_both fields reason (one_answer (added (like_offers frames period offer.grant)) offer.grant.size (Ok fields) (Err reason) t s)

-- an offer with a reason has no fields
pub no_fields : (offer : Offer) (reason : Sib1Reason) → OfferSays offer (Err reason) → (fields : Sib1) → HasFields offer fields → ⊥
no_fields offer reason s fields t = not_both fields reason (one_saying offer (Ok fields) (Err reason) t s)

together_once : (frames : List Frame) (frame : Frame) (a b : Sib1) → HasFieldsTogether frames frame a → HasFieldsTogether frames frame b → a ≡ b
together_once frames frame a b s t =
    one_first_of (HasFieldsWith frames frame.period) (one_fields_with frames frame.period) frame.offers a b s t

-- ---- the frames of a cell

abbrev pub no_frame : Frame
no_frame = record { period = 0; elements = 0; offers = [] }

module _ (wide : Wide) (cell : Cell) (start sfn : ℕ) where
  -- a frame has one answer alone
  pub one_alone : (j : ℕ) (a b : Result Sib1 Sib1Reason) → IsAlone wide cell start sfn j a → IsAlone wide cell start sfn j b → a ≡ b
  one_alone j a b x y =
      alone_once y.frame a b (subst (λ frame. AnswersAlone frame a) (one_frame _ _ (sfn + j) x.frame y.frame x.is y.is) x.answers) y.answers

  -- a frame with a reason has no fields alone
  pub not_alone : (j : ℕ) (fields : Sib1) (reason : Sib1Reason) → IsAlone wide cell start sfn j (Ok fields) → IsAlone wide cell start sfn j (Err reason) → ⊥
  not_alone j fields reason x y = not_both fields reason (one_alone j (Ok fields) (Err reason) x y)

  before_read : (a b : Sib1) (x : IsFirstRead (IsAlone wide cell start sfn) (narrowed wide) start sfn a)
      (y : IsFirstRead (IsAlone wide cell start sfn) (narrowed wide) start sfn b) → x.i < y.i → ⊥
  before_read a b x y before = y.first x.i a before x.answers

  one_read : (a b : Sib1) → IsFirstRead (IsAlone wide cell start sfn) (narrowed wide) start sfn a →
      IsFirstRead (IsAlone wide cell start sfn) (narrowed wide) start sfn b → a ≡ b
  one_read a b x y = by_order (cases_lt x.i y.i) (cases_lt y.i x.i)
    where
      by_order : (x.i < y.i) ⊎ (y.i ≤ x.i) → (y.i < x.i) ⊎ (x.i ≤ y.i) → a ≡ b
      by_order (inl before) other = absurd (before_read a b x y before)
      by_order (inr low) (inl before) = absurd (before_read b a y x before)
      by_order (inr low) (inr high) =
          let same : x.i ≡ y.i = omega (arith, low, high) in
          same_fields a b (one_alone (even_frame sfn y.i) (Ok a) (Ok b) (subst (λ i. IsAlone wide cell start sfn (even_frame sfn i) (Ok a)) same x.answers) y.answers)

  -- the frames that are tried are determined
  fewer : (a b : List Frame) → AreTried wide cell start sfn a → AreTried wide cell start sfn b → length a < length b → ⊥
  fewer a b x y less =
      let tried : IsTried (narrowed wide) start sfn (length a) = (y.tried (length a)).0 less in
      let inside = (x.tried (length a)).1 tried in absurd (omega (arith, inside))

  pub one_tried : (a b : List Frame) → AreTried wide cell start sfn a → AreTried wide cell start sfn b → a ≡ b
  one_tried a b x y = by_order (cases_lt (length a) (length b)) (cases_lt (length b) (length a))
    where
      by_order : (length a < length b) ⊎ (length b ≤ length a) → (length b < length a) ⊎ (length a ≤ length b) → a ≡ b
      by_order (inl less) other = absurd (fewer a b x y less)
      by_order (inr low) (inl less) = absurd (fewer b a y x less)
      by_order (inr low) (inr high) =
          let same : length a ≡ length b = omega (arith, low, high) in
          ext_get_or no_frame a b same
          (λ k inside. one_frame _ _ (sfn + even_frame sfn k) (get_or a k no_frame) (get_or b k no_frame) (x.each k inside no_frame) (y.each k (omega (arith, inside, same)) no_frame))

  -- fields together are determined, and there are not both fields and none
  one_together : (a b : Sib1) → IsReadTogether wide cell start sfn a → IsReadTogether wide cell start sfn b → a ≡ b
  one_together a b x y =
      let same = one_tried x.frames y.frames x.unread.tried y.unread.tried in
      one_first_of (HasFieldsTogether y.frames) (together_once y.frames) y.frames a b
      (subst (λ frames. IsFirstOf (HasFieldsTogether frames) frames a) same x.first) y.first

  not_read_together : (fields : Sib1) (reason : Sib1Reason) → IsReadTogether wide cell start sfn fields → IsNotRead wide cell start sfn reason → ⊥
  not_read_together fields reason x y =
      let same = one_tried x.frames y.frames x.unread.tried y.unread.tried in
      first_of-none (HasFieldsTogether y.frames) y.frames fields y.none (subst (λ frames. IsFirstOf (HasFieldsTogether frames) frames fields) same x.first)

  first_or_unread : (fields : Sib1) (reason : Sib1Reason) (frames : List Frame) → IsFirstRead (IsAlone wide cell start sfn) (narrowed wide) start sfn fields →
      AreUnread wide cell start sfn reason frames → ⊥
  first_or_unread fields reason frames x y = y.alone.none x.i fields x.tried x.answers

  one_of : (a b : Result Sib1 Sib1Reason) → IsWideSystem wide cell start sfn a → IsWideSystem wide cell start sfn b → a ≡ b
  one_of (Ok a) (Ok b) (inl x) (inl y) = ap answer_with (one_read a b x y)
  one_of (Ok a) (Ok b) (inl x) (inr y) = absurd (first_or_unread a y.reason y.frames x y.unread)
  one_of (Ok a) (Ok b) (inr x) (inl y) = absurd (first_or_unread b x.reason x.frames y x.unread)
  one_of (Ok a) (Ok b) (inr x) (inr y) = ap answer_with (one_together a b x y)
  one_of (Ok a) (Err r) (inl x) y = absurd (first_or_unread a r y.frames x y.unread)
  one_of (Ok a) (Err r) (inr x) y = absurd (not_read_together a r x y)
  one_of (Err q) (Ok b) x (inl y) = absurd (first_or_unread b q x.frames y x.unread)
  one_of (Err q) (Ok b) x (inr y) = absurd (not_read_together b q y x)
  one_of (Err q) (Err r) x y = one_alone (even_frame sfn 0) (Err q) (Err r) x.unread.alone.refused y.unread.alone.refused

pub one_wide_system : IsOneWideSystem
one_wide_system wide cell start sfn a b x y = one_of wide cell start sfn a b x y
