-- A recording has one answer for an identity.
use Rattle.std.proofs.Common.{◌≡◌, ℕ, ◌%◌, Bool, true, false, List, [], ◌∷◌, ap, ap₂, sym, subst, ◌∙◌}
use Rattle.std.specs.Prelude.{MatchBool, nat_eq, filter}
use Rattle.cs_num.specs.declared.Sample.{Sample}
use Rattle.lte_types.specs.Frames.{frames_from}
use Rattle.lte_types.specs.declared.entry.Entry.{Entry}
use Rattle.lte_types.specs.declared.hit.Hit.{Hit}
use Rattle.pss_search.specs.Correlation.{energy, peak}
use Rattle.pss_search.specs.Hits.{hits_of}
use Rattle.pss_search.proofs.Stronger.{one_strongest}
use Rattle.explain.specs.Receiver.{Receiver, has_step_before, place_by, sums_by}
use Rattle.explain.proofs.Listed.{each_once, is_one_list}
use Rattle.reasons.specs.declared.reason.Attempt.{Attempt}
use Rattle.reasons.specs.declared.reason.Reason.{Reason}
use Rattle.reasons.specs.declared.reason.Reason.TheVariants.{NoHit, NoMib}
use Rattle.reasons.proofs.Closest.{one_closest}
use Rattle.reasons.specs.Reason.{has_identity, has_root, ratio_of, no_room, HasNoHit, HasNoMib, IsFirstFailing, AreReasons}
use Rattle.reasons.specs.Laws.{HasOneReason}
use Rattle.reasons.specs.Strongest.{thousandths}

-- ---- hits

one_missing : (receiver : Receiver) (recording : List Sample) (hit : Hit) (a b : Reason) → HasNoMib receiver recording hit a → HasNoMib receiver recording hit b → a ≡ b
one_missing receiver recording hit a b p q =
    let place = place_by receiver.carrier recording hit in
    p.is ∙ ap (λ (attempt : Attempt). NoMib (record { t = hit.t; ratio = ratio_of hit; start = place.start; attempt = attempt }))
    (one_closest (λ phase. sums_by receiver recording place (frames_from 1 0 phase)) 4 p.attempt q.attempt p.closest q.closest) ∙ sym q.is

-- what is one in each case is one
one_by : (room same : Bool) (Is : Reason → Type 0) (x y a b : Reason) → (Is a → Is b → a ≡ b) → MatchBool room (MatchBool same (Is a) (a ≡ x)) (a ≡ y) →
    MatchBool room (MatchBool same (Is b) (b ≡ x)) (b ≡ y) → a ≡ b
one_by true true Is x y a b one p q = one p q
one_by true false Is x y a b one p q = p ∙ sym q
one_by false same Is x y a b one p q = p ∙ sym q

one_failing : (receiver : Receiver) (recording : List Sample) (identity : ℕ) (hit : Hit) (a b : Reason) → IsFirstFailing receiver recording identity hit a →
    IsFirstFailing receiver recording identity hit b → a ≡ b
one_failing receiver recording identity hit a b p q =
    one_by (has_step_before receiver.carrier hit) (nat_eq (place_by receiver.carrier recording hit).id identity) (HasNoMib receiver recording hit)
    _ (no_room receiver.carrier hit) a b (one_missing receiver recording hit a b) p q

-- only one place is the strongest
one_no_hit : (recording : List Sample) (n2 : ℕ) (a b : List Reason) → HasNoHit recording n2 a → HasNoHit recording n2 b → a ≡ b
one_no_hit recording n2 a b p q =
    let place = one_strongest recording n2 19346 p.place.t q.place.t p.strongest.strongest q.strongest.strongest in
    p.is
    ∙ ap₂ (λ (t ratio : ℕ). NoHit (record { t = t; ratio = ratio }) ∷ []) place
    (p.strongest.ratio ∙ ap (λ (t : ℕ). thousandths (peak recording n2 t) (energy recording t) n2) place ∙ sym q.strongest.ratio)
    ∙ sym q.is

-- ---- identities

one_answer : (receiver : Receiver) (recording : List Sample) (identity : ℕ) (entries : List Entry) (hits : List Hit) (a b : List Reason) →
    AreReasons receiver recording identity entries hits a → AreReasons receiver recording identity entries hits b → a ≡ b
one_answer receiver recording identity (entry ∷ entries) hits a b p q = p ∙ sym q
one_answer receiver recording identity [] [] a b p q = one_no_hit recording (identity % 3) a b p q
one_answer receiver recording identity [] (hit ∷ hits) a b p q =
    each_once (IsFirstFailing receiver recording identity) (one_failing receiver recording identity) (hit ∷ hits) a b p q

pub one_reason : HasOneReason
one_reason receiver recording identity a b p q =
    let same = is_one_list receiver recording p.list q.list p.is_list q.is_list in
    one_answer receiver recording identity (filter (has_identity identity) q.list) (filter (has_root (identity % 3)) (hits_of recording)) a b
    (subst (λ (list : List Entry). AreReasons receiver recording identity (filter (has_identity identity) list) (filter (has_root (identity % 3)) (hits_of recording)) a) same p.are) q.are
