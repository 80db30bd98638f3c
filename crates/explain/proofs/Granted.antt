-- The indicator and the grant with which system information was read.
use Rattle.std.proofs.Common.{◌≡◌, true, false, ℕ, ◌<◌, ◌+◌, ◌≤◌, ◌⊎◌, inl, inr, List, Option, Some, None, Result, Ok, Err, refl, ap, sym, subst, ◌∙◌, arith}
use Rattle.std.specs.Prelude.{IsNone, IsErr, ◌↔◌}
use Rattle.std.specs.Result.{is_ok}
use Rattle.std.proofs.lemmas.Bool.{cases_lt}
use Rattle.cs_num.specs.declared.Sample.{Sample}
use Rattle.lte_types.specs.declared.sib1.Sib1.{Sib1}
use Rattle.lte_types.specs.declared.sib1_reason.Sib1Reason.{Sib1Reason}
use Rattle.lte_types.specs.declared.entry.Entry.{Entry}
use Rattle.lte_types.specs.declared.mib.Mib.{Mib}
use Rattle.lte_types.specs.CellPlace.{Place}
use Rattle.lte_types.specs.declared.carrier.Carrier.TheVariants.{OnePort}
use Rattle.dci.specs.declared.grant.Grant.{Grant}
use Rattle.sib1_reader.specs.declared.reading.Attempt.{Attempt}
use Rattle.sib1_reader.specs.Subframe.{Subframe}
use Rattle.sib1_reader.specs.Attempt.{IsAttempt, granted_with, granted_by}
use Rattle.sib1_reader.proofs.Once.{one_attempt}
use Rattle.sib1_reader.proofs.GrantRead.{has_read, none_read}
use Rattle.explain.specs.Decoded.{Attempting, Answering}
use Rattle.explain.proofs.Once.{AnswersOnce}
use Rattle.explain.specs.Receiver.{Subframes, one_port_receiver}
use Rattle.explain.specs.System.{even_frame, IsTried, IsReadFrom, FrameAnswers, IsSystemFor}
use Rattle.pbch.specs.declared.master.Master.{Master}
use Rattle.explain.specs.Entries.{place_of, master_of, IsInList}
use Rattle.explain.specs.Grant.{AreAttempts, IsFrameAttempt, IsReadBy, IsGrantBy, IsGrantWith, IsGrantFor, IsGrantOf, IsOneGrant}
use Rattle.explain.proofs.Information.{no_more_fields, one_system}
use Rattle.explain.proofs.Listed.{is_sound}

-- ---- frame by frame

ok_fields : (answer : Result Sib1 Sib1Reason) → is_ok answer ≡ true → (fields : Sib1) × (answer ≡ Ok fields)
ok_fields (Ok fields) is = (fields, refl)
ok_fields (Err reason) is = absurd (cc is)

ungranted : (i : ℕ) (g : Option Grant) (a : Result Sib1 Sib1Reason) (reason : Sib1Reason) → a ≡ Err reason → granted_with i g a ≡ None
ungranted i None a reason same = refl
ungranted i (Some g) (Ok fields) reason same = absurd cc
ungranted i (Some g) (Err other) reason same = refl

err_reason : (answer : Result Sib1 Sib1Reason) → is_ok answer ≡ false → (reason : Sib1Reason) × (answer ≡ Err reason)
err_reason (Ok fields) is = absurd (cc is)
err_reason (Err reason) is = (reason, refl)

module _ (Attempts : Attempting) (Answers : Answering) (are : AreAttempts Attempts Answers) (recording : List Sample) (start sfn : ℕ) where
  -- if no tried frame before number i has fields, and the attempt there has, they were read with its grant
  pub read_by : (i : ℕ) (attempt : Attempt) (fields : Sib1) → IsTried recording start sfn i → Attempts (even_frame sfn i) attempt →
      attempt.answer ≡ Ok fields → ((h : ℕ) (other : Sib1) → h < i → Answers (even_frame sfn h) (Ok other) → ⊥) →
      IsGrantBy Attempts recording start sfn (Ok fields) (granted_by attempt)
  read_by i attempt fields tried at reads none = settle (granted_by attempt) refl
    where
      settle : (o : Option (ℕ × Grant)) → granted_by attempt ≡ o → IsGrantBy Attempts recording start sfn (Ok fields) o
      settle None e = absurd (are.granted (even_frame sfn i) attempt fields at reads e)
      settle (Some decoded) e =
          let read = has_read attempt.cfi attempt.grant attempt.answer decoded e in
          record {
            i = i;
            tried = tried;
            fields = read.fields;
            attempt = subst (λ (a : Attempt). Attempts (even_frame sfn i) a) read.is at;
            first = λ h before other less is same. none h other less
                (subst (λ (answer : Result Sib1 Sib1Reason). Answers (even_frame sfn h) answer) same (are.answers (even_frame sfn h) before is));
            answers = sym reads ∙ ap (λ (a : Attempt). a.answer) read.is;
          }

  -- if an attempt has fields, and no tried frame before it has any, they are the answer, read with its grant
  pub decoded_fields : (i : ℕ) (attempt : Attempt) (sib1 : Result Sib1 Sib1Reason) (granted : Option (ℕ × Grant)) → IsTried recording start sfn i →
      Attempts (even_frame sfn i) attempt → sib1 ≡ attempt.answer → granted ≡ granted_by attempt → is_ok sib1 ≡ true →
      ((h : ℕ) (other : Sib1) → h < i → Answers (even_frame sfn h) (Ok other) → ⊥) →
      IsReadFrom Answers recording start sfn sib1 × IsGrantBy Attempts recording start sfn sib1 granted
  decoded_fields i attempt sib1 granted tried at is by ok none =
      let (fields, same) = ok_fields sib1 ok in
      let reads : attempt.answer ≡ Ok fields = sym is ∙ same in
      subst (λ (answer : Result Sib1 Sib1Reason). IsReadFrom Answers recording start sfn answer × IsGrantBy Attempts recording start sfn answer granted) (sym same) (
        record {
          i = i;
          tried = tried;
          answers = subst (λ (answer : Result Sib1 Sib1Reason). Answers (even_frame sfn i) answer) reads (are.answers (even_frame sfn i) attempt at);
          first = λ h other less answers. none h other less answers;
        },
        subst (λ (o : Option (ℕ × Grant)). IsGrantBy Attempts recording start sfn (Ok fields) o) (sym by) (read_by i attempt fields tried at reads none),
      )

  -- if the attempt on the next frame has no fields, no frame up to it has any
  pub none_more : (one : AnswersOnce Answers) (i : ℕ) (attempt : Attempt) (sib1 : Result Sib1 Sib1Reason) →
      ((h : ℕ) (other : Sib1) → h < i → Answers (even_frame sfn h) (Ok other) → ⊥) → Attempts (even_frame sfn i) attempt →
      sib1 ≡ attempt.answer → is_ok sib1 ≡ false → (h : ℕ) (other : Sib1) → h < i + 1 → Answers (even_frame sfn h) (Ok other) → ⊥
  none_more one i attempt sib1 none at is not =
      let (reason, same) = err_reason sib1 not in
      no_more_fields Answers one recording start sfn OnePort i reason none
      (subst (λ (answer : Result Sib1 Sib1Reason). Answers (even_frame sfn i) answer) (sym is ∙ same) (are.answers (even_frame sfn i) attempt at))

  -- if no tried frame has fields, the answer is the first frame's reason
  pub reported_reason : (sib1 : Result Sib1 Sib1Reason) → is_ok sib1 ≡ false → Answers (even_frame sfn 0) sib1 →
      ((i : ℕ) (fields : Sib1) → IsTried recording start sfn i → Answers (even_frame sfn i) (Ok fields) → ⊥) → IsReadFrom Answers recording start sfn sib1
  reported_reason sib1 not refused none =
      let (reason, same) = err_reason sib1 not in
      subst (λ (answer : Result Sib1 Sib1Reason). IsReadFrom Answers recording start sfn answer) (sym same)
      (record { none = none; refused = subst (λ (answer : Result Sib1 Sib1Reason). Answers (even_frame sfn 0) answer) same refused })

  -- an answer without fields has no grant
  pub none_granted_by : (attempt : Attempt) (sib1 : Result Sib1 Sib1Reason) (granted : Option (ℕ × Grant)) → is_ok sib1 ≡ false → sib1 ≡ attempt.answer →
      granted ≡ granted_by attempt → IsGrantBy Attempts recording start sfn sib1 granted
  none_granted_by attempt sib1 granted not is by =
      let (reason, same) = err_reason sib1 not in
      subst (λ (o : Option (ℕ × Grant)). IsGrantBy Attempts recording start sfn sib1 o) (sym (by ∙ ungranted attempt.cfi attempt.grant attempt.answer reason (sym is ∙ same)))
      (λ fields other. absurd (let e : ◌≡◌ {A = Result Sib1 Sib1Reason} (Err reason) (Ok fields) = sym same ∙ other in cc))

-- attempts on subframes with these values give the frames' answers
pub are_attempts : (values : Subframes) (recording : List Sample) (place : Place) (mib : Mib) → AreAttempts (IsFrameAttempt values recording place mib) (FrameAnswers values recording place mib)
are_attempts values recording place mib = record {
  answers = λ j attempt is. record { attempt = attempt; is = is; answers = refl };
  granted = λ j attempt fields is reads none. none_read (values recording place j mib.duration mib.resource) attempt.cfi attempt.grant attempt.answer fields is.follows none reads;
}

-- ---- one grant

abbrev attempt_with : ℕ × Grant → Sib1 → Attempt
attempt_with decoded f = record { cfi = decoded.0; grant = Some decoded.1; answer = Ok f }

-- for the soft values of the frames' subframes
module _ (values : ℕ → Subframe) (recording : List Sample) (start sfn : ℕ) (sib1 : Result Sib1 Sib1Reason) where
  abbrev IsFramed : Attempting
  IsFramed j attempt = IsAttempt (values j) attempt

  one_read_by : (s t : ℕ × Grant) → IsReadBy IsFramed recording start sfn sib1 s → IsReadBy IsFramed recording start sfn sib1 t → (s.0 ≡ t.0) × (s.1 ≡ t.1)
  one_read_by s t a b = by_order (cases_lt a.i b.i) (cases_lt b.i a.i)
    where
      parts : (x y : Sib1) → attempt_with s x ≡ attempt_with t y → (s.0 ≡ t.0) × (s.1 ≡ t.1)
      parts x y e = (ap (λ (t : Attempt). t.cfi) e, let same : Some s.1 ≡ Some t.1 = ap (λ (t : Attempt). t.grant) e in cc)

      by_order : (a.i < b.i) ⊎ (b.i ≤ a.i) → (b.i < a.i) ⊎ (a.i ≤ b.i) → (s.0 ≡ t.0) × (s.1 ≡ t.1)
      by_order (inl before) other = absurd (b.first a.i (attempt_with s a.fields) a.fields before a.attempt refl)
      by_order (inr low) (inl before) = absurd (a.first b.i (attempt_with t b.fields) b.fields before b.attempt refl)
      by_order (inr low) (inr high) =
          let same : a.i ≡ b.i = omega (arith, low, high) in
          parts a.fields b.fields (one_attempt (values (even_frame sfn b.i)) (attempt_with s a.fields) (attempt_with t b.fields)
          (subst (λ k. IsFramed (even_frame sfn k) (attempt_with s a.fields)) same a.attempt) b.attempt)

  one_grant_by : (a b : Option (ℕ × Grant)) → IsGrantBy IsFramed recording start sfn sib1 a → IsGrantBy IsFramed recording start sfn sib1 b → a ≡ b
  one_grant_by None None a b = refl
  one_grant_by None (Some t) a b = absurd (a b.fields b.answers)
  one_grant_by (Some s) None a b = absurd (b a.fields a.answers)
  one_grant_by (Some s) (Some t) a b = let e = one_read_by s t a b in rw (e.0, e.1) refl

one_grant_with : (values : Result Subframes Sib1Reason) (recording : List Sample) (place : Place) (sfn : ℕ) (mib : Mib) (sib1 : Result Sib1 Sib1Reason) (a b : Option (ℕ × Grant)) →
    IsGrantWith values recording place sfn mib sib1 a → IsGrantWith values recording place sfn mib sib1 b → a ≡ b
one_grant_with (Ok values) recording place sfn mib sib1 a b p q =
    one_grant_by (λ j. values recording place j mib.duration mib.resource) recording place.start sfn sib1 a b p q
one_grant_with (Err reason) recording place sfn mib sib1 a b p q = p ∙ sym q

pub one_grant_of : IsOneGrant
one_grant_of receiver recording place sfn mib sib1 a b p q = one_grant_with receiver.subframe recording place sfn mib sib1 a b p q

-- ---- the grant of an entry

-- reading a listed entry again gives the same grant
pub grant_decoded : (recording : List Sample) (entry : Entry) (place : Place) (master : Master) (sib1 : Result Sib1 Sib1Reason) (granted : Option (ℕ × Grant)) →
    IsInList recording entry → place ≡ place_of entry → master ≡ master_of entry → IsSystemFor one_port_receiver recording place entry.sfn master.ports master.mib sib1 →
    IsGrantFor one_port_receiver recording place entry.sfn master.mib sib1 granted → IsGrantOf recording entry granted
grant_decoded recording entry place master sib1 granted listed p m system grant =
    subst (λ (answer : Result Sib1 Sib1Reason). IsGrantFor one_port_receiver recording (place_of entry) entry.sfn entry.mib answer granted)
    (one_system one_port_receiver recording (place_of entry) entry.sfn entry.ports entry.mib sib1 entry.sib1
    (subst (λ (master : Master). IsSystemFor one_port_receiver recording (place_of entry) entry.sfn master.ports master.mib sib1) m (subst (λ (place : Place). IsSystemFor one_port_receiver recording place entry.sfn master.ports master.mib sib1) p system))
    (is_sound one_port_receiver recording listed.list entry listed.explained listed.inside).is_of.sib1)
    (subst (λ (master : Master). IsGrantFor one_port_receiver recording (place_of entry) entry.sfn master.mib sib1 granted) m (subst (λ (place : Place). IsGrantFor one_port_receiver recording place entry.sfn master.mib sib1 granted) p grant))

no_error : (sib1 : Result Sib1 Sib1Reason) (fields : Sib1) → sib1 ≡ Ok fields → IsErr sib1 → ⊥
no_error (Ok other) fields same is = absurd cc
no_error (Err reason) fields same is = absurd cc

error_without : (sib1 : Result Sib1 Sib1Reason) → ((fields : Sib1) → sib1 ≡ Ok fields → ⊥) → IsErr sib1
error_without (Ok fields) none = absurd (none fields refl)
error_without (Err reason) none = cc

pub none_decoded : (recording : List Sample) (entry : Entry) (granted : Option (ℕ × Grant)) → IsGrantOf recording entry granted → IsNone granted ↔ IsErr entry.sib1
none_decoded recording entry None grant = (λ none. error_without entry.sib1 grant, λ err. cc)
none_decoded recording entry (Some decoded) grant = (λ none. absurd cc, λ err. absurd (no_error entry.sib1 grant.fields grant.answers err))
