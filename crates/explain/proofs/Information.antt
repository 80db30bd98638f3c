-- The answer on a cell's system information is unique, and its fields are in their ranges.
use Rattle.std.proofs.Common.{◌≡◌, ℕ, ◌+◌, ◌%◌, ◌<◌, ◌≤◌, ◌⊎◌, inl, inr, List, length, Result, Ok, Err, refl, ap, sym, subst, ◌∙◌, arith}
use Rattle.std.specs.Prelude.{IfOk}
use Rattle.std.proofs.lemmas.Bool.{cases_lt}
use Rattle.cs_num.specs.declared.Sample.{Sample}
use Rattle.lte_types.specs.declared.bandwidth.Bandwidth.{Bandwidth}
use Rattle.lte_types.specs.declared.bandwidth.Bandwidth.TheVariants.{N6}
use Rattle.lte_types.specs.declared.mib.Mib.{Mib}
use Rattle.lte_types.specs.declared.sib1.Sib1.{Sib1}
use Rattle.lte_types.specs.declared.sib1_reason.Sib1Reason.{Sib1Reason}
use Rattle.lte_types.specs.declared.sib1_reason.Sib1Reason.TheVariants.{NotOnePort, Bandwidth as OtherWidth, LongPrefix}
use Rattle.lte_types.specs.Ranges.{IsValid}
use Rattle.sib1_reader.proofs.Once.{one_reading}
use Rattle.sib1_reader.proofs.Exists.{read_is_valid, never_long}
use Rattle.lte_types.specs.CellPlace.{Place}
use Rattle.lte_types.specs.declared.carrier.Carrier.{Carrier}
use Rattle.lte_types.specs.Carrier.{ports_of}
use Rattle.explain.specs.Decoded.{Answering}
use Rattle.explain.specs.Receiver.{Receiver, Subframes}
use Rattle.explain.proofs.Once.{AnswersOnce, HasOneSystem}
use Rattle.explain.specs.System.{even_frame, IsTried, IsFirstRead, IsReadFrom, HasOtherPorts, HasOtherWidth, IsSearched, IsSystemBy, FrameAnswers, IsSystemWith, IsSystemFor}

abbrev answer_with : Sib1 → Result Sib1 Sib1Reason
answer_with fields = Ok fields

-- the first even-numbered frame is tried: it is one of the first two frames
pub first_tried : (recording : List Sample) (start sfn : ℕ) → 57600 ≤ length recording → start < 19200 → IsTried recording start sfn 0
first_tried recording start sfn long early = record { among = omega arith; whole = omega (arith, long, early) }

-- the frames that are tried have even numbers
pub even_number : (sfn i : ℕ) → (sfn + even_frame sfn i) % 1024 % 2 ≡ 0
even_number sfn i = omega arith

-- if each frame has at most one answer
module _ (Answers : Answering) (one : (j : ℕ) (a b : Result Sib1 Sib1Reason) → Answers j a → Answers j b → a ≡ b)
    (recording : List Sample) (start sfn : ℕ) (carrier : Carrier) where
  -- a frame with a reason has no fields
  not_both : (j : ℕ) (fields : Sib1) (reason : Sib1Reason) → Answers j (Ok fields) → Answers j (Err reason) → ⊥
  not_both j fields reason a b = let e = one j (Ok fields) (Err reason) a b in absurd cc

  -- the frames give at most one answer
  first_read_first : (x y : Sib1) (a : IsFirstRead Answers recording start sfn x) (b : IsFirstRead Answers recording start sfn y) → a.i < b.i → ⊥
  first_read_first x y a b before = b.first a.i x before a.answers

  one_read : (a b : Result Sib1 Sib1Reason) → IsReadFrom Answers recording start sfn a → IsReadFrom Answers recording start sfn b → a ≡ b
  one_read (Ok x) (Ok y) a b = by_order (cases_lt a.i b.i) (cases_lt b.i a.i)
    where
      by_order : (a.i < b.i) ⊎ (b.i ≤ a.i) → (b.i < a.i) ⊎ (a.i ≤ b.i) → answer_with x ≡ answer_with y
      by_order (inl before) other = absurd (first_read_first x y a b before)
      by_order (inr low) (inl before) = absurd (first_read_first y x b a before)
      by_order (inr low) (inr high) =
          let same : a.i ≡ b.i = omega (arith, low, high) in
          one (even_frame sfn b.i) (Ok x) (Ok y) (subst (λ i. Answers (even_frame sfn i) (Ok x)) same a.answers) b.answers
  one_read (Ok x) (Err r) a b = absurd (b.none a.i x a.tried a.answers)
  one_read (Err q) (Ok y) a b = absurd (a.none b.i y b.tried b.answers)
  one_read (Err q) (Err r) a b = one (even_frame sfn 0) (Err q) (Err r) a.refused b.refused

  -- the rule that gives an answer
  rule : (ports : ℕ) (mib : Mib) (sib1 : Result Sib1 Sib1Reason) → IsSystemBy carrier Answers recording start sfn ports mib sib1 →
      ((decoded : ℕ) × (sib1 ≡ Err (NotOnePort decoded)) × HasOtherPorts (ports_of carrier) ports decoded)
      ⊎ (((decoded : Bandwidth) × (sib1 ≡ Err (OtherWidth decoded)) × HasOtherWidth (ports_of carrier) ports mib.bandwidth decoded)
      ⊎ IsSearched Answers recording start sfn carrier ports mib.bandwidth sib1)
  rule ports mib (Err (NotOnePort decoded)) s = inl (decoded, refl, s)
  rule ports mib (Err (OtherWidth decoded)) s = inr (inl (decoded, refl, s))
  rule ports mib sib1 s = inr (inr s)

  pub one_by : (ports : ℕ) (mib : Mib) (a b : Result Sib1 Sib1Reason) → IsSystemBy carrier Answers recording start sfn ports mib a → IsSystemBy carrier Answers recording start sfn ports mib b → a ≡ b
  one_by ports mib a b s t = cases (rule ports mib a s) (rule ports mib b t)
    where
      cases : ((decoded : ℕ) × (a ≡ Err (NotOnePort decoded)) × HasOtherPorts (ports_of carrier) ports decoded)
          ⊎ (((decoded : Bandwidth) × (a ≡ Err (OtherWidth decoded)) × HasOtherWidth (ports_of carrier) ports mib.bandwidth decoded) ⊎ IsSearched Answers recording start sfn carrier ports mib.bandwidth a) →
          ((decoded : ℕ) × (b ≡ Err (NotOnePort decoded)) × HasOtherPorts (ports_of carrier) ports decoded)
          ⊎ (((decoded : Bandwidth) × (b ≡ Err (OtherWidth decoded)) × HasOtherWidth (ports_of carrier) ports mib.bandwidth decoded) ⊎ IsSearched Answers recording start sfn carrier ports mib.bandwidth b) → a ≡ b
      cases (inl n) (inl m) = n.1 ∙ ap (λ decoded. Err (NotOnePort decoded)) (n.2.reported_is ∙ sym m.2.reported_is) ∙ sym m.1
      cases (inl n) (inr (inl m)) = absurd (n.2.other m.2.as_wanted)
      cases (inl n) (inr (inr m)) = absurd (n.2.other m.as_wanted)
      cases (inr (inl n)) (inl m) = absurd (m.2.other n.2.as_wanted)
      cases (inr (inl n)) (inr (inl m)) = n.1 ∙ ap (λ (decoded : Bandwidth). Err (OtherWidth decoded)) (n.2.reported_is ∙ sym m.2.reported_is) ∙ sym m.1
      cases (inr (inl n)) (inr (inr m)) = absurd (n.2.other m.six_blocks)
      cases (inr (inr n)) (inl m) = absurd (m.2.other n.as_wanted)
      cases (inr (inr n)) (inr (inl m)) = absurd (m.2.other n.six_blocks)
      cases (inr (inr n)) (inr (inr m)) = one_read a b n.read m.read

  -- no even-numbered frame before number i has fields
  abbrev pub HasNoFields : ℕ → Type 0
  HasNoFields i = (h : ℕ) (fields : Sib1) → h < i → Answers (even_frame sfn h) (Ok fields) → ⊥

  -- if the next frame has a reason, no frame up to it has fields
  pub no_more_fields : (i : ℕ) (reason : Sib1Reason) → HasNoFields i → Answers (even_frame sfn i) (Err reason) → HasNoFields (i + 1)
  no_more_fields i reason none refused h fields before a = elim (cases_lt h i) [
    | inl below ↦ none h fields below a
    | inr above ↦ let same : h ≡ i = omega (arith, before, above) in not_both (even_frame sfn i) fields reason (subst (λ k. Answers (even_frame sfn k) (Ok fields)) same a) refused
  ]

  -- if the first even-numbered frame has fields, they are the answer
  pub decoded_first : (mib : Mib) (fields : Sib1) → 57600 ≤ length recording → start < 19200 → mib.bandwidth ≡ N6 → Answers (even_frame sfn 0) (Ok fields) →
      IsSystemBy carrier Answers recording start sfn (ports_of carrier) mib (Ok fields)
  decoded_first mib fields long early six answers = record {
    as_wanted = refl;
    six_blocks = six;
    read = record { i = 0; tried = first_tried recording start sfn long early; answers = answers; first = λ h other before a. absurd (omega (arith, before)) };
  }

  -- if all fields in frames are valid, those in the answer are
  pub valid_by : ((j : ℕ) (fields : Sib1) → Answers j (Ok fields) → IsValid fields) → (ports : ℕ) (mib : Mib) (sib1 : Result Sib1 Sib1Reason) →
      IsSystemBy carrier Answers recording start sfn ports mib sib1 → IfOk sib1 IsValid
  valid_by valid ports mib (Err reason) s = tt
  valid_by valid ports mib (Ok fields) s = valid (even_frame sfn s.read.i) fields s.read.answers

  -- if no frame has `LongPrefix` as its reason, the answer does not have it
  pub never_long_by : ((j : ℕ) → Answers j (Err LongPrefix) → ⊥) → (ports : ℕ) (mib : Mib) → IsSystemBy carrier Answers recording start sfn ports mib (Err LongPrefix) → ⊥
  never_long_by never ports mib s = never (even_frame sfn 0) s.read.refused

  -- if the port count and the bandwidth are right, the answer is the frames' answer, which is never one of these two
  -- reasons
  pub searched : ((j decoded : ℕ) → Answers j (Err (NotOnePort decoded)) → ⊥) → ((j : ℕ) (decoded : Bandwidth) → Answers j (Err (OtherWidth decoded)) → ⊥) →
      (ports : ℕ) (mib : Mib) → ports ≡ ports_of carrier → mib.bandwidth ≡ N6 → (sib1 : Result Sib1 Sib1Reason) → IsReadFrom Answers recording start sfn sib1 →
      IsSystemBy carrier Answers recording start sfn ports mib sib1
  searched never_ports never_width ports mib as_wanted six (Err (NotOnePort decoded)) read = absurd (never_ports (even_frame sfn 0) decoded read.refused)
  searched never_ports never_width ports mib as_wanted six (Err (OtherWidth decoded)) read = absurd (never_width (even_frame sfn 0) decoded read.refused)
  searched never_ports never_width ports mib as_wanted six sib1 read = record { as_wanted = as_wanted; six_blocks = six; read = read }

-- ---- from the soft values of subframe 5

-- a frame has at most one answer
pub one_of_frame : (values : Subframes) (recording : List Sample) (place : Place) (mib : Mib) → AnswersOnce (FrameAnswers values recording place mib)
one_of_frame values recording place mib j a b p q = one_reading _ a b p q

-- if the first even-numbered frame has fields, they are the answer
pub decoded_at_first : (carrier : Carrier) (values : Subframes) (recording : List Sample) (place : Place) (sfn : ℕ) (mib : Mib) (fields : Sib1) → 57600 ≤ length recording →
    place.start < 19200 → mib.bandwidth ≡ N6 → FrameAnswers values recording place mib (even_frame sfn 0) (Ok fields) →
    IsSystemWith carrier (Ok values) recording place sfn (ports_of carrier) mib (Ok fields)
decoded_at_first carrier values recording place sfn mib fields long early six answers =
    decoded_first (FrameAnswers values recording place mib) (one_of_frame values recording place mib) recording place.start sfn carrier mib fields long early six answers

-- there is at most one answer
one_with : (carrier : Carrier) (values : Result Subframes Sib1Reason) (recording : List Sample) → HasOneSystem (IsSystemWith carrier values recording)
one_with carrier (Ok values) recording place sfn ports mib a b p q =
    one_by (FrameAnswers values recording place mib) (one_of_frame values recording place mib) recording place.start sfn carrier ports mib a b p q
one_with carrier (Err reason) recording place sfn ports mib a b p q = p ∙ sym q

-- the fields read are in their ranges
valid_with : (carrier : Carrier) (values : Result Subframes Sib1Reason) (recording : List Sample) (place : Place) (sfn ports : ℕ) (mib : Mib) (sib1 : Result Sib1 Sib1Reason) →
    IsSystemWith carrier values recording place sfn ports mib sib1 → IfOk sib1 IsValid
valid_with carrier (Ok values) recording place sfn ports mib sib1 s =
    valid_by (FrameAnswers values recording place mib) (one_of_frame values recording place mib) recording place.start sfn carrier (λ j fields reads. read_is_valid _ fields reads) ports mib sib1 s
valid_with carrier (Err reason) recording place sfn ports mib sib1 s = subst (λ (answer : Result Sib1 Sib1Reason). IfOk answer IsValid) (sym s) tt

-- if there are soft values, the reason is not `LongPrefix`
never_long_with : (carrier : Carrier) (values : Subframes) (recording : List Sample) (place : Place) (sfn ports : ℕ) (mib : Mib) →
    IsSystemWith carrier (Ok values) recording place sfn ports mib (Err LongPrefix) → ⊥
never_long_with carrier values recording place sfn ports mib s =
    never_long_by (FrameAnswers values recording place mib) (one_of_frame values recording place mib) recording place.start sfn carrier (λ j reads. never_long _ reads) ports mib s

-- ---- for a receiver

pub one_system : (receiver : Receiver) (recording : List Sample) → HasOneSystem (IsSystemFor receiver recording)
one_system receiver recording = one_with receiver.carrier receiver.subframe recording

pub system_is_valid : (receiver : Receiver) (recording : List Sample) (place : Place) (sfn ports : ℕ) (mib : Mib) (sib1 : Result Sib1 Sib1Reason) →
    IsSystemFor receiver recording place sfn ports mib sib1 → IfOk sib1 IsValid
system_is_valid receiver recording place sfn ports mib sib1 s = valid_with receiver.carrier receiver.subframe recording place sfn ports mib sib1 s

pub system_never_long : (receiver : Receiver) (values : Subframes) (recording : List Sample) (place : Place) (sfn ports : ℕ) (mib : Mib) → receiver.subframe ≡ Ok values →
    IsSystemFor receiver recording place sfn ports mib (Err LongPrefix) → ⊥
system_never_long receiver values recording place sfn ports mib is s =
    never_long_with receiver.carrier values recording place sfn ports mib
    (subst (λ (o : Result Subframes Sib1Reason). IsSystemWith receiver.carrier o recording place sfn ports mib (Err LongPrefix)) is s)
