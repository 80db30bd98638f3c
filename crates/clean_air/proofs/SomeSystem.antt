-- A receiver has an answer on the system information of each cell and each of its master information blocks.
use Rattle.std.proofs.Common.{◌≡◌, ◌≢◌, ℕ, zero, suc, ◌+◌, ◌*◌, ◌<◌, ◌≤◌, ◌⊎◌, inl, inr, List, length, Result, Ok, Err, refl, subst, arith}
use Rattle.std.proofs.lemmas.Bool.{cases_lt}
use Rattle.cs_num.specs.declared.Sample.{Sample}
use Rattle.lte_types.specs.declared.bandwidth.Bandwidth.{Bandwidth}
use Rattle.lte_types.specs.declared.bandwidth.Bandwidth.TheVariants.{N6, N15, N25, N50, N75, N100}
use Rattle.lte_types.specs.declared.carrier.Carrier.{Carrier}
use Rattle.lte_types.specs.declared.mib.Mib.{Mib}
use Rattle.lte_types.specs.declared.sib1.Sib1.{Sib1}
use Rattle.lte_types.specs.declared.sib1_reason.Sib1Reason.{Sib1Reason}
use Rattle.lte_types.specs.declared.sib1_reason.Sib1Reason.TheVariants.{NotOnePort, Bandwidth as OtherWidth}
use Rattle.lte_types.specs.Carrier.{ports_of}
use Rattle.lte_types.specs.CellPlace.{Place}
use Rattle.sib1_reader.proofs.Exists.{some_reading, never_ports, never_width}
use Rattle.explain.specs.Receiver.{Receiver, Subframes}
use Rattle.explain.specs.System.{even_frame, IsTried, IsFirstRead, IsReadFrom, FrameAnswers, IsSystemWith, IsSystemFor}
use Rattle.explain.proofs.Information.{first_tried, one_of_frame, searched}

-- ---- by the values of subframe 5

module _ (values : Subframes) (recording : List Sample) (place : Place) (mib : Mib) (sfn : ℕ) where
  abbrev Answers : ℕ → Result Sib1 Sib1Reason → Type 0
  Answers j answer = FrameAnswers values recording place mib j answer

  -- a frame is the first that is tried and has fields
  abbrev Found : Type 0
  Found = (fields : Sib1) × IsFirstRead (FrameAnswers values recording place mib) recording place.start sfn fields

  -- none of so many that are tried has any
  abbrev HaveNone : ℕ → Type 0
  HaveNone count = (i : ℕ) (fields : Sib1) → i < count → IsTried recording place.start sfn i → Answers (even_frame sfn i) (Ok fields) → ⊥

  not_both : (j : ℕ) (fields : Sib1) (reason : Sib1Reason) → Answers j (Ok fields) → Answers j (Err reason) → ⊥
  not_both j fields reason a b = let e = one_of_frame values recording place mib j (Ok fields) (Err reason) a b in absurd cc

  -- one more, which is tried
  tried_next : (n : ℕ) → IsTried recording place.start sfn n → HaveNone n → (answer : Result Sib1 Sib1Reason) → Answers (even_frame sfn n) answer → Found ⊎ HaveNone (suc n)
  tried_next n tried none (Ok fields) a =
      let among = tried.among in
      let whole = tried.whole in
      inl (
        fields,
        record {
          i = n;
          tried = tried;
          answers = a;
          first = λ h other before b. none h other before (record { among = omega (arith, before, among); whole = omega (arith, before, whole) }) b;
        },
      )
  tried_next n tried none (Err reason) a =
      inr (λ i fields below again b. elim (cases_lt i n) [
        | inl before ↦ none i fields before again b
        | inr last ↦ let same : i ≡ n = omega (arith, below, last) in not_both (even_frame sfn n) fields reason (subst (λ k. Answers (even_frame sfn k) (Ok fields)) same b) a
      ])

  -- or not
  next : (n : ℕ) → n < 8 → HaveNone n → Found ⊎ HaveNone (suc n)
  next n few none = elim (cases_lt (length recording) (place.start + 19200 * (even_frame sfn n + 1))) [
    | inl short ↦ inr (λ i fields below again b. elim (cases_lt i n) [
      | inl before ↦ none i fields before again b
      | inr last ↦ let whole = again.whole in absurd (omega (arith, below, last, whole, short))
    ])
    | inr whole ↦
        let (answer, a) = some_reading (values recording place (even_frame sfn n) mib.duration mib.resource) in
        tried_next n (record { among = few; whole = whole }) none answer a
  ]

  either_next : (n : ℕ) → n < 8 → Found ⊎ HaveNone n → Found ⊎ HaveNone (suc n)
  either_next n few (inl found) = inl found
  either_next n few (inr none) = next n few none

  search_frames : (n : ℕ) → n ≤ 8 → Found ⊎ HaveNone n
  search_frames zero few = inr (λ i fields below again b. absurd (omega (arith, below)))
  search_frames (suc n) few = either_next n (omega (arith, few)) (search_frames n (omega (arith, few)))

  -- so there is an answer: the first fields, or the reason of the first frame
  answer_by : 57600 ≤ length recording → place.start < 19200 → Found ⊎ HaveNone 8 → (first : Result Sib1 Sib1Reason) → Answers (even_frame sfn 0) first →
      (answer : Result Sib1 Sib1Reason) × IsReadFrom (FrameAnswers values recording place mib) recording place.start sfn answer
  answer_by long early (inl (fields, read)) first a = (Ok fields, read)
  answer_by long early (inr none) (Ok fields) a = absurd (none 0 fields (omega arith) (first_tried recording place.start sfn long early) a)
  answer_by long early (inr none) (Err reason) a = (Err reason, record { none = λ i fields tried b. none i fields tried.among tried b; refused = a })

  some_read : 57600 ≤ length recording → place.start < 19200 → (answer : Result Sib1 Sib1Reason) × IsReadFrom (FrameAnswers values recording place mib) recording place.start sfn answer
  some_read long early =
      let (first, a) = some_reading (values recording place (even_frame sfn 0) mib.duration mib.resource) in
      answer_by long early (search_frames 8 (omega arith)) first a

-- ---- by the rules before

six_or_not : (width : Bandwidth) → (width ≡ N6) ⊎ (width ≢ N6)
six_or_not N6 = inl refl
six_or_not N15 = inr (λ e. absurd cc)
six_or_not N25 = inr (λ e. absurd cc)
six_or_not N50 = inr (λ e. absurd cc)
six_or_not N75 = inr (λ e. absurd cc)
six_or_not N100 = inr (λ e. absurd cc)

same_count : (a b : ℕ) → (a ≡ b) ⊎ (a ≢ b)
same_count a b = grind arith

some_with : (carrier : Carrier) (values : Result Subframes Sib1Reason) (recording : List Sample) (place : Place) (sfn ports : ℕ) (mib : Mib) → 57600 ≤ length recording → place.start < 19200 →
    (sib1 : Result Sib1 Sib1Reason) × IsSystemWith carrier values recording place sfn ports mib sib1
some_with carrier (Err reason) recording place sfn ports mib long early = (Err reason, refl)
some_with carrier (Ok values) recording place sfn ports mib long early = elim (same_count ports (ports_of carrier)) [
  | inl same ↦ elim (six_or_not mib.bandwidth) [
    | inl six ↦
        let (sib1, read) = some_read values recording place mib sfn long early in (
          sib1,
          searched (FrameAnswers values recording place mib) (one_of_frame values recording place mib) recording place.start sfn carrier
              (λ j decoded reads. never_ports _ decoded reads) (λ j decoded reads. never_width _ decoded reads) ports mib same six sib1 read,
        )
    | inr other ↦ (Err (OtherWidth mib.bandwidth), record { as_wanted = same; reported_is = refl; other = other })
  ]
  | inr other ↦ (Err (NotOnePort ports), record { reported_is = refl; other = other })
]

pub some_system : (receiver : Receiver) (recording : List Sample) (place : Place) (sfn ports : ℕ) (mib : Mib) → 57600 ≤ length recording → place.start < 19200 →
    (sib1 : Result Sib1 Sib1Reason) × IsSystemFor receiver recording place sfn ports mib sib1
some_system receiver recording place sfn ports mib long early = some_with receiver.carrier receiver.subframe recording place sfn ports mib long early
