-- The MIBs in frames, from their soft values.
use Rattle.std.proofs.Common.{◌≡◌, inl, inr, ℕ, zero, suc, ◌+◌, ◌-◌, ◌<◌, ◌≤◌, Bool, true, false, ◌||◌, List, [], ◌∷◌, ◌++◌, ℤ, Option, None, Some, arith, refl, ap, ap₂, sym, subst, ◌∙◌, length, get_or, take, drop}
use Rattle.std.specs.Prelude.{is_some, MatchOption, IsTrue, if◌then◌else◌}
use Rattle.std.specs.List.{flat_map}
use Rattle.std.proofs.lemmas.Bool.{cases_lt}
use Rattle.std.proofs.lemmas.List.{get_or-drop, get_or-take, length-drop, length-take-le, length_push}
use Rattle.finite.specs.Tests.{any_below}
use Rattle.finite.specs.Lists.{values_below}
use Rattle.finite.proofs.Tests.{any_below_none}
use Rattle.finite.proofs.Lists.{values_below_at, values_below_is, values_below_more}
use Rattle.cs_num.specs.declared.Sample.{Sample}
use Rattle.lte_types.specs.CellPlace.{Place}
use Rattle.lte_types.specs.Frames.{Frames, frames_from}
use Rattle.pbch.specs.declared.master.Master.{Master}
use Rattle.pbch.specs.Master.{DecodesMaster, DecodesNothing, master_at, IsDecoded, AreMasters}
use Rattle.pbch.proofs.Words.{one_master}
use Rattle.explain.specs.Frame.{IsWhole, seen_slot, values_in}
use Rattle.explain.specs.Decoded.{Decoding}
use Rattle.explain.specs.Window.{NoneIsDecoded}
use Rattle.explain.specs.Receiver.{Receiver, is_wanted, sums_by}
use Rattle.explain.specs.Entries.{IsMasterFor}
use Rattle.explain.specs.Masters.{HasMaster, IsDecodedAt, AreDecoded}
use Rattle.explain.specs.Received.{AreReceived, taken_of}
use Rattle.explain.proofs.Entries.{same_master}

pub slot_number : (recording : List Sample) (f number identity : ℕ) → (seen_slot recording f number identity).number ≡ number
unfolding seen_slot
slot_number recording f number identity = refl

pub slot_identity : (recording : List Sample) (f number identity : ℕ) → (seen_slot recording f number identity).identity ≡ identity
unfolding seen_slot
slot_identity recording f number identity = refl

-- a frame within the recording comes before one that is not
pub whole_before : (recording : List Sample) (start j k : ℕ) → (IsWhole recording start k → IsTrue false) → IsWhole recording start j → j < k
whole_before recording start j k not_whole whole = elim (cases_lt j k) [
  | inl below ↦ below
  | inr above ↦ let e : IsTrue false = not_whole (omega (arith, above, whole)) in absurd (cc e)
]

-- ---- the soft values of frames

-- a count of frames from frame j
pub length-part : (j count : ℕ) (frames : List (List ℤ)) → j + count ≤ length frames → length (take (j + count - j) (drop j frames)) ≡ count
length-part j count frames long =
    let rest = length-drop j frames in let size = length-take-le (j + count - j) (drop j frames) (omega (arith, rest, long)) in omega (arith, size)

module _ (values : ℕ → List ℤ) where
  received_at : (j k : ℕ) (frames : List (List ℤ)) → k < length frames → AreReceived values j frames → get_or frames k [] ≡ values (j + k)
  received_at j k frames inside are = ap (λ fs. get_or fs k []) are ∙ values_below_at (λ m. values (j + m)) (length frames) k [] inside

  -- all frames from frame j
  received_after : (j : ℕ) (frames : List (List ℤ)) → AreReceived values 0 frames → AreReceived values j (drop j frames)
  received_after j frames are =
      values_below_is [] (length (drop j frames)) (λ m. values (j + m)) (drop j frames) refl
      (λ m below. let size = length-drop j frames in
      let from : 0 + (j + m) ≡ j + m = omega arith in
      get_or-drop j frames m [] ∙ received_at 0 (j + m) frames (omega (arith, below, size)) are ∙ ap values from)

  -- a count of frames from frame j, as the code takes them
  pub received_part : (j count : ℕ) (frames : List (List ℤ)) → j + count ≤ length frames → AreReceived values 0 frames →
      AreReceived values j (take (j + count - j) (drop j frames))
  received_part j count frames long are =
      values_below_is [] (length part) (λ m. values (j + m)) part refl
      (λ m below. let size = length-part j count frames long in let rest = length-drop j frames in
      get_or-take (j + count - j) (drop j frames) m [] (omega (arith, below, size))
      ∙ received_at j m (drop j frames) (omega (arith, below, size, rest, long)) (received_after j frames are))
    where
      part : List (List ℤ)
      part = take (j + count - j) (drop j frames)

  -- one more frame
  pub received_more : (j : ℕ) (frames : List (List ℤ)) (frame : List ℤ) (more : List (List ℤ)) → length frames ≡ j → frame ≡ values j → more ≡ frames ++ frame ∷ [] →
      AreReceived values 0 frames → AreReceived values 0 more
  received_more j frames frame more at is new are =
      let from : j ≡ 0 + length frames = omega (arith, at) in
      let size : length more ≡ length frames + 1 = ap length new ∙ length_push frames frame in
      new ∙ ap₂ (λ fs f. fs ++ f ∷ []) are (is ∙ ap values from) ∙ sym (values_below_more (length frames) (λ m. values (0 + m)))
      ∙ sym (ap (λ n. values_below n (λ m. values (0 + m))) size)

-- ---- MIBs by phase

decoded_at : (identity size count : ℕ) (received : List ℤ) (masters : List (Option Master)) (phase : ℕ) → AreMasters identity size count received masters → phase < 4 →
    IsDecoded identity size count received masters phase
decoded_at identity size count received masters zero m l = m.first
decoded_at identity size count received masters (suc zero) m l = m.second
decoded_at identity size count received masters (suc (suc zero)) m l = m.third
decoded_at identity size count received masters (suc (suc (suc zero))) m l = m.fourth
decoded_at identity size count received masters (suc (suc (suc (suc n)))) m l = absurd (omega (arith, l))

none_of : (Decodes : Decoding) (place : Place) (frames : Frames) (o : Option Master) → IsDecodedAt Decodes place frames o →
    is_some o ≡ false → (master : Master) → Decodes place frames master → ⊥
none_of Decodes place frames None h e = h
none_of Decodes place frames (Some master) h e = absurd (cc e)

-- if no phase has a MIB, the frames have none
pub no_master : (Decodes : Decoding) (place : Place) (count frame : ℕ) (masters : List (Option Master)) → 1 ≤ count →
    AreDecoded Decodes place count frame masters → any_below 4 (λ phase. is_some (master_at masters phase)) ≡ false → NoneIsDecoded Decodes place count frame
no_master Decodes place count frame masters some decoded e phase master period =
    none_of Decodes place (frames_from count frame phase) (master_at masters phase) (decoded phase period)
    (any_below_none 4 phase (λ p. is_some (master_at masters p)) e (omega (arith, some, period))) master

some_below : (n : ℕ) (p : ℕ → Bool) → any_below n p ≡ true → (k : ℕ) × (k < n) × (p k ≡ true)
unfolding any_below
some_below zero p e = absurd (cc e)
some_below (suc n) p e = settle (any_below n p) (p n) refl refl (λ found. some_below n p found)
  where
    settle : (a b : Bool) → any_below n p ≡ a → p n ≡ b → (any_below n p ≡ true → (k : ℕ) × (k < n) × (p k ≡ true)) → (k : ℕ) × (k < suc n) × (p k ≡ true)
    settle true b ea eb before = let (k, l, h) = before ea in (k, omega (arith, l), h)
    settle false true ea eb before = (n, omega arith, eb)
    settle false false ea eb before = absurd (let none : (any_below n p || p n) ≡ false = rw (ea, eb) refl in cc (none, e))

is_some_of : (o : Option Master) → is_some o ≡ true → (master : Master) × (o ≡ Some master)
is_some_of None e = absurd (cc e)
is_some_of (Some master) e = (master, refl)

pub has_one : (count : ℕ) (masters : List (Option Master)) → ((phase : ℕ) → phase < 4 → 4 < phase + count → master_at masters phase ≡ None) →
    any_below 4 (λ phase. is_some (master_at masters phase)) ≡ true → HasMaster count masters
has_one count masters beyond e =
    let (phase, below, some) = some_below 4 (λ p. is_some (master_at masters p)) e in
    let (master, is) = is_some_of (master_at masters phase) some in
    record { phase = phase; known = within phase master below is; master = master; is = is }
  where
    -- past a period there is no MIB
    within : (phase : ℕ) (master : Master) → phase < 4 → master_at masters phase ≡ Some master → phase + count ≤ 4
    within phase master below is = elim (cases_lt 4 (phase + count)) [
      | inl more ↦ absurd (let none = beyond phase below more in cc (none, is))
      | inr fits ↦ fits
    ]

-- ---- the MIBs that a receiver accepts

module _ (receiver : Receiver) (recording : List Sample) where
  -- the MIBs in frames from frame j, from their soft values
  pub masters_of_frames : (place : Place) (identity size j : ℕ) (frames : List (List ℤ)) (all : List (Option Master)) → identity ≡ place.id → size ≡ receiver.count →
      AreReceived (receiver.broadcast recording place) j frames → AreMasters identity size (length frames) (flat_map (λ frame. frame) frames) all →
      AreMasters place.id receiver.count (length frames) (values_in (receiver.broadcast recording place) (length frames) j) all
  masters_of_frames place identity size j frames all id many are m =
      subst (λ values. AreMasters place.id receiver.count (length frames) values all) (ap (flat_map (λ frame. frame)) are)
      (subst (λ n. AreMasters place.id n (length frames) (flat_map (λ frame. frame) frames) all) many
      (subst (λ i. AreMasters i size (length frames) (flat_map (λ frame. frame) frames) all) id m))

  module _ (place : Place) (count j : ℕ) (all masters : List (Option Master))
      (each : (phase : ℕ) → phase < 4 → master_at masters phase ≡ taken_of (is_wanted receiver.ports) (master_at all phase))
      (m : AreMasters place.id receiver.count count (values_in (receiver.broadcast recording place) count j) all) where
    -- the accepted MIBs are those that frames carry for the receiver
    pub decoded_in_frames : 1 ≤ count → count ≤ receiver.most_frames → AreDecoded (IsMasterFor receiver recording) place count j masters
    decoded_in_frames some adds phase period =
        subst (IsDecodedAt (IsMasterFor receiver recording) place (frames_from count j phase)) (sym (each phase (omega (arith, some, period))))
        (by_option (master_at all phase) ((decoded_at place.id receiver.count count _ all phase m (omega (arith, some, period))).decoded period))
      where
        sums : List (List ℤ)
        sums = sums_by receiver recording place (frames_from count j phase)

        by_option : (o : Option Master) → MatchOption o (DecodesNothing sums) (DecodesMaster sums) →
            IsDecodedAt (IsMasterFor receiver recording) place (frames_from count j phase) (taken_of (is_wanted receiver.ports) o)
        by_option None none = λ master decoded. none decoded.decoded.word master.ports decoded.decoded.decodes
        by_option (Some master) decoded = settle (is_wanted receiver.ports master.ports) refl
          where
            settle : (b : Bool) → is_wanted receiver.ports master.ports ≡ b →
                IsDecodedAt (IsMasterFor receiver recording) place (frames_from count j phase) (if b then Some master else None)
            settle true e = record { few = adds; taken = e; decoded = decoded }
            settle false e = λ other t.
                let same : other ≡ master = same_master other master (one_master sums other master t.decoded decoded) in
                let taken : is_wanted receiver.ports master.ports ≡ true = subst (λ (m : Master). is_wanted receiver.ports m.ports ≡ true) same t.taken in
                cc (e, taken)

    -- past a period no MIB is accepted
    pub none_beyond : (phase : ℕ) → phase < 4 → 4 < phase + count → master_at masters phase ≡ None
    none_beyond phase below beyond =
        each phase below ∙ ap (taken_of (is_wanted receiver.ports)) ((decoded_at place.id receiver.count count _ all phase m below).beyond beyond)
