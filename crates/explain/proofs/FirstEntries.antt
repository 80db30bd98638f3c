-- The entries made from the MIBs of the first frames that carry any.
use Rattle.std.proofs.Common.{◌≡◌, ◌⊎◌, inl, inr, ℕ, ◌+◌, ◌-◌, ◌<◌, ◌≤◌, List, [], ◌∷◌, Option, None, Some, arith, refl, ap, sym, subst, ◌∙◌}
use Rattle.std.specs.Prelude.{Result}
use Rattle.std.specs.List.{AllPairs, Contains}
use Rattle.std.proofs.lemmas.Bool.{cases_lt}
use Rattle.finite.proofs.Lists.{Contains-in_joined, Contains-joined, joined_below-pairs, only_one}
use Rattle.cs_num.specs.declared.Sample.{Sample}
use Rattle.lte_types.specs.declared.hit.Hit.{Hit}
use Rattle.lte_types.specs.declared.entry.Entry.{Entry}
use Rattle.lte_types.specs.declared.sib1.Sib1.{Sib1}
use Rattle.lte_types.specs.declared.sib1_reason.Sib1Reason.{Sib1Reason}
use Rattle.pbch.specs.declared.master.Master.{Master}
use Rattle.pbch.specs.Master.{master_at}
use Rattle.pbch.proofs.Words.{one_master}
use Rattle.explain.specs.Decoded.{Decoding, Informing}
use Rattle.explain.specs.Window.{IsInWindow, ComeBefore, HasNoMasterBefore, HasNoMasters}
use Rattle.explain.specs.Entries.{master_of, place_of, frames_of, IsEntryAt, AreEntries, AreEntriesFor, IsMasterFor, Adds, AddsHit}
use Rattle.explain.specs.Masters.{IsDecodedAt, AreFirstWith, entry_of, entry_at, entries_of, IsSystemAt, AddsPhases}
use Rattle.lte_types.specs.CellPlace.{Place}
use Rattle.lte_types.specs.Frames.{Frames, frames_from, first_number}
use Rattle.explain.proofs.Once.{DecodesOne, HasOneSystem}
use Rattle.explain.specs.Receiver.{Receiver, place_by, sums_by}
use Rattle.explain.specs.System.{IsSystemFor}
use Rattle.explain.proofs.Sorted.{in_none, Contains-here}
use Rattle.explain.proofs.Entries.{same_master, same_entry}
use Rattle.explain.proofs.Information.{one_system}

-- for a receiver, frames carry at most one MIB at a phase
pub one_decoded_by : (receiver : Receiver) (recording : List Sample) → DecodesOne (IsMasterFor receiver recording)
one_decoded_by receiver recording place frames a b p q = same_master a b (one_master (sums_by receiver recording place frames) a b p.decoded q.decoded)

-- ---- the entries from the first frames that carry a MIB

-- the entry for one phase
record Stands (place : Place) (frames : Frames) (o : Option Master) (sib1 : Result Sib1 Sib1Reason) (entry : Entry) : Type 0 where
  master : Master
  is : o ≡ Some master
  found : entry_of place frames master sib1 ≡ entry

stands : (place : Place) (frames : Frames) (o : Option Master) (sib1 : Result Sib1 Sib1Reason) (entry : Entry) → Contains (entry_at place frames o sib1) entry →
    Stands place frames o sib1 entry
stands place frames None sib1 entry h = absurd (in_none entry h)
stands place frames (Some master) sib1 entry h = record { master = master; is = refl; found = only_one _ entry h }

one_by_phase : (place : Place) (frames : Frames) (o : Option Master) (sib1 : Result Sib1 Sib1Reason) → AllPairs (λ (a b : Entry). a.phase < b.phase) (entry_at place frames o sib1)
one_by_phase place frames None sib1 i j d below inside = absurd (omega (arith, below, inside))
one_by_phase place frames (Some master) sib1 i j d below inside = absurd (omega (arith, below, inside))

-- an entry's place
pub entry_place : (Decodes : Decoding) (IsSystem : Informing) (recording : List Sample) (place : Place) (entry : Entry) → IsEntryAt Decodes IsSystem recording place entry → place_of entry ≡ place
entry_place Decodes IsSystem recording place entry h = ap (λ x. record (place_of entry) { id = x }) h.id ∙ ap (λ x. record place { start = x }) h.start

-- if frames carry at most one MIB at a phase, and there is at most one answer on system information
module _ (Decodes : Decoding) (IsSystem : Informing)
    (one : DecodesOne Decodes) (one_answer : HasOneSystem IsSystem) (recording : List Sample) (place : Place) where
  at_place : (entry : Entry) → IsEntryAt Decodes IsSystem recording place entry → place_of entry ≡ place
  at_place entry h = entry_place Decodes IsSystem recording place entry h

  -- the MIB of an entry, at its cell's place
  of_entry : (entry : Entry) → IsEntryAt Decodes IsSystem recording place entry → Decodes place (frames_of entry) (master_of entry)
  of_entry entry h = subst (λ p. Decodes p (frames_of entry) (master_of entry)) (at_place entry h) h.master

  none_before : (entry : Entry) → IsEntryAt Decodes IsSystem recording place entry → HasNoMasterBefore Decodes recording place entry.frames entry.frame
  none_before entry h = subst (λ p. HasNoMasterBefore Decodes recording p entry.frames entry.frame) (at_place entry h) h.frames.first

  window_of : (entry : Entry) → IsEntryAt Decodes IsSystem recording place entry → IsInWindow recording place.start entry.frames entry.frame
  window_of entry h = subst (λ s. IsInWindow recording s entry.frames entry.frame) h.start h.frames.inside

  answer_of_entry : (entry : Entry) → IsEntryAt Decodes IsSystem recording place entry → IsSystem place entry.sfn entry.ports entry.mib entry.sib1
  answer_of_entry entry h = subst (λ p. IsSystem p entry.sfn entry.ports entry.mib entry.sib1) (at_place entry h) h.sib1

  decoded_master : (count frame phase : ℕ) (o : Option Master) (master : Master) → IsDecodedAt Decodes place (frames_from count frame phase) o → o ≡ Some master →
      Decodes place (frames_from count frame phase) master
  decoded_master count frame phase o master decoded e = subst (IsDecodedAt Decodes place (frames_from count frame phase)) e decoded

  decoded_system : (frames : Frames) (o : Option Master) (master : Master) (sib1 : Result Sib1 Sib1Reason) → IsSystemAt IsSystem place frames o sib1 → o ≡ Some master →
      IsSystemAt IsSystem place frames (Some master) sib1
  decoded_system frames o master sib1 decoded e = subst (λ x. IsSystemAt IsSystem place frames x sib1) e decoded

  module _ (count frame : ℕ) (masters : List (Option Master)) (f : AreFirstWith Decodes recording place count frame masters) (systems : ℕ → Result Sib1 Sib1Reason)
      (decoded : (phase : ℕ) → phase < 5 - count → IsSystemAt IsSystem place (frames_from count frame phase) (master_at masters phase) (systems phase)) where
    -- the phases at which the frames lie in one period
    few_frames : count ≤ 4
    few_frames = f.frames.inside.few

    in_period : (phase : ℕ) → phase < 5 - count → phase + count ≤ 4
    in_period phase l = let few = few_frames in omega (arith, l, few)

    phase_of : (phase : ℕ) → phase + count ≤ 4 → phase < 5 - count
    phase_of phase l = omega (arith, l)

    made_is_entry : (phase : ℕ) (master : Master) → phase < 5 - count → master_at masters phase ≡ Some master →
        IsEntryAt Decodes IsSystem recording place (entry_of place (frames_from count frame phase) master (systems phase))
    made_is_entry phase master l e = record {
      id = refl;
      start = refl;
      period = in_period phase l;
      frames = f.frames;
      master = decoded_master count frame phase (master_at masters phase) master (f.have.are phase (in_period phase l)) e;
      sfn = refl;
      sib1 = decoded_system (frames_from count frame phase) (master_at masters phase) master (systems phase) (decoded phase l) e;
    }

    is_entry : (entry : Entry) → Contains (entries_of place count frame masters systems (5 - count)) entry → IsEntryAt Decodes IsSystem recording place entry
    is_entry entry h =
        let (phase, known, here) = Contains-in_joined (5 - count) (λ p. entry_at place (frames_from count frame p) (master_at masters p) (systems p)) entry h in
        let s = stands place (frames_from count frame phase) (master_at masters phase) (systems phase) entry here in
        subst (IsEntryAt Decodes IsSystem recording place) s.found (made_is_entry phase s.master known s.is)

    -- the first frames carry a MIB at some phase
    of_frames : Decodes place (frames_from count frame f.have.some.phase) f.have.some.master
    of_frames = decoded_master count frame f.have.some.phase (master_at masters f.have.some.phase) f.have.some.master
        (f.have.are f.have.some.phase f.have.some.known) f.have.some.is

    -- an entry has the frames with the first MIBs
    not_before : (entry : Entry) → IsEntryAt Decodes IsSystem recording place entry → ComeBefore (entry.frames, entry.frame) (count, frame) → ⊥
    not_before entry h before =
        f.frames.first entry.frames entry.frame (window_of entry h) before entry.phase (master_of entry) h.period (of_entry entry h)

    not_after : (entry : Entry) → IsEntryAt Decodes IsSystem recording place entry → ComeBefore (count, frame) (entry.frames, entry.frame) → ⊥
    not_after entry h before =
        none_before entry h count frame f.frames.inside before f.have.some.phase f.have.some.master f.have.some.known of_frames

    same_count : (entry : Entry) → IsEntryAt Decodes IsSystem recording place entry → entry.frames ≡ count
    same_count entry h = by_order (cases_lt entry.frames count) (cases_lt count entry.frames)
      where
        by_order : (entry.frames < count) ⊎ (count ≤ entry.frames) → (count < entry.frames) ⊎ (entry.frames ≤ count) → entry.frames ≡ count
        by_order (inl fewer) other = absurd (not_before entry h (inl fewer))
        by_order (inr low) (inl more) = absurd (not_after entry h (inl more))
        by_order (inr low) (inr high) = omega (arith, low, high)

    same_frame : (entry : Entry) → IsEntryAt Decodes IsSystem recording place entry → entry.frame ≡ frame
    same_frame entry h = by_order (cases_lt entry.frame frame) (cases_lt frame entry.frame)
      where
        by_order : (entry.frame < frame) ⊎ (frame ≤ entry.frame) → (frame < entry.frame) ⊎ (entry.frame ≤ frame) → entry.frame ≡ frame
        by_order (inl below) other = absurd (not_before entry h (inr (same_count entry h, below)))
        by_order (inr low) (inl above) = absurd (not_after entry h (inr (sym (same_count entry h), above)))
        by_order (inr low) (inr high) = omega (arith, low, high)

    entry_is_made : (entry : Entry) → IsEntryAt Decodes IsSystem recording place entry → Contains (entries_of place count frame masters systems (5 - count)) entry
    entry_is_made entry h =
        Contains-joined (5 - count) entry.phase (λ p. entry_at place (frames_from count frame p) (master_at masters p) (systems p)) entry known
        (by_decoded (master_at masters entry.phase) (f.have.are entry.phase period) (decoded entry.phase known))
      where
        counts : entry.frames ≡ count
        counts = same_count entry h

        frames : entry.frame ≡ frame
        frames = same_frame entry h

        period : entry.phase + count ≤ 4
        period = subst (λ c. entry.phase + c ≤ 4) counts h.period

        known : entry.phase < 5 - count
        known = phase_of entry.phase period

        of_this : Decodes place (frames_from count frame entry.phase) (master_of entry)
        of_this = subst (λ c. Decodes place (frames_from c frame entry.phase) (master_of entry)) counts
            (subst (λ j. Decodes place (frames_from entry.frames j entry.phase) (master_of entry)) frames (of_entry entry h))

        by_decoded : (o : Option Master) → IsDecodedAt Decodes place (frames_from count frame entry.phase) o → IsSystemAt IsSystem place (frames_from count frame entry.phase) o (systems entry.phase) →
            Contains (entry_at place (frames_from count frame entry.phase) o (systems entry.phase)) entry
        by_decoded None none answer = absurd (none (master_of entry) of_this)
        by_decoded (Some master) is answer =
            let same : master_of entry ≡ master = one place (frames_from count frame entry.phase) (master_of entry) master of_this is in
            let sfn : entry.sfn ≡ first_number master.mib.upper (frames_from count frame entry.phase) =
            h.sfn ∙ ap (λ (m : Master). first_number m.mib.upper (frames_of entry)) same
            ∙ ap (λ j. first_number master.mib.upper (frames_from count j entry.phase)) frames in
            let own : IsSystem place (first_number master.mib.upper (frames_from count frame entry.phase)) master.ports master.mib entry.sib1 =
            subst (λ (m : Master). IsSystem place (first_number master.mib.upper (frames_from count frame entry.phase)) m.ports m.mib entry.sib1) same
            (subst (λ n. IsSystem place n entry.ports entry.mib entry.sib1) sfn (answer_of_entry entry h)) in
            let sib1 = one_answer place (first_number master.mib.upper (frames_from count frame entry.phase)) master.ports master.mib entry.sib1 (systems entry.phase) own answer in
            let made : Entry = entry_of place (frames_from count frame entry.phase) master (systems entry.phase) in
            let whole : entry ≡ made = same_entry entry made h.id h.start sfn counts frames refl same sib1 in
            subst (λ e. Contains (made ∷ []) e) (sym whole) (Contains-here made [])

    -- the entries made are those of the cell
    pub entries_are : AreEntries (IsEntryAt Decodes IsSystem recording place) (entries_of place count frame masters systems (5 - count))
    entries_are = record {
      given = λ entry. (is_entry entry, entry_is_made entry);
      by_phase = joined_below-pairs (λ (a b : Entry). a.phase < b.phase) (5 - count) (λ p. entry_at place (frames_from count frame p) (master_at masters p) (systems p))
          (λ p l. one_by_phase place (frames_from count frame p) (master_at masters p) (systems p)) (λ i j x y below last a b. across i j x y below a b);
    }
      where
        across : (i j : ℕ) (x y : Entry) → i < j → Contains (entry_at place (frames_from count frame i) (master_at masters i) (systems i)) x →
            Contains (entry_at place (frames_from count frame j) (master_at masters j) (systems j)) y → x.phase < y.phase
        across i j x y below a b =
            let p = stands place (frames_from count frame i) (master_at masters i) (systems i) x a in
            let q = stands place (frames_from count frame j) (master_at masters j) (systems j) y b in
            omega (arith, below, ap (λ (e : Entry). e.phase) p.found, ap (λ (e : Entry). e.phase) q.found)

  -- a cell without a MIB has no entries
  pub no_entries : HasNoMasters Decodes recording place → AreEntries (IsEntryAt Decodes IsSystem recording place) []
  no_entries none = record {
    given = λ entry. (λ h. absurd (in_none entry h), λ h. absurd (contradicts entry h));
    by_phase = λ i j d below inside. absurd (omega (arith, inside));
  }
    where
      contradicts : (entry : Entry) → IsEntryAt Decodes IsSystem recording place entry → ⊥
      contradicts entry h = none entry.frames entry.frame (window_of entry h) entry.phase (master_of entry) h.period (of_entry entry h)

-- ---- a list that gains the entries of a hit

-- for a receiver, whose frames carry one MIB at a phase, and which gives one answer on system information
module _ (receiver : Receiver) (recording : List Sample) (hit : Hit) (place : Place) (at : place ≡ place_by receiver.carrier recording hit) where
  abbrev decodes : Decoding
  decodes = IsMasterFor receiver recording

  abbrev decoded : Informing
  decoded = IsSystemFor receiver recording

  pub adds_entries : (count frame : ℕ) (masters : List (Option Master)) (old new : List Entry) → AreFirstWith decodes recording place count frame masters →
      AddsPhases decoded place count frame masters (5 - count) old new → AddsHit (AreEntriesFor receiver recording) hit old new
  adds_entries count frame masters old new first adds = record {
    entries = entries_of place count frame masters adds.systems (5 - count);
    are = subst (λ (p : Place). AreEntries (IsEntryAt decodes decoded recording p) (entries_of place count frame masters adds.systems (5 - count))) at
        (entries_are decodes decoded (one_decoded_by receiver recording) (one_system receiver recording) recording place count frame masters first adds.systems adds.are_systems);
    adds = adds.adds;
  }

  pub adds_nothing : (list : List Entry) → HasNoMasters decodes recording place → Adds [] list list → AddsHit (AreEntriesFor receiver recording) hit list list
  adds_nothing list none adds = record {
    entries = [];
    are = subst (λ (p : Place). AreEntries (IsEntryAt decodes decoded recording p) []) at
        (no_entries decodes decoded (one_decoded_by receiver recording) (one_system receiver recording) recording place none);
    adds = adds;
  }
