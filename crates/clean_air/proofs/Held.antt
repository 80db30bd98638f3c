-- A list holds each cell that its receiver hears, and has an entry for each of which it hears the master information
-- block.
use Rattle.std.proofs.Common.{◌≡◌, ℕ, ◌*◌, ◌/◌, ◌%◌, ◌<◌, ◌≤◌, inl, inr, arith, refl, ap, sym, subst, ◌∙◌, append-nil, Bool, List, length, map, true}
use Rattle.std.specs.Prelude.{Result}
use Rattle.std.specs.List.{Contains}
use Rattle.std.proofs.lemmas.Bool.{cases_lt}
use Rattle.cs_num.specs.declared.Sample.{Sample}
use Rattle.lte_types.specs.declared.carrier.Carrier.{Carrier}
use Rattle.lte_types.specs.declared.carrier.Carrier.TheVariants.{OnePort, TwoPorts, FourPorts, LongPrefix}
use Rattle.lte_types.specs.declared.sib1.Sib1.{Sib1}
use Rattle.lte_types.specs.declared.sib1_reason.Sib1Reason.{Sib1Reason}
use Rattle.lte_types.specs.declared.frame.Half.{Half}
use Rattle.lte_types.specs.declared.numerology.Prefix.{Prefix}
use Rattle.lte_types.specs.Carrier.{prefix_of, ports_of}
use Rattle.lte_types.specs.Numerology.{symbol_step}
use Rattle.lte_types.specs.CellPlace.{Place}
use Rattle.lte_types.specs.Frames.{Frames, frames_from}
use Rattle.lte_types.specs.declared.hit.Hit.{Hit}
use Rattle.lte_types.specs.declared.entry.Entry.{Entry}
use Rattle.pss_search.specs.Hits.{IsHit, found}
use Rattle.pss_search.proofs.Listed.{list_is_right}
use Rattle.lte_types.specs.Identity.{cell_of}
use Rattle.lte_types.specs.Timing.{start_of, number_at_start}
use Rattle.sss_detect.specs.Place.{start_by_hit}
use Rattle.sss_detect.specs.Identity.{prefix_identity}
use Rattle.grid_map.specs.Scrambling.{pbch_c_init}
use Rattle.pbch.specs.declared.master.Master.{Master}
use Rattle.pbch.specs.Values.{summed_values}
use Rattle.explain.specs.Receiver.{Receiver, is_wanted, hits_by, sums_by}
use Rattle.explain.specs.Entries.{place_of, frames_of, master_of, epoch, distance, is_same_cell, IsMasterFor, IsEntryFor, IsListFor}
use Rattle.explain.specs.System.{IsSystemFor}
use Rattle.explain.specs.Window.{IsInWindow, ComeBefore}
use Rattle.explain.specs.Masters.{entry_of}
use Rattle.explain.specs.Laws.{IsEntryOfSome}
use Rattle.explain.proofs.Entries.{same_entry}
use Rattle.explain.proofs.FirstEntries.{one_decoded_by}
use Rattle.explain.proofs.Late.{are_taken}
use Rattle.explain.proofs.Information.{one_system}
use Rattle.explain.proofs.Listed.{sound_of, complete_of}
use Rattle.cell_plan.specs.declared.cell.CellPlan.{CellPlan}
use Rattle.cell_grid.specs.Load.{sent_element}
use Rattle.cell_plan.specs.Plan.{IsSendableBy}
use Rattle.budget.specs.Received.{in_parts}
use Rattle.budget.proofs.Peaks.{standing_is_listed, only_hit_near_standing}
use Rattle.clean_air.specs.Broadcast.{DecodesFreely}
use Rattle.clean_air.specs.Clean.{system_of_carrier, IsKnownPlan, IsKnownBy, HoldsOne, IsSentEntryOf, IsMasterEntry, HoldsHeardBy, HoldsMasterBy, HoldsNearestBy, HoldsNearestMasterBy, HoldsFaithfulBy, HoldsBy, HoldsCleanBy, IsListBy, HoldsCells}
use Rattle.clean_air.specs.Heard.{SentMaster, word_of_master, master_of_plan, IsTakenBy, sent_place, IsMasterHeard, IsSystemHeardBy}
use Rattle.clean_air.specs.Near.{place_found, IsSystemRead, IsCellRead, HoldsCell}
use Rattle.clean_air.specs.Nearest.{IsSystemNearest}
use Rattle.clean_air.specs.HeardLaws.{FaithfulIsHeard, ThroughIsHeard}
use Rattle.clean_air.proofs.Carrying.{sent_elements_carry}
use Rattle.clean_air.proofs.LoadedErrors.{loaded_is_faithful}
use Rattle.clean_air.proofs.Masters.{sent_word_is_decoded}
use Rattle.clean_air.proofs.SentBlock.{IsMasterWord, is_master_word, counts_ports, sent_mib}
use Rattle.clean_air.proofs.SentSymbols.{IsTruePlace, first_frame}
use Rattle.clean_air.proofs.SomeSystem.{some_system}
use Rattle.clean_air.proofs.BestPairs.{identified_by_best}
use Rattle.clean_air.proofs.NearCells.{cell_entry, right_is_held, decoded_master_is_listed}
use Rattle.clean_air.proofs.NearestWords.{nearest_master_is_decoded}
use Rattle.clean_air.proofs.TruePlaces.{start_small, cell_is, AreNear, true_hit, true_start, near_true, near_starts, same_numbers}

-- a plan that the scheme can send has its fields in range
pub plan_known : (carrier : Carrier) (plan : CellPlan) → IsKnownBy carrier plan → IsKnownPlan plan
plan_known OnePort plan known = record { identity = known.identity; spare = known.spare }
plan_known TwoPorts plan known = record { identity = known.identity; spare = known.spare }
plan_known LongPrefix plan known = known
plan_known FourPorts plan known = known

-- the first whole frame's number has 10 bits
pub number_fits : (sfn offset : ℕ) → sfn ≤ 1023 → offset < 19200 → number_at_start sfn offset ≤ 1023
number_fits sfn offset known within = let e = (first_frame sfn offset known within).number in omega (arith, e)

-- a receiver whose lists hold each cell that it hears, and what it hears: it takes the blocks of its carrier; SIB1 that it
-- reads is its answer; it reads SIB1 that it hears or that is nearest; and it hears each cell that is received through
-- channels, and each to which the recording is faithful
pub record HearsCells (receiver : Receiver) : Type 0 where
  pub single : 1 ≤ receiver.most_frames
  pub taken : is_wanted receiver.ports (ports_of receiver.carrier) ≡ true
  pub answer : (recording : List Sample) (plan : CellPlan) (place : Place) (number : ℕ) → 57600 ≤ length recording → place.start < 19200 → (known : IsKnownBy receiver.carrier plan) →
      IsSystemRead receiver.subframe recording plan place number →
      IsSystemFor receiver recording place number (ports_of receiver.carrier)
      (sent_mib (master_of_plan receiver.carrier plan) (plan_known receiver.carrier plan known).spare number) (system_of_carrier receiver.carrier plan.sib1)
  pub heard : (recording : List Sample) (plan : CellPlan) (sfn offset : ℕ) → IsKnownBy receiver.carrier plan → IsSystemHeardBy receiver.carrier receiver.subframe recording plan sfn offset →
      IsSystemRead receiver.subframe recording plan (sent_place plan.identity offset) (number_at_start sfn offset)
  pub nearest : (recording : List Sample) (plan : CellPlan) (place : Place) (number : ℕ) → IsKnownBy receiver.carrier plan → IsSystemNearest receiver.subframe recording plan place number →
      IsSystemRead receiver.subframe recording plan place number
  pub through : ThroughIsHeard receiver
  pub faithful : FaithfulIsHeard receiver

step_fits : (carrier : Carrier) → symbol_step (prefix_of carrier) ≤ 832
step_fits OnePort = omega arith
step_fits TwoPorts = omega arith
step_fits FourPorts = omega arith
step_fits LongPrefix = omega arith

module _ (receiver : Receiver) (recording : List Sample) (identity : ℕ) (master : SentMaster) (sfn offset : ℕ) (long : 57600 ≤ length recording) (single : 1 ≤ receiver.most_frames)
    (takes : IsTakenBy receiver master) (heard : IsMasterHeard receiver recording identity master sfn offset) (answer : Result Sib1 Sib1Reason)
    (system : IsSystemFor receiver recording (sent_place identity offset) (number_at_start sfn offset) master.ports (sent_mib master takes.spare (number_at_start sfn offset)) answer) where
  abbrev prefix : Prefix
  prefix = prefix_of receiver.carrier

  abbrev number : ℕ
  number = number_at_start sfn offset

  abbrev place : Place
  place = sent_place identity offset

  -- the master block of the first whole frame, and its word
  abbrev block : Master
  block = record { ports = master.ports; mib = sent_mib master takes.spare number; cost = 0 }

  abbrev word : List Bool
  word = word_of_master master number

  abbrev Decodes : Place → Frames → Master → Type 0
  Decodes = IsMasterFor receiver recording

  abbrev IsOfSome : Entry → Type 0
  IsOfSome entry = IsEntryOfSome (IsEntryFor receiver recording) (hits_by receiver.carrier recording) entry

  fits : number ≤ 1023
  fits = number_fits sfn offset heard.number heard.within

  word_is : IsMasterWord master number word
  word_is = is_master_word master number takes.count takes.spare fits

  -- the first frame's soft values determine the word, and thus this MIB
  word_decoded : DecodesFreely (sums_by receiver recording place (frames_from 1 0 (number % 4))) word master.ports
  unfolding summed_values
  word_decoded =
      let values = receiver.broadcast recording place 0 in
      subst (λ received. DecodesFreely (summed_values identity (receiver.count * (number % 4)) received) word master.ports) (sym (append-nil values))
      (sent_word_is_decoded (pbch_c_init identity) (receiver.count * (number % 4)) master.ports word values word_is.size heard.broadcast word_is.check word_is.few)

  block_decoded : Decodes place (frames_from 1 0 (number % 4)) block
  block_decoded = record {
    few = single;
    taken = takes.taken;
    decoded = record {
      word = word;
      decodes = word_decoded.decodes;
      mib = record {
        bandwidth = sym word_is.width;
        duration = sym word_is.duration;
        resource = sym word_is.resource;
        upper = sym word_is.upper;
        spare = sym word_is.spare;
      };
      cost = sym word_decoded.free;
    };
  }

  -- the cell's entry
  abbrev pub sent_entry : Entry
  sent_entry = entry_of (sent_place identity offset) (frames_from 1 0 (number_at_start sfn offset % 4))
      (record { ports = master.ports; mib = sent_mib master takes.spare (number_at_start sfn offset); cost = 0 }) answer

  sent_number : sent_entry.sfn ≡ number
  sent_number = let known = fits in omega (arith, known)

  -- no set of frames is tried before the first frame alone
  none_first : (few i : ℕ) → IsInWindow recording (start_of offset) few i → ComeBefore (few, i) (1, 0) → ⊥
  none_first few i window (inl fewer) = let some = window.some in omega (arith, some, fewer)
  none_first few i window (inr (same, below)) = omega (arith, below)

  -- the entry belongs to a listed PSS detection
  is_entry : IsOfSome sent_entry
  is_entry =
      let h = true_hit offset heard.within in
      let hit : Hit = found recording h.t (identity % 3) in
      let low = h.is_hit.low in
      let high = h.is_hit.high in
      let room : symbol_step prefix ≤ h.t = (let step = step_fits receiver.carrier in omega (arith, step, low)) in
      let primary = heard.signals h.t h.half h.is_hit.is (omega (arith, room)) (omega (arith, high)) in
      let pair : prefix_identity prefix recording hit ≡ (identity / 3, h.half) =
      identified_by_best prefix recording hit (identity / 3) h.half (heard.identity h.t h.half h.is_hit.is (omega (arith, low)) high) in
      let cell : cell_of (identity / 3) (identity % 3) ≡ identity = omega arith in
      record {
        hit = hit;
        listed = (are_taken receiver.carrier recording hit).1 (standing_is_listed recording h.t (identity % 3) primary (omega arith) (omega (arith, low)) high, room);
        is_of = record {
          id = sym (ap (λ (p : ℕ × Half). cell_of p.0 (identity % 3)) pair ∙ cell);
          start = sym (ap (λ (p : ℕ × Half). start_by_hit h.t p.1) pair ∙ true_start offset h.t h.half heard.within h.is_hit.is);
          period = omega arith;
          frames = record {
            inside = record { some = omega arith; few = omega arith; known = omega arith; whole = λ m below. omega (arith, long, below) };
            first = λ few i window before. absurd (none_first few i window before);
          };
          master = block_decoded;
          sfn = refl;
          sib1 = subst (λ n. IsSystemFor receiver recording place n master.ports block.mib answer) (sym sent_number) system;
        };
      }

  -- an entry with the cell's identity and a start near the cell's has the cell's start: its PSS detection, with the
  -- cell's root, is near a true position, and no other position nearby is a detection with this root
  start_is : (other : Entry) (is : IsOfSome other) → other.id ≡ identity → AreNear other.start (start_of offset) → other.start ≡ start_of offset
  start_is other is id near =
      let hit = is.hit in
      let half = (prefix_identity prefix recording hit).1 in
      let taken = (are_taken receiver.carrier recording hit).0 is.listed in
      let room = taken.1 in
      let right = (list_is_right recording hit).0 taken.0 in
      let place = near_true offset hit.t half heard.within right.is_hit.from_first (subst (λ a. AreNear a (start_of offset)) is.is_of.start near) in
      let primary = heard.signals place.u half place.is (omega (arith, room, place.below)) (omega (arith, place.above, right.is_hit.to_last)) in
      let root : hit.n2 ≡ identity % 3 = of_root (prefix_identity prefix recording hit).0 hit.n2 other.id (omega (arith, right.root)) is.is_of.id id in
      let same = only_hit_near_standing recording place.u hit.t (identity % 3) primary place.below place.above (subst (λ n2. IsHit recording hit.t n2) root right.is_hit) in
      is.is_of.start ∙ true_start offset hit.t half heard.within (subst (λ t. IsTruePlace offset t half) (sym same) place.is)
    where
      of_root : (n1 n2 id : ℕ) → n2 < 3 → id ≡ cell_of n1 n2 → id ≡ identity → n2 ≡ identity % 3
      of_root n1 n2 id few e same = omega (arith, few, e, same)

  at_place : (other : Entry) → other.id ≡ identity → other.start ≡ start_of offset → place_of other ≡ place
  at_place other id start = ap (λ i. record (place_of other) { id = i }) id ∙ ap (λ s. record place { start = s }) start

  -- the MIB of an entry with the cell's identity and start is determined by its frames
  there : (other : Entry) → IsOfSome other → other.id ≡ identity → other.start ≡ start_of offset → Decodes place (frames_of other) (master_of other)
  there other is id start = subst (λ p. Decodes p (frames_of other) (master_of other)) (at_place other id start) is.is_of.master

  -- an entry's frames are not after the first frame, which alone determines a MIB
  not_after : (other : Entry) → IsOfSome other → other.id ≡ identity → other.start ≡ start_of offset → ComeBefore (1, 0) (other.frames, other.frame) → ⊥
  not_after other is id start before =
      let first : start_of offset < 19200 = omega arith in
      is.is_of.frames.first 1 0 (record { some = omega arith; few = omega arith; known = omega arith; whole = λ m below. omega (arith, long, first, start, below) }) before
      (number % 4) block (omega arith)
      (subst (λ p. Decodes p (frames_from 1 0 (number % 4)) block) (sym (at_place other id start)) block_decoded)

  -- an entry with the cell's identity, start and frame number is the cell's entry: it has the same MIB from the same
  -- frame
  entry_is : (other : Entry) → IsOfSome other → other.id ≡ identity → other.start ≡ start_of offset → other.sfn ≡ number → other ≡ sent_entry
  entry_is other is id start sfn_is =
      let frames : other.frames ≡ 1 = elim (cases_lt 1 other.frames) [
        | inl more ↦ absurd (not_after other is id start (inl more))
        | inr few ↦ let some = is.is_of.frames.inside.some in omega (arith, few, some)
      ] in
      let frame : other.frame ≡ 0 = elim (cases_lt 0 other.frame) [
        | inl later ↦ absurd (not_after other is id start (inr (sym frames, later)))
        | inr none ↦ omega (arith, none)
      ] in
      let phase : other.phase ≡ number % 4 = omega (arith, is.is_of.sfn, is.is_of.period, frames, frame, sfn_is) in
      let same : master_of other ≡ block = one_decoded_by receiver recording place (frames_from 1 0 (number % 4)) (master_of other) block
      (subst (λ p. Decodes place (frames_from 1 0 p) (master_of other)) phase
      (subst (λ j. Decodes place (frames_from 1 j other.phase) (master_of other)) frame
      (subst (λ c. Decodes place (frames_from c other.frame other.phase) (master_of other)) frames (there other is id start)))) block_decoded in
      let own : IsSystemFor receiver recording place number block.ports block.mib other.sib1 =
      subst (λ (m : Master). IsSystemFor receiver recording place number m.ports m.mib other.sib1) same
      (subst (λ n. IsSystemFor receiver recording place n other.ports other.mib other.sib1) sfn_is
      (subst (λ p. IsSystemFor receiver recording p other.sfn other.ports other.mib other.sib1) (at_place other id start) is.is_of.sib1)) in
      same_entry other sent_entry id start (sfn_is ∙ sym sent_number) frames frame phase same
      (one_system receiver recording place number master.ports block.mib other.sib1 answer own system)

  -- an entry of the same cell is equal to it
  same_if_near : (other : Entry) → IsOfSome other → is_same_cell other sent_entry ≡ true → other ≡ sent_entry
  same_if_near other is same =
      let cell = cell_is other.id identity (distance (epoch other) (epoch sent_entry)) same in
      let small = start_small is.hit.t (prefix_identity prefix recording is.hit).1 in
      let low : other.start < 19200 = omega (arith, small, is.is_of.start) in
      let first : start_of offset < 19200 = omega arith in
      let fits : other.sfn < 1024 = omega (arith, is.is_of.sfn) in
      let sent : sent_entry.sfn < 1024 = omega arith in
      let start = start_is other is cell.id (near_starts other.start (start_of offset) other.sfn sent_entry.sfn low first fits sent cell.near) in
      entry_is other is cell.id start (same_numbers other.start (start_of offset) other.sfn sent_entry.sfn low first fits sent cell.near start ∙ sent_number)

  module _ (list : List Entry) (listed : IsListFor receiver recording list) where
    -- the list contains the entry
    in_list : Contains list sent_entry
    in_list =
        let (other, stands) = complete_of (IsEntryFor receiver recording) (hits_by receiver.carrier recording) list sent_entry listed is_entry in
        let same : other ≡ sent_entry = elim stands.same [
          | inl here ↦ here
          | inr near ↦ same_if_near other (sound_of (IsEntryFor receiver recording) (hits_by receiver.carrier recording) list other listed stands.inside) near
        ] in
        subst (Contains list) same stands.inside

    -- and no other with its identity, start and number: as whatever the entry is
    pub heard_is_held : (Is : Entry → Type 0) → Is sent_entry → HoldsOne list identity (start_of offset) (number_at_start sfn offset) Is
    heard_is_held Is is = record {
      entry = sent_entry;
      inside = in_list;
      id = refl;
      start = refl;
      sfn = sent_number;
      sent = is;
      only = λ other there id start number. entry_is other (sound_of (IsEntryFor receiver recording) (hits_by receiver.carrier recording) list other listed there) id start number;
    }

-- ---- the list

module _ (receiver : Receiver) (hears : HearsCells receiver) (recording : List Sample) (list : List Entry) (long : 57600 ≤ length recording) (listed : IsListFor receiver recording list) where
  -- it holds each cell that is heard
  pub holds_heard : HoldsHeardBy receiver recording list
  holds_heard plan sfn offset known heard =
      let master = master_of_plan receiver.carrier plan in
      let takes : IsTakenBy receiver master = record { count = counts_ports receiver.carrier; taken = hears.taken; spare = (plan_known receiver.carrier plan known).spare } in
      heard_is_held receiver recording plan.identity master sfn offset long hears.single takes heard.master (system_of_carrier receiver.carrier plan.sib1)
      (hears.answer recording plan (sent_place plan.identity offset) (number_at_start sfn offset) long (omega arith) known (hears.heard recording plan sfn offset known heard.system)) list listed (IsSentEntryOf receiver.carrier plan (number_at_start sfn offset))
      (record { ports = refl; block = record { bandwidth = refl; duration = refl; resource = refl; upper = refl; spare = refl }; sib1 = refl; cost = refl; frames = refl; frame = refl })

  -- and has an entry for each whose master information block is
  pub holds_masters : HoldsMasterBy receiver recording list
  holds_masters identity master sfn offset takes heard =
      let number = number_at_start sfn offset in
      let (sib1, system) = some_system receiver recording (sent_place identity offset) number master.ports (sent_mib master takes.spare number) long (omega arith) in
      heard_is_held receiver recording identity master sfn offset long hears.single takes heard sib1 system list listed (IsMasterEntry master (number_at_start sfn offset))
      (record { ports = refl; block = record { bandwidth = refl; duration = refl; resource = refl; upper = refl; spare = refl }; cost = refl; frames = refl; frame = refl })

  -- and each cell that is read at each detection near one
  holds_read : (plan : CellPlan) (number t : ℕ) (half : Half) → IsKnownBy receiver.carrier plan → IsCellRead receiver recording plan number t half →
      HoldsCell list plan.identity (start_by_hit t half) number (master_of_plan receiver.carrier plan) (λ entry. entry.sib1 ≡ system_of_carrier receiver.carrier plan.sib1)
  holds_read plan number t half known read =
      let master : SentMaster = master_of_plan receiver.carrier plan in
      let spare = (plan_known receiver.carrier plan known).spare in
      let takes : IsTakenBy receiver master = record { count = counts_ports receiver.carrier; taken = hears.taken; spare = spare } in
      let has = cell_entry receiver recording plan.identity master number t half hears.single long takes read.master list listed in
      let right = has.right in
      let place : Place = place_found plan.identity right.u right.half in
      right_is_held has (λ entry. entry.sib1 ≡ system_of_carrier receiver.carrier plan.sib1)
      (one_system receiver recording place has.entry.sfn master.ports (sent_mib master spare has.entry.sfn) has.entry.sib1 (system_of_carrier receiver.carrier plan.sib1) right.system
      (hears.answer recording plan place has.entry.sfn long (start_small right.u right.half) known (read.system right.u right.half has.entry.sfn right.found)))

  -- thus each that is nearest
  pub holds_nearest : HoldsNearestBy receiver recording list
  holds_nearest plan number t half known near =
      let takes : IsTakenBy receiver (master_of_plan receiver.carrier plan) = record { count = counts_ports receiver.carrier; taken = hears.taken; spare = (plan_known receiver.carrier plan known).spare } in
      holds_read plan number t half known (record {
        master = nearest_master_is_decoded receiver recording plan.identity (master_of_plan receiver.carrier plan) number t half takes near.master;
        system = λ u other m found. hears.nearest recording plan (place_found plan.identity u other) m known (near.system u other m found);
      })

  -- and each of which the MIB is
  pub holds_nearest_masters : HoldsNearestMasterBy receiver recording list
  holds_nearest_masters identity master number t half takes near =
      decoded_master_is_listed receiver recording list identity master number t half hears.single long takes
      (nearest_master_is_decoded receiver recording identity master number t half takes near) listed

-- so does the list of each recording, and it holds what is heard by a law
pub heard_are_held : (receiver : Receiver) → HearsCells receiver → HoldsCells receiver
heard_are_held receiver hears recording list long listed = record {
  heard = heard;
  master = holds_masters receiver hears recording list long listed;
  nearest = holds_nearest receiver hears recording list long listed;
  nearest_master = holds_nearest_masters receiver hears recording list long listed;
  through = λ plan grids sfn offset known through. heard plan sfn offset known (hears.through recording plan grids sfn offset known through);
  faithful = λ plan grids sfn offset gains known faithful. heard plan sfn offset known (hears.faithful recording plan grids sfn offset gains known faithful);
}
  where
    heard : HoldsHeardBy receiver recording list
    heard = holds_heard receiver hears recording list long listed

-- the list contains the cells for which the recording is clean, whatever else they send
pub loaded_are_held : (carrier : Carrier) (recording : List Sample) (list : List Entry) → 57600 ≤ length recording → HoldsFaithfulBy carrier recording list → HoldsBy carrier recording list
loaded_are_held carrier recording list long holds plan grids sfn offset gains eps known clean =
    holds plan grids sfn offset (map in_parts gains) known (loaded_is_faithful carrier recording plan grids sfn offset gains eps long clean)

-- the list contains the cells that send nothing elsewhere, or a numbered load
pub clean_are_held : (carrier : Carrier) (recording : List Sample) (list : List Entry) → HoldsBy carrier recording list → HoldsCleanBy carrier recording list
clean_are_held carrier recording list holds load plan sfn offset gains eps known clean =
    holds plan (λ port. sent_element load port plan) sfn offset gains eps known (record {
      number = clean.number;
      within = clean.within;
      carries = λ port same. sent_elements_carry load port plan;
      gains_are = clean.gains_are;
      bound = clean.bound;
      near = clean.near;
    })

pub is_list_by : (receiver : Receiver) → HoldsCells receiver → (recording : List Sample) (list : List Entry) → 57600 ≤ length recording → IsListFor receiver recording list →
    IsListBy receiver recording list
is_list_by receiver holds recording list long listed =
    let seen = holds recording list long listed in
    let loaded = loaded_are_held receiver.carrier recording list long seen.faithful in
    record {
      explained = listed;
      heard = seen.heard;
      master = seen.master;
      nearest = seen.nearest;
      nearest_master = seen.nearest_master;
      through = seen.through;
      faithful = seen.faithful;
      loaded = loaded;
      holds = clean_are_held receiver.carrier recording list loaded;
    }

-- a plan that a scheme can send is a known plan
pub sendable_is_known : (carrier : Carrier) (plan : CellPlan) → IsSendableBy carrier plan → IsKnownBy carrier plan
sendable_is_known OnePort plan sendable = sendable
sendable_is_known TwoPorts plan sendable = sendable
sendable_is_known LongPrefix plan sendable = record { identity = sendable.identity; spare = sendable.spare }
sendable_is_known FourPorts plan sendable = record { identity = sendable.identity; spare = sendable.spare }
