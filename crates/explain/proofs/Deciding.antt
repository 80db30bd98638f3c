-- Two recordings that agree in their first 17 frames have the same hits, identities and slots, and so the same list.
use Rattle.std.proofs.Common.{◌≡◌, ℕ, suc, Bool, true, ◌+◌, ◌*◌, ◌<◌, ◌≤◌, Option, None, Result, Ok, Err, List, [], ◌∷◌, ℤ, length, arith, ap, ap₂, sym, subst, ◌∙◌}
use Rattle.std.specs.Prelude.{All, if◌then◌else◌}
use Rattle.std.specs.List.{AllZip, filter, flat_map}
use Rattle.finite.proofs.Lists.{values_below_same}
use Rattle.cs_num.specs.declared.Cpx.{Cpx}
use Rattle.cs_num.specs.declared.Sample.{Sample}
use Rattle.lte_types.specs.CellPlace.{Place}
use Rattle.lte_types.specs.declared.hit.Hit.{Hit}
use Rattle.lte_types.specs.declared.entry.Entry.{Entry}
use Rattle.lte_types.specs.Numerology.{normal, useful_start, frame_length, is_extended}
use Rattle.lte_types.specs.declared.mib.Mib.{Mib}
use Rattle.lte_types.specs.declared.sib1.Sib1.{Sib1}
use Rattle.lte_types.specs.declared.sib1_reason.Sib1Reason.{Sib1Reason}
use Rattle.lte_types.specs.declared.sib1_reason.Sib1Reason.TheVariants.{NotOnePort, Bandwidth as OtherWidth}
use Rattle.lte_types.specs.declared.carrier.Carrier.{Carrier}
use Rattle.lte_types.specs.Carrier.{prefix_of}
use Rattle.sib1_reader.specs.Subframe.{Subframe, subframe_by}
use Rattle.sib1_reader.specs.Attempt.{Reads}
use Rattle.pss_search.specs.Hits.{IsInSpan}
use Rattle.pss_search.proofs.Agree.{hits_agree}
use Rattle.sample_file.specs.Recording.{AgreeBefore}
use Rattle.observe.specs.Seen.{seen_symbol}
use Rattle.observe.proofs.Agree.{symbol_agrees}
use Rattle.sss_detect.proofs.Agree.{place_agrees}
use Rattle.soft_bits.specs.Soft.{SeenSlot}
use Rattle.soft_bits.specs.Places.{Valuing, placed_values}
use Rattle.pbch.specs.declared.master.Master.{Master}
use Rattle.pbch.specs.Values.{received_values_by, summed_values}
use Rattle.pbch.specs.Master.{DecodesMaster}
use Rattle.lte_types.specs.Frames.{Frames, frames_from}
use Rattle.lte_types.specs.declared.carrier.Carrier.TheVariants.{OnePort}
use Rattle.explain.specs.Frame.{frame_at, seen_slot}
use Rattle.explain.specs.Receiver.{Receiver, Subframes, broadcast_by, by_slots, hits_by, place_by, has_step_before, sums_by}
use Rattle.explain.specs.Entries.{IsEntryFor, IsMasterFor, AreEntriesFor, place_of, frames_of, master_of}
use Rattle.explain.specs.System.{even_frame, IsTried, IsReadFrom, FrameAnswers, IsSystemBy, IsSystemWith}
use Rattle.explain.specs.Deciding.{deciding_length, FirstFramesDecide, AreSameSubframes, LooksAtFirstFrames, AreDecidedFor, FirstFramesDecideAll}
use Rattle.explain.proofs.Late.{all_have_room}

-- ---- slots

-- a slot in a frame that begins at f and lies where the recordings agree
pub slot_agrees : (count f number identity : ℕ) (a b : List Sample) → AgreeBefore count a b → f + frame_length ≤ count → number < 20 →
    seen_slot a f number identity ≡ seen_slot b f number identity
unfolding seen_slot
slot_agrees count f number identity a b agree within known = ap (λ (s : List (List Cpx)). record { symbols = s; number = number; identity = identity })
    (values_below_same 7 (λ l. seen_symbol a (useful_start normal f number l)) (λ l. seen_symbol b (useful_start normal f number l))
    (λ l below. symbol_agrees count (useful_start normal f number l) a b agree (omega (arith, within, known, below))))

-- if the recordings agree in 17 frames, the slots in frames 0 to 15 from a start within the first are equal
deciding_slot : (start j number identity : ℕ) (a b : List Sample) → AgreeBefore deciding_length a b → start < frame_length → j ≤ 15 → number < 20 →
    seen_slot a (frame_at start j) number identity ≡ seen_slot b (frame_at start j) number identity
deciding_slot start j number identity a b agree early few known =
    slot_agrees deciding_length (frame_at start j) number identity a b agree (omega (arith, early, few)) known

-- ---- hits

-- the hits that a receiver uses are equal
taken_agree : (carrier : Carrier) (a b : List Sample) → AgreeBefore deciding_length a b → hits_by carrier a ≡ hits_by carrier b
taken_agree carrier a b agree =
    ap (λ (hits : List Hit). if is_extended (prefix_of carrier) then filter (has_step_before carrier) hits else hits)
    (hits_agree deciding_length a b agree (omega arith))

-- ---- receivers of slots

-- the PBCH soft values in slots with the normal prefix are equal
pub broadcast_agrees : (values : Valuing) (a b : List Sample) (place : Place) (j : ℕ) → AgreeBefore deciding_length a b → place.start < frame_length → j ≤ 15 →
    broadcast_by values a place j ≡ broadcast_by values b place j
broadcast_agrees values a b place j agree early few =
    ap (λ (slot : SeenSlot). received_values_by values slot) (deciding_slot place.start j 1 place.id a b agree early few (omega arith))

-- a receiver that reads such slots reads only the first frames
pub slots_look : (carrier : Carrier) (wanted : Option ℕ) (values : Valuing) → LooksAtFirstFrames (by_slots carrier wanted values)
slots_look carrier wanted values = record {
  broadcast = broadcast_agrees values;
  subframes = λ a b place j agree early few duration resource.
      ap₂ (λ (first second : SeenSlot). subframe_by carrier values first second duration resource)
      (deciding_slot place.start j 10 place.id a b agree early few (omega arith)) (deciding_slot place.start j 11 place.id a b agree early few (omega arith));
}

-- ---- system information

frame_agrees : (values : Subframes) (a b : List Sample) (place : Place) (mib : Mib) (j : ℕ) (answer : Result Sib1 Sib1Reason) → AreSameSubframes (Ok values) a b place j →
    FrameAnswers values a place mib j answer → FrameAnswers values b place mib j answer
frame_agrees values a b place mib j answer same reads = subst (λ (s : Subframe). Reads s answer) (same mib.duration mib.resource) reads

-- the first eight even-numbered frames are all tried
tried_frame : (recording : List Sample) (start sfn i : ℕ) → deciding_length ≤ length recording → start < frame_length → i < 8 → IsTried recording start sfn i
tried_frame recording start sfn i long early among = record { among = among; whole = omega (arith, long, early, among) }

-- the soft values of the tried frames are equal in both recordings
abbrev AreSameBefore16 : Subframes → List Sample → List Sample → Place → Type 0
AreSameBefore16 values a b place = (j : ℕ) → j ≤ 15 → AreSameSubframes (Ok values) a b place j

read_agrees : (values : Subframes) (a b : List Sample) (place : Place) (sfn : ℕ) (mib : Mib) (sib1 : Result Sib1 Sib1Reason) → AreSameBefore16 values a b place → AreSameBefore16 values b a place →
    deciding_length ≤ length a → deciding_length ≤ length b → place.start < frame_length →
    IsReadFrom (FrameAnswers values a place mib) a place.start sfn sib1 → IsReadFrom (FrameAnswers values b place mib) b place.start sfn sib1
read_agrees values a b place sfn mib (Ok fields) on back long_a long_b early read =
    let few = read.tried.among in
    record {
      i = read.i;
      tried = tried_frame b place.start sfn read.i long_b early few;
      answers = frame_agrees values a b place mib (even_frame sfn read.i) (Ok fields) (on _ (omega (arith, few))) read.answers;
      first = λ h other before answers.
          read.first h other before (frame_agrees values b a place mib (even_frame sfn h) (Ok other) (back _ (omega (arith, few, before))) answers);
    }
read_agrees values a b place sfn mib (Err reason) on back long_a long_b early read = record {
  none = λ i fields tried answers.
      let few = tried.among in
      read.none i fields (tried_frame a place.start sfn i long_a early few) (frame_agrees values b a place mib (even_frame sfn i) (Ok fields) (back _ (omega (arith, few))) answers);
  refused = frame_agrees values a b place mib (even_frame sfn 0) (Err reason) (on _ (omega arith)) read.refused;
}

searched_agrees : (carrier : Carrier) (values : Subframes) (a b : List Sample) (place : Place) (sfn ports : ℕ) (mib : Mib) (sib1 : Result Sib1 Sib1Reason) →
    AreSameBefore16 values a b place → AreSameBefore16 values b a place → deciding_length ≤ length a → deciding_length ≤ length b → place.start < frame_length →
    IsSystemBy carrier (FrameAnswers values a place mib) a place.start sfn ports mib sib1 → IsSystemBy carrier (FrameAnswers values b place mib) b place.start sfn ports mib sib1
searched_agrees carrier values a b place sfn ports mib (Err (NotOnePort decoded)) on back long_a long_b early s = s
searched_agrees carrier values a b place sfn ports mib (Err (OtherWidth decoded)) on back long_a long_b early s = s
searched_agrees carrier values a b place sfn ports mib sib1 on back long_a long_b early s =
    record { as_wanted = s.as_wanted; six_blocks = s.six_blocks; read = read_agrees values a b place sfn mib sib1 on back long_a long_b early s.read }

system_agrees : (carrier : Carrier) (subframe : Result Subframes Sib1Reason) (a b : List Sample) (place : Place) (sfn ports : ℕ) (mib : Mib) (sib1 : Result Sib1 Sib1Reason) →
    ((j : ℕ) → j ≤ 15 → AreSameSubframes subframe a b place j) → ((j : ℕ) → j ≤ 15 → AreSameSubframes subframe b a place j) → deciding_length ≤ length a → deciding_length ≤ length b →
    place.start < frame_length → IsSystemWith carrier subframe a place sfn ports mib sib1 → IsSystemWith carrier subframe b place sfn ports mib sib1
system_agrees carrier (Ok values) a b place sfn ports mib sib1 on back long_a long_b early s = searched_agrees carrier values a b place sfn ports mib sib1 on back long_a long_b early s
system_agrees carrier (Err reason) a b place sfn ports mib sib1 on back long_a long_b early s = s

-- ---- MIBs

module _ (receiver : Receiver) (look : LooksAtFirstFrames receiver) where
  -- the sums over some of frames 0 to 7 are equal
  sums_agree : (a b : List Sample) (place : Place) (frames : Frames) → AgreeBefore deciding_length a b → place.start < frame_length → frames.first + frames.count ≤ 8 →
      sums_by receiver a place frames ≡ sums_by receiver b place frames
  sums_agree a b place frames agree early few =
      ap (λ (rows : List (List ℤ)). summed_values place.id (receiver.count * frames.phase) (flat_map (λ row. row) rows))
      (values_below_same frames.count (λ m. receiver.broadcast a place (frames.first + m)) (λ m. receiver.broadcast b place (frames.first + m))
      (λ m below. look.broadcast a b place (frames.first + m) agree early (omega (arith, few, below))))

  master_agrees : (a b : List Sample) (place : Place) (frames : Frames) (master : Master) → AgreeBefore deciding_length a b → place.start < frame_length → frames.first + frames.count ≤ 8 →
      IsMasterFor receiver a place frames master → IsMasterFor receiver b place frames master
  master_agrees a b place frames master agree early few m =
      record { few = m.few; taken = m.taken; decoded = subst (λ (sums : List (List ℤ)). DecodesMaster sums master) (sums_agree a b place frames agree early few) m.decoded }

  -- ---- the entries of a hit

  start_early : (recording : List Sample) (hit : Hit) → (place_by receiver.carrier recording hit).start < frame_length
  start_early recording hit = omega arith

  -- an entry of a hit in one recording is an entry in the other
  entry_agrees : (a b : List Sample) (hit : Hit) (entry : Entry) → AgreeBefore deciding_length a b → deciding_length ≤ length a → deciding_length ≤ length b → IsInSpan hit →
      IsEntryFor receiver a hit entry → IsEntryFor receiver b hit entry
  entry_agrees a b hit entry agree long_a long_b span is = record {
    id = is.id ∙ ap (λ (p : Place). p.id) same_place;
    start = is.start ∙ ap (λ (p : Place). p.start) same_place;
    period = is.period;
    frames = record {
      inside = record { some = is.frames.inside.some; few = is.frames.inside.few; known = known; whole = λ m below. omega (arith, long_b, early, known, below) };
      first = λ few i window before phase master period decoded.
          is.frames.first few i
          (record { some = window.some; few = window.few; known = window.known; whole = λ m below. let last = window.known in omega (arith, long_a, early, last, below) })
          before phase master period (master_agrees b a (place_of entry) (frames_from few i phase) master (sym agree) early window.known decoded);
    };
    master = master_agrees a b (place_of entry) (frames_of entry) (master_of entry) agree early known is.master;
    sfn = is.sfn;
    sib1 = system_agrees receiver.carrier receiver.subframe a b (place_of entry) entry.sfn entry.ports entry.mib entry.sib1
        (λ j few. look.subframes a b (place_of entry) j agree early few) (λ j few. look.subframes b a (place_of entry) j (sym agree) early few) long_a long_b early is.sib1;
  }
    where
      known : entry.frame + entry.frames ≤ 8
      known = is.frames.inside.known

      same_place : place_by receiver.carrier a hit ≡ place_by receiver.carrier b hit
      same_place = place_agrees (prefix_of receiver.carrier) deciding_length a b hit agree (let last = span.to_last in omega (arith, last))

      early : entry.start < frame_length
      early = subst (λ s. s < frame_length) (sym is.start) (start_early a hit)

  -- the entries of a hit are equal
  entries_agree : (a b : List Sample) (hit : Hit) (entries : List Entry) → AgreeBefore deciding_length a b → deciding_length ≤ length a → deciding_length ≤ length b →
      IsInSpan hit → AreEntriesFor receiver a hit entries → AreEntriesFor receiver b hit entries
  entries_agree a b hit entries agree long_a long_b span are = record {
    given = λ entry. (
      (λ inside. entry_agrees a b hit entry agree long_a long_b span ((are.given entry).0 inside)),
      (λ is. (are.given entry).1 (entry_agrees b a hit entry (sym agree) long_b long_a span is)),
    );
    by_phase = are.by_phase;
  }

  -- ---- the list

  each_agrees : (a b : List Sample) (hits : List Hit) (groups : List (List Entry)) → AgreeBefore deciding_length a b → deciding_length ≤ length a → deciding_length ≤ length b →
      All IsInSpan hits → AllZip (AreEntriesFor receiver a) hits groups → AllZip (AreEntriesFor receiver b) hits groups
  each_agrees a b [] [] agree long_a long_b span each = tt
  each_agrees a b [] (g ∷ gs) agree long_a long_b span each = each
  each_agrees a b (hit ∷ hits) [] agree long_a long_b span each = each
  each_agrees a b (hit ∷ hits) (g ∷ gs) agree long_a long_b span each = (
    entries_agree a b hit g agree long_a long_b (span 0 hit (omega arith)) each.0,
    each_agrees a b hits gs agree long_a long_b (λ k d l. span (suc k) d (omega (arith, l))) each.1,
  )

  pub decided : AreDecidedFor receiver
  decided a b list long_a long_b agree explained = record {
    groups = explained.groups;
    each = subst (λ (hits : List Hit). AllZip (AreEntriesFor receiver b) hits explained.groups) (taken_agree receiver.carrier a b agree)
        (each_agrees a b (hits_by receiver.carrier a) explained.groups agree long_a long_b
        (λ k d inside. (all_have_room receiver.carrier a k d inside).span) explained.each);
    listed = explained.listed;
  }

pub first_frames_decide_all : FirstFramesDecideAll
first_frames_decide_all = decided

pub first_frames_decide : FirstFramesDecide
first_frames_decide = decided (by_slots OnePort None placed_values) (slots_look OnePort None placed_values)
