-- A list has an entry of each cell that the receiver reads at each detection near one, and this entry has the fields that
-- were sent.
use Rattle.std.proofs.Common.{◌≡◌, ℕ, ◌+◌, ◌-◌, ◌/◌, ◌%◌, ◌<◌, ◌≤◌, ◌⊎◌, inl, inr, true, arith, refl, ap, sym, subst, ◌∙◌, List, length}
use Rattle.std.specs.Prelude.{Result, min}
use Rattle.std.specs.List.{Contains}
use Rattle.std.proofs.lemmas.Bool.{cases_lt}
use Rattle.cs_num.specs.declared.Sample.{Sample}
use Rattle.lte_types.specs.declared.frame.Half.{Half}
use Rattle.lte_types.specs.declared.sib1.Sib1.{Sib1}
use Rattle.lte_types.specs.declared.sib1_reason.Sib1Reason.{Sib1Reason}
use Rattle.lte_types.specs.declared.hit.Hit.{Hit}
use Rattle.lte_types.specs.declared.entry.Entry.{Entry}
use Rattle.lte_types.specs.Block.{HasFields}
use Rattle.lte_types.specs.Carrier.{prefix_of}
use Rattle.lte_types.specs.CellPlace.{Place}
use Rattle.lte_types.specs.Frames.{frames_from}
use Rattle.lte_types.specs.Identity.{cell_of}
use Rattle.pss_search.specs.Hits.{IsHit, found}
use Rattle.pss_search.proofs.Listed.{list_is_right}
use Rattle.sss_detect.specs.Place.{start_by_hit}
use Rattle.sss_detect.specs.Identity.{IsBest, prefix_scores, prefix_identity}
use Rattle.conv_code.specs.Cost.{word_cost}
use Rattle.pbch.specs.declared.master.Master.{Master}
use Rattle.explain.specs.Receiver.{Receiver, hits_by}
use Rattle.explain.specs.Entries.{IsMasterFor, IsEntryFor, IsListFor, place_of, frames_of, master_of, epoch, distance, is_same_cell}
use Rattle.explain.specs.System.{IsSystemFor}
use Rattle.explain.specs.Window.{IsInWindow, ComeBefore}
use Rattle.explain.specs.Masters.{entry_of}
use Rattle.explain.specs.Laws.{IsEntryOfSome}
use Rattle.explain.proofs.Late.{are_taken}
use Rattle.explain.proofs.FirstEntries.{one_decoded_by}
use Rattle.explain.proofs.Listed.{complete_of, sound_of}
use Rattle.clean_air.specs.Heard.{SentMaster, word_of_master, IsTakenBy}
use Rattle.clean_air.specs.Near.{IsFoundAt, IsFoundNear, place_found, epoch_at, first_sums, IsMasterDecoded, HoldsCell}
use Rattle.clean_air.specs.Nearest.{DecodedMasterIsListed}
use Rattle.clean_air.proofs.BestPairs.{best_of_identified, identified_by_best}
use Rattle.clean_air.proofs.SentBlock.{IsMasterWord, is_master_word, sent_mib}
use Rattle.clean_air.proofs.SomeSystem.{some_system}
use Rattle.clean_air.proofs.TruePlaces.{start_small, cell_is}

no_gap : (a c : ℕ) → min ((a - a) + (a - a)) c ≤ 9
no_gap a c = let e : (a - a) + (a - a) ≡ 0 = omega arith in rw e (omega arith)

-- an entry of the cell has the fields that were sent
pub record IsRight (receiver : Receiver) (recording : List Sample) (id : ℕ) (master : SentMaster) (spare : master.spare ≤ 1023) (first number : ℕ) (entry : Entry) : Type 0 where
  pub u : ℕ
  pub half : Half
  pub found : IsFoundNear receiver recording id first number u half entry.sfn
  pub ports : entry.ports ≡ master.ports
  pub block : HasFields entry.mib master.width master.duration master.resource (entry.sfn / 4) master.spare
  pub system : IsSystemFor receiver recording (place_found id u half) entry.sfn master.ports (sent_mib master spare entry.sfn) entry.sib1

-- the list has an entry of the cell, with these fields
pub record HasRightEntry (receiver : Receiver) (recording : List Sample) (list : List Entry) (identity : ℕ) (master : SentMaster) (spare : master.spare ≤ 1023) (first number : ℕ) : Type 0 where
  pub entry : Entry
  pub inside : Contains list entry
  pub id : entry.id ≡ identity
  pub near : distance (epoch entry) (epoch_at first number) ≤ 9
  pub right : IsRight receiver recording identity master spare first number entry

-- an entry that stands for another has the other's identity, and an epoch near the other's
near_sent : (other sent : Entry) (id at : ℕ) → sent.id ≡ id → epoch sent ≡ at → (other ≡ sent) ⊎ (is_same_cell other sent ≡ true) → (other.id ≡ id) × (distance (epoch other) at ≤ 9)
near_sent other sent id at same is (inl here) = (
  ap (λ (e : Entry). e.id) here ∙ same,
  subst (λ (e : Entry). distance (epoch e) at ≤ 9) (sym here) (subst (λ n. distance n at ≤ 9) (sym is) (no_gap _ _)),
)
near_sent other sent id at same is (inr cell) =
    let one = cell_is other.id sent.id (distance (epoch other) (epoch sent)) cell in
    (one.id ∙ same, subst (λ n. distance (epoch other) n ≤ 9) is one.near)

module _ (receiver : Receiver) (recording : List Sample) (id : ℕ) (master : SentMaster) (number t : ℕ) (half : Half) (single : 1 ≤ receiver.most_frames) (long : 57600 ≤ length recording)
    (takes : IsTakenBy receiver master) (read : IsMasterDecoded receiver recording id master number t half) where
  abbrev IsOfSome : Entry → Type 0
  IsOfSome entry = IsEntryOfSome (IsEntryFor receiver recording) (hits_by receiver.carrier recording) entry

  -- the MIB at a detection that gives the cell
  abbrev block : ℕ → Half → ℕ → Master
  block u other m = record { ports = master.ports; mib = sent_mib master takes.spare m; cost = word_cost (first_sums receiver recording (place_found id u other) m) (word_of_master master m) }

  block_decoded : (u : ℕ) (other : Half) (m : ℕ) → IsFoundNear receiver recording id (start_by_hit t half) number u other m →
      IsMasterFor receiver recording (place_found id u other) (frames_from 1 0 (m % 4)) (block u other m)
  block_decoded u other m found =
      let word_is : IsMasterWord master m (word_of_master master m) = is_master_word master m takes.count takes.spare found.fits in
      record {
        few = single;
        taken = takes.taken;
        decoded = record {
          word = word_of_master master m;
          decodes = read.each u other m found;
          mib = record {
            bandwidth = sym word_is.width;
            duration = sym word_is.duration;
            resource = sym word_is.resource;
            upper = sym word_is.upper;
            spare = sym word_is.spare;
          };
          cost = refl;
        };
      }

  -- ---- the entry of the detection at sample t

  abbrev place : Place
  place = place_found id t half

  here : IsFoundNear receiver recording id (start_by_hit t half) number t half number
  here = record { fits = read.fits; found = read.found; near = no_gap _ _ }

  -- no set of frames is tried before the first frame alone
  none_first : (few i : ℕ) → IsInWindow recording place.start few i → ComeBefore (few, i) (1, 0) → ⊥
  none_first few i window (inl fewer) = let some = window.some in omega (arith, some, fewer)
  none_first few i window (inr (same, below)) = omega (arith, below)

  module _ (sib1 : Result Sib1 Sib1Reason) (system : IsSystemFor receiver recording (place_found id t half) number master.ports (sent_mib master takes.spare number) sib1) where
    abbrev sent_entry : Entry
    sent_entry = entry_of (place_found id t half) (frames_from 1 0 (number % 4)) (block t half number) sib1

    sent_number : sent_entry.sfn ≡ number
    sent_number = let known = read.fits in omega (arith, known)

    is_entry : IsOfSome sent_entry
    is_entry =
        let hit : Hit = found recording t (id % 3) in
        let pair = identified_by_best (prefix_of receiver.carrier) recording hit (id / 3) half read.found.best in
        let cell : cell_of (id / 3) (id % 3) ≡ id = omega arith in
        let early = start_small t half in
        record {
          hit = hit;
          listed = (are_taken receiver.carrier recording hit).1 ((list_is_right recording hit).1 (record { root = omega arith; is_hit = read.found.hit; measured = refl }), read.found.room);
          is_of = record {
            id = sym (ap (λ (p : ℕ × Half). cell_of p.0 (id % 3)) pair ∙ cell);
            start = sym (ap (λ (p : ℕ × Half). start_by_hit t p.1) pair);
            period = omega arith;
            frames = record {
              inside = record { some = omega arith; few = omega arith; known = omega arith; whole = λ m below. omega (arith, long, below, early) };
              first = λ few i window before. absurd (none_first few i window before);
            };
            master = block_decoded t half number here;
            sfn = refl;
            sib1 = subst (λ n. IsSystemFor receiver recording place n master.ports (sent_mib master takes.spare number) sib1) (sym sent_number) system;
          };
        }

  -- ---- each entry of the cell

  module _ (other : Entry) (is : IsOfSome other) (same : other.id ≡ id) (close : distance (epoch other) (epoch_at (start_by_hit t half) number) ≤ 9) where
    abbrev hit : Hit
    hit = is.hit

    abbrev pair : ℕ × Half
    pair = prefix_identity (prefix_of receiver.carrier) recording is.hit

    abbrev there : Place
    there = place_found id is.hit.t (prefix_identity (prefix_of receiver.carrier) recording is.hit).1

    of_root : (n1 n2 its : ℕ) → n2 < 3 → its ≡ cell_of n1 n2 → its ≡ id → (n2 ≡ id % 3) × (n1 ≡ id / 3)
    of_root n1 n2 its few e same = (omega (arith, few, e, same), omega (arith, few, e, same))

    listed_hit : Contains (hits_by receiver.carrier recording) is.hit
    listed_hit = is.listed

    fits : other.sfn ≤ 1023
    fits = let s = is.is_of.sfn in omega (arith, s)

    found_here : IsFoundAt receiver recording id is.hit.t pair.1
    found_here =
        let taken = (are_taken receiver.carrier recording is.hit).0 is.listed in
        let right = (list_is_right recording is.hit).0 taken.0 in
        let (root, group) = of_root pair.0 is.hit.n2 other.id (omega (arith, right.root)) is.is_of.id same in
        let measured : is.hit ≡ found recording is.hit.t is.hit.n2 = right.measured in
        let best : IsBest (prefix_scores (prefix_of receiver.carrier) recording is.hit) pair.0 pair.1 = best_of_identified (prefix_of receiver.carrier) recording is.hit pair.0 pair.1 refl in
        record {
          known = (let k = best.known in let r = right.root in omega (arith, k, r, root, group));
          hit = subst (λ n2. IsHit recording is.hit.t n2) root right.is_hit;
          room = taken.1;
          best = subst (λ n2. IsBest (prefix_scores (prefix_of receiver.carrier) recording (found recording is.hit.t n2)) (id / 3) pair.1) root
              (subst (λ n1. IsBest (prefix_scores (prefix_of receiver.carrier) recording (found recording is.hit.t is.hit.n2)) n1 pair.1) group
              (subst (λ (h : Hit). IsBest (prefix_scores (prefix_of receiver.carrier) recording h) pair.0 pair.1) measured best));
        }

    start_is : other.start ≡ start_by_hit is.hit.t pair.1
    start_is = is.is_of.start

    near_here : IsFoundNear receiver recording id (start_by_hit t half) number is.hit.t pair.1 other.sfn
    near_here = record { fits = fits; found = found_here; near = subst (λ s. distance (epoch_at s other.sfn) (epoch_at (start_by_hit t half) number) ≤ 9) start_is close }

    at_place : place_of other ≡ there
    at_place = ap (λ i. record (place_of other) { id = i }) same ∙ ap (λ s. record there { start = s }) start_is

    abbrev own : Master
    own = block is.hit.t pair.1 other.sfn

    own_decoded : IsMasterFor receiver recording there (frames_from 1 0 (other.sfn % 4)) own
    own_decoded = block_decoded is.hit.t pair.1 other.sfn near_here

    -- the entry's frames are not after the first frame, which alone determines a MIB
    not_after : ComeBefore (1, 0) (other.frames, other.frame) → ⊥
    not_after before =
        let first : other.start < 19200 = (let small = start_small is.hit.t pair.1 in omega (arith, small, start_is)) in
        is.is_of.frames.first 1 0 (record { some = omega arith; few = omega arith; known = omega arith; whole = λ m below. omega (arith, long, first, below) }) before
        (other.sfn % 4) own (omega arith)
        (subst (λ p. IsMasterFor receiver recording p (frames_from 1 0 (other.sfn % 4)) own) (sym at_place) own_decoded)

    frames_one : other.frames ≡ 1
    frames_one = elim (cases_lt 1 other.frames) [
      | inl more ↦ absurd (not_after (inl more))
      | inr few ↦ let some = is.is_of.frames.inside.some in omega (arith, few, some)
    ]

    frame_none : other.frame ≡ 0
    frame_none = elim (cases_lt 0 other.frame) [
      | inl later ↦ absurd (not_after (inr (sym frames_one, later)))
      | inr none ↦ omega (arith, none)
    ]

    phase_is : other.phase ≡ other.sfn % 4
    phase_is = let s = is.is_of.sfn in let p = is.is_of.period in let f = frames_one in let z = frame_none in omega (arith, s, p, f, z)

    master_is : master_of other ≡ own
    master_is =
        one_decoded_by receiver recording there (frames_from 1 0 (other.sfn % 4)) (master_of other) own
        (subst (λ p. IsMasterFor receiver recording there (frames_from 1 0 p) (master_of other)) phase_is
        (subst (λ j. IsMasterFor receiver recording there (frames_from 1 j other.phase) (master_of other)) frame_none
        (subst (λ c. IsMasterFor receiver recording there (frames_from c other.frame other.phase) (master_of other)) frames_one
        (subst (λ p. IsMasterFor receiver recording p (frames_of other) (master_of other)) at_place is.is_of.master)))) own_decoded

    is_right : IsRight receiver recording id master takes.spare (start_by_hit t half) number other
    is_right = record {
      u = is.hit.t;
      half = pair.1;
      found = near_here;
      ports = ap (λ (m : Master). m.ports) master_is;
      block = record {
        bandwidth = ap (λ (m : Master). m.mib.bandwidth) master_is;
        duration = ap (λ (m : Master). m.mib.duration) master_is;
        resource = ap (λ (m : Master). m.mib.resource) master_is;
        upper = ap (λ (m : Master). m.mib.upper) master_is;
        spare = ap (λ (m : Master). m.mib.spare) master_is;
      };
      system = subst (λ (m : Master). IsSystemFor receiver recording there other.sfn m.ports m.mib other.sib1) master_is
          (subst (λ p. IsSystemFor receiver recording p other.sfn other.ports other.mib other.sib1) at_place is.is_of.sib1);
    }

  -- ---- the list's entry of the cell

  pub cell_entry : (list : List Entry) → IsListFor receiver recording list → HasRightEntry receiver recording list id master takes.spare (start_by_hit t half) number
  cell_entry list listed =
      let (sib1, system) = some_system receiver recording (place_found id t half) number master.ports (sent_mib master takes.spare number) long (start_small t half) in
      let sent : Entry = sent_entry sib1 system in
      let (other, stands) = complete_of (IsEntryFor receiver recording) (hits_by receiver.carrier recording) list sent listed (is_entry sib1 system) in
      let (same, close) = near_sent other sent id (epoch_at (start_by_hit t half) number) refl (ap (epoch_at (start_by_hit t half)) (sent_number sib1 system)) stands.same in
      record {
        entry = other;
        inside = stands.inside;
        id = same;
        near = close;
        right = is_right other (sound_of (IsEntryFor receiver recording) (hits_by receiver.carrier recording) list other listed stands.inside) same close;
      }

pub right_is_held : {receiver : Receiver} {recording : List Sample} {list : List Entry} {id : ℕ} {master : SentMaster} {spare : master.spare ≤ 1023} {first number : ℕ}
    (has : HasRightEntry receiver recording list id master spare first number) (Is : Entry → Type 0) → Is has.entry → HoldsCell list id first number master Is
right_is_held has Is is = record {
  entry = has.entry;
  inside = has.inside;
  id = has.id;
  near = has.near;
  ports = has.right.ports;
  block = has.right.block;
  is = is;
}

pub decoded_master_is_listed : DecodedMasterIsListed
decoded_master_is_listed receiver recording list id master number t half single long takes read listed =
    right_is_held (cell_entry receiver recording id master number t half single long takes read list listed) (λ entry. Unit {0}) tt
