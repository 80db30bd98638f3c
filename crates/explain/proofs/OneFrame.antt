-- A MIB from a single frame gives an entry of its hit, and if frames are not combined there is no other.
use Rattle.std.proofs.Common.{◌≡◌, ◌⊎◌, inl, inr, ℕ, ◌+◌, ◌<◌, ◌≤◌, arith, sym, subst}
use Rattle.lte_types.specs.Frames.{frames_from}
use Rattle.pbch.specs.declared.master.Master.{Master}
use Rattle.explain.specs.Frame.{IsWhole}
use Rattle.explain.specs.Window.{IsInWindow}
use Rattle.explain.specs.Entries.{master_of, place_of, IsMasterFor}
use Rattle.explain.specs.Laws.{OneFrameDecodes, OneFrameAlone, OneFrameIsListed}
use Rattle.explain.proofs.Listed.{is_complete}

pub one_frame_decodes : OneFrameDecodes
one_frame_decodes receiver recording hit entry is = record {
  id = is.id;
  start = is.start;
  period = omega (arith, is.one, is.phase);
  frames = record {
    inside = record {
      some = omega (arith, is.one);
      few = omega (arith, is.one);
      known = omega (arith, is.one, is.known);
      whole = λ m below. omega (arith, is.one, is.whole, below);
    };
    first = λ few i window before phase master period decoded. by_order few i window phase master period decoded before;
  };
  master = subst (λ c. IsMasterFor receiver recording (place_of entry) (frames_from c entry.frame entry.phase) (master_of entry)) (sym is.one) is.master;
  sfn = is.sfn;
  sib1 = is.sib1;
}
  where
    by_order : (few i : ℕ) → IsInWindow recording entry.start few i → (phase : ℕ) (master : Master) → phase + few ≤ 4 →
        IsMasterFor receiver recording (place_of entry) (frames_from few i phase) master → (few < entry.frames) ⊎ ((few ≡ entry.frames) × (i < entry.frame)) → ⊥
    by_order few i window phase master period decoded (inl fewer) = absurd (omega (arith, window.some, fewer, is.one))
    by_order few i window phase master period decoded (inr (same, below)) =
        let one : few ≡ 1 = omega (arith, same, is.one) in
        is.first i phase master below (omega (arith, one, period)) (subst (λ c. IsMasterFor receiver recording (place_of entry) (frames_from c i phase) master) one decoded)

pub one_frame_alone : OneFrameAlone
one_frame_alone receiver recording hit entry single is = record {
  id = is.id;
  start = is.start;
  one = one;
  phase = omega (arith, is.period, one);
  known = omega (arith, is.frames.inside.known, one);
  whole = omega (arith, whole);
  first = λ j phase master below early decoded.
      is.frames.first 1 j
      (record { some = omega arith; few = omega arith; known = omega (arith, below, is.frames.inside.known); whole = λ m within. omega (arith, within, below, whole) })
      (inr (sym one, below)) phase master (omega (arith, early)) decoded;
  master = subst (λ c. IsMasterFor receiver recording (place_of entry) (frames_from c entry.frame entry.phase) (master_of entry)) one is.master;
  sfn = is.sfn;
  sib1 = is.sib1;
}
  where
    one : entry.frames ≡ 1
    one = omega (arith, is.master.few, is.frames.inside.some, single)

    whole : IsWhole recording entry.start (entry.frame + 0)
    whole = is.frames.inside.whole 0 (omega (arith, one))

pub one_frame_is_listed : OneFrameIsListed
one_frame_is_listed receiver recording list hit entry explained listed is =
    is_complete receiver recording list entry explained (record { hit = hit; listed = listed; is_of = one_frame_decodes receiver recording hit entry is })
