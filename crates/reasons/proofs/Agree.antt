-- Two recordings that agree in their first 17 frames have the same reasons.
use Rattle.std.proofs.Common.{◌≡◌, ℕ, suc, ◌+◌, ◌*◌, ◌%◌, ◌<◌, Bool, true, false, List, [], ◌∷◌, ℤ, arith, refl, ap, subst, ◌∙◌}
use Rattle.std.proofs.Math.Path.{fun_ext}
use Rattle.std.specs.Prelude.{All, MatchBool, nat_eq, filter}
use Rattle.std.specs.List.{AllZip, flat_map}
use Rattle.std.proofs.lemmas.List.Elements.{All-filter}
use Rattle.finite.proofs.Lists.{values_below_same}
use Rattle.cs_num.specs.declared.Sample.{Sample}
use Rattle.lte_types.specs.CellPlace.{Place}
use Rattle.lte_types.specs.Carrier.{prefix_of}
use Rattle.lte_types.specs.Frames.{frames_from}
use Rattle.lte_types.specs.Numerology.{frame_length}
use Rattle.lte_types.specs.declared.entry.Entry.{Entry}
use Rattle.lte_types.specs.declared.hit.Hit.{Hit}
use Rattle.sample_file.specs.Recording.{AgreeBefore}
use Rattle.pss_search.specs.declared.measure.Metric.{Metric}
use Rattle.pss_search.specs.Hits.{IsInSpan, hits_of}
use Rattle.pss_search.proofs.Agree.{metric_agrees, strongest_agrees, hits_agree}
use Rattle.pss_search.proofs.Listed.{listed_in_span}
use Rattle.sss_detect.proofs.Agree.{scores_agree, prefix_agrees, place_agrees}
use Rattle.pbch.specs.Values.{summed_values}
use Rattle.explain.specs.Deciding.{deciding_length, LooksAtFirstFrames}
use Rattle.explain.specs.Receiver.{Receiver, has_step_before, place_by, sums_by}
use Rattle.explain.proofs.Deciding.{decided}
use Rattle.reasons.specs.declared.reason.Reason.{Reason}
use Rattle.reasons.specs.declared.reason.Reason.TheVariants.{OtherIdentity, NoMib}
use Rattle.reasons.specs.Attempt.{IsClosest}
use Rattle.reasons.specs.Strongest.{thousandths}
use Rattle.reasons.specs.Reason.{has_identity, has_root, ratio_of, no_room, other_cell, HasNoHit, HasNoMib, IsFirstFailing, AreReasons}
use Rattle.reasons.specs.Laws.{FirstFramesDecideReasons}

-- ---- the strongest sample

no_hit_agrees : (n2 : ℕ) (a b : List Sample) (reasons : List Reason) → AgreeBefore deciding_length a b → HasNoHit a n2 reasons → HasNoHit b n2 reasons
no_hit_agrees n2 a b reasons agree is = record {
  place = is.place;
  strongest =
      let last = is.strongest.strongest.before_end in
      let same = metric_agrees deciding_length is.place.t n2 a b agree (omega (arith, last)) in
      record {
        strongest = strongest_agrees deciding_length n2 is.place.t a b agree (omega arith) is.strongest.strongest;
        ratio = is.strongest.ratio ∙ ap (λ (m : Metric). thousandths m.peak m.energy n2) same;
      };
  is = is.is;
}

-- ---- hits

module _ (receiver : Receiver) (look : LooksAtFirstFrames receiver) (a b : List Sample) (agree : AgreeBefore deciding_length a b) where
  same_place : (hit : Hit) → IsInSpan hit → place_by receiver.carrier a hit ≡ place_by receiver.carrier b hit
  same_place hit span = place_agrees (prefix_of receiver.carrier) deciding_length a b hit agree (let last = span.to_last in omega (arith, last))

  other_agrees : (identity : ℕ) (hit : Hit) → IsInSpan hit → other_cell receiver.carrier a identity hit ≡ other_cell receiver.carrier b identity hit
  other_agrees identity hit span =
      let best = prefix_agrees (prefix_of receiver.carrier) deciding_length a b hit agree (let last = span.to_last in omega (arith, last)) in
      rw (scores_agree (prefix_of receiver.carrier) deciding_length a b hit agree (let last = span.to_last in omega (arith, last)), best) refl

  early : (hit : Hit) → (place_by receiver.carrier a hit).start < frame_length
  early hit = omega arith

  sums_agree : (hit : Hit) (phase : ℕ) → IsInSpan hit →
      sums_by receiver a (place_by receiver.carrier a hit) (frames_from 1 0 phase) ≡ sums_by receiver b (place_by receiver.carrier b hit) (frames_from 1 0 phase)
  sums_agree hit phase span =
      let place = place_by receiver.carrier a hit in
      ap (λ (rows : List (List ℤ)). summed_values place.id (receiver.count * phase) (flat_map (λ row. row) rows))
      (values_below_same 1 (λ m. receiver.broadcast a place (0 + m)) (λ m. receiver.broadcast b place (0 + m))
      (λ m below. look.broadcast a b place (0 + m) agree (early hit) (omega (arith, below))))
      ∙ ap (λ (p : Place). sums_by receiver b p (frames_from 1 0 phase)) (same_place hit span)

  missing_agrees : (hit : Hit) (reason : Reason) → IsInSpan hit → HasNoMib receiver a hit reason → HasNoMib receiver b hit reason
  missing_agrees hit reason span m =
      let sums = fun_ext (λ phase. sums_agree hit phase span) in
      record {
        attempt = m.attempt;
        closest = subst (λ values. IsClosest values m.attempt) sums m.closest;
        is = m.is ∙ ap (λ (p : Place). NoMib (record { t = hit.t; ratio = ratio_of hit; start = p.start; attempt = m.attempt })) (same_place hit span);
      }

  failing_agrees : (identity : ℕ) (hit : Hit) (reason : Reason) → IsInSpan hit → IsFirstFailing receiver a identity hit reason → IsFirstFailing receiver b identity hit reason
  failing_agrees identity hit reason span = by (has_step_before receiver.carrier hit) (nat_eq (place_by receiver.carrier a hit).id identity) (nat_eq (place_by receiver.carrier b hit).id identity)
      (ap (λ (p : Place). nat_eq p.id identity) (same_place hit span))
    where
      by : (room same other : Bool) → same ≡ other →
          MatchBool room (MatchBool same (HasNoMib receiver a hit reason) (reason ≡ OtherIdentity (other_cell receiver.carrier a identity hit))) (reason ≡ no_room receiver.carrier hit) →
          MatchBool room (MatchBool other (HasNoMib receiver b hit reason) (reason ≡ OtherIdentity (other_cell receiver.carrier b identity hit))) (reason ≡ no_room receiver.carrier hit)
      by true true true e p = missing_agrees hit reason span p
      by true true false e p = absurd (cc (e))
      by true false true e p = absurd (cc (e))
      by true false false e p = p ∙ ap (λ c. OtherIdentity c) (other_agrees identity hit span)
      by false same other e p = p

  each_agrees : (identity : ℕ) (hits : List Hit) (reasons : List Reason) → All IsInSpan hits → AllZip (IsFirstFailing receiver a identity) hits reasons → AllZip (IsFirstFailing receiver b identity) hits reasons
  each_agrees identity [] [] span each = tt
  each_agrees identity [] (r ∷ rs) span each = each
  each_agrees identity (hit ∷ hits) [] span each = each
  each_agrees identity (hit ∷ hits) (r ∷ rs) span each =
      (failing_agrees identity hit r (span 0 hit (omega arith)) each.0, each_agrees identity hits rs (λ k d l. span (suc k) d (omega (arith, l))) each.1)

  -- ---- the reasons

  are_agree : (identity : ℕ) (kept : List Entry) (hits : List Hit) (reasons : List Reason) → All IsInSpan hits → AreReasons receiver a identity kept hits reasons → AreReasons receiver b identity kept hits reasons
  are_agree identity (e ∷ es) hits reasons span are = are
  are_agree identity [] [] reasons span are = no_hit_agrees (identity % 3) a b reasons agree are
  are_agree identity [] (hit ∷ hits) reasons span are = each_agrees identity (hit ∷ hits) reasons span are

pub first_frames_decide_reasons : FirstFramesDecideReasons
first_frames_decide_reasons receiver look a b identity reasons long_a long_b agree is = record {
  list = is.list;
  is_list = decided receiver look a b is.list long_a long_b agree is.is_list;
  are = subst (λ (hits : List Hit). AreReasons receiver b identity (filter (has_identity identity) is.list) (filter (has_root (identity % 3)) hits) reasons)
      (hits_agree deciding_length a b agree (omega arith))
      (are_agree receiver look a b agree identity (filter (has_identity identity) is.list) (filter (has_root (identity % 3)) (hits_of a)) reasons
      (All-filter (has_root (identity % 3)) IsInSpan (hits_of a) (listed_in_span a)) is.are);
}
