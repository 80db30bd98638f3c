-- The first PSS detection in a list with an entry's identity and start.
use Rattle.std.proofs.Common.{◌≡◌, inl, inr, ℕ, ◌%◌, ◌<◌, ◌≤◌, List, length, get_or, arith, refl, ap, sym, subst, ◌∙◌}
use Rattle.std.specs.List.{AllPairs, Contains}
use Rattle.std.proofs.lemmas.Bool.{cases_lt}
use Rattle.std.proofs.lemmas.List.Kept.{AllPairs-filter}
use Rattle.std.proofs.lemmas.Option.{get_or_from_slice_get, slice_get_within, slice_get_read}
use Rattle.cs_num.specs.declared.Sample.{Sample}
use Rattle.lte_types.specs.declared.carrier.Carrier.{Carrier}
use Rattle.lte_types.specs.declared.hit.Hit.{Hit}
use Rattle.lte_types.specs.declared.entry.Entry.{Entry}
use Rattle.lte_types.specs.CellPlace.{Place}
use Rattle.pss_search.specs.Hits.{hits_of}
use Rattle.pss_search.specs.Laws.{IsHitOf, IsEarlier}
use Rattle.pss_search.proofs.Listed.{list_is_right, list_is_in_order}
use Rattle.explain.specs.Entries.{place_of}
use Rattle.explain.specs.Readings.{IsFirstAt}
use Rattle.explain.specs.Receiver.{has_step_before, hits_by, place_by}
use Rattle.explain.proofs.Late.{taken_are_late, are_taken}
use Rattle.evidence.specs.Evidence.{IsDetectedBy, IsHitOfEntry}

-- ---- the PSS detections that the receiver takes

-- each detection is one in the recording
taken_is_hit : (carrier : Carrier) (recording : List Sample) (hit : Hit) → Contains (hits_by carrier recording) hit → IsHitOf recording hit
taken_is_hit carrier recording hit listed = (list_is_right recording hit).0 ((are_taken carrier recording hit).0 listed).0

-- detections are in sample order
taken_in_order : (carrier : Carrier) (recording : List Sample) → AllPairs IsEarlier (hits_by carrier recording)
taken_in_order carrier recording =
    subst (AllPairs IsEarlier) (taken_are_late carrier recording)
    (AllPairs-filter IsEarlier (has_step_before carrier) (hits_of recording) (list_is_in_order recording))

-- ---- the first detection for an entry

same_place : (place : Place) (entry : Entry) → place.id ≡ entry.id → place.start ≡ entry.start → place ≡ place_of entry
same_place place entry id start i = record { id = id i; start = start i }

-- the first detection with an entry's identity and start is the entry's
pub first_decodes : (carrier : Carrier) (recording : List Sample) (entry : Entry) (hit : Hit) → IsFirstAt (place_by carrier recording) (hits_by carrier recording) (place_of entry) hit →
    IsHitOfEntry carrier recording entry hit
first_decodes carrier recording entry hit f = record { is_hit = hit_is; first = record { detected = detected; least = least }; root = root }
  where
    hits : List Hit
    hits = hits_by carrier recording

    inside : f.at < length hits
    inside = slice_get_within hits f.at hit f.is

    here : (d : Hit) → get_or hits f.at d ≡ hit
    here d = get_or_from_slice_get hits f.at hit d f.is

    listed : Contains hits hit
    listed = (f.at, inside, here hit)

    hit_is : IsHitOf recording hit
    hit_is = taken_is_hit carrier recording hit listed

    identity : (place_by carrier recording hit).id ≡ entry.id
    identity = ap (λ (p : Place). p.id) f.decodes

    detected : IsDetectedBy carrier recording entry hit.t
    detected = record { hit = hit; listed = listed; place = refl; identity = identity; start = ap (λ (p : Place). p.start) f.decodes }

    root : hit.n2 ≡ entry.id % 3
    root = let third = hit_is.root in omega (arith, identity, third)

    -- no earlier detection has the entry's identity and start
    not_before : (u : ℕ) (other : IsDetectedBy carrier recording entry u) (k : ℕ) → k < length hits → get_or hits k other.hit ≡ other.hit → f.at ≤ k
    not_before u other k within is = elim (cases_lt k f.at) [
      | inl earlier ↦ absurd (f.first k other.hit earlier (slice_get_read hits (length hits) k other.hit refl within (sym is)) (same_place (place_by carrier recording other.hit) entry other.identity other.start))
      | inr not_earlier ↦ not_earlier
    ]

    in_order : (k : ℕ) (other : Hit) → f.at ≤ k → k < length hits → get_or hits k other ≡ other → other.n2 < 3 → hit.t ≤ other.t
    in_order k other low within is third = elim (cases_lt f.at k) [
      | inl later ↦ let e : IsEarlier (get_or hits f.at other) (get_or hits k other) = taken_in_order carrier recording f.at k other later within in
          let ordered : IsEarlier hit other = subst (λ h. IsEarlier h other) (here other) (subst (λ h. IsEarlier (get_or hits f.at other) h) is e) in
          omega (arith, ordered, third)
      | inr not_later ↦ let same : k ≡ f.at = omega (arith, low, not_later) in
          let one : hit ≡ other = sym (here other) ∙ ap (λ n. get_or hits n other) (sym same) ∙ is in
          omega (arith, ap (λ (h : Hit). h.t) one)
    ]

    least : (u : ℕ) → IsDetectedBy carrier recording entry u → hit.t ≤ u
    least u other =
        let (k, within, is) = other.listed in
        let later = in_order k other.hit (not_before u other k within is) within is (taken_is_hit carrier recording other.hit other.listed).root in
        omega (arith, later, other.place)
