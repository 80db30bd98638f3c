-- The reading of an entry is unique.
use Rattle.std.proofs.Common.{◌≡◌, ◌⊎◌, inl, inr, ◌<◌, ◌≤◌, List, Option, Some, arith, ap, sym, ◌∙◌}
use Rattle.std.specs.Prelude.{slice_get}
use Rattle.std.proofs.lemmas.Bool.{cases_lt}
use Rattle.lte_types.specs.declared.hit.Hit.{Hit}
use Rattle.lte_types.specs.CellPlace.{Place}
use Rattle.explain.specs.Receiver.{hits_by, place_by}
use Rattle.explain.specs.Entries.{place_of}
use Rattle.explain.specs.Readings.{IsFirstAt, IsOneReading}
use Rattle.explain.proofs.Granted.{one_grant_of}
use Rattle.explain.proofs.Blocks.{one_block_for}

-- at most one hit is the first that gives a place
one_first : (place : Hit → Place) (hits : List Hit) (decoded : Place) (a b : Hit) → IsFirstAt place hits decoded a → IsFirstAt place hits decoded b → a ≡ b
one_first place hits decoded a b s t = by_order (cases_lt s.at t.at) (cases_lt t.at s.at)
  where
    same_hit : ◌≡◌ {A = Option Hit} (Some a) (Some b) → a ≡ b
    same_hit e = cc

    by_order : (s.at < t.at) ⊎ (t.at ≤ s.at) → (t.at < s.at) ⊎ (s.at ≤ t.at) → a ≡ b
    by_order (inl before) other = absurd (t.first s.at a before s.is s.decodes)
    by_order (inr low) (inl before) = absurd (s.first t.at b before t.is t.decodes)
    by_order (inr low) (inr high) =
        let same : s.at ≡ t.at = omega (arith, low, high) in
        same_hit (sym s.is ∙ ap (λ k. slice_get hits k) same ∙ t.is)

pub one_read : IsOneReading
one_read receiver recording entry a b p q =
    let hit = one_first (place_by receiver.carrier recording) (hits_by receiver.carrier recording) (place_of entry) a.hit b.hit p.hit q.hit in
    let sums = p.sums ∙ sym q.sums in
    let granted = one_grant_of receiver recording (place_of entry) entry.sfn entry.mib entry.sib1 a.granted b.granted p.granted q.granted in
    let block = one_block_for receiver recording (place_of entry) entry.sfn entry.mib entry.sib1 a.block.items b.block.items p.block q.block in
    ap (λ h. record a { hit = h }) hit ∙ ap (λ s. record a { hit = b.hit; sums = s }) sums ∙ ap (λ g. record b { granted = g; block = a.block }) granted
    ∙ ap (λ bits. record b { block = record { items = bits } }) block
