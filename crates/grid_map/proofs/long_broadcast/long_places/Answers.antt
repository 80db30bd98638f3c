use Rattle.std.proofs.Common.{ℕ, ◌<◌, ◌∙◌, get_or, length-set, refl, sym, arith}
use Rattle.std.proofs.lemmas.List.{ext_get_or}
use Rattle.std.proofs.lemmas.List.Elements.{All-replicate, All-set}
use Rattle.std.proofs.lemmas.List.Edits.{fill_by_more}
use Rattle.grid_map.specs.declared.Place.{Place}
use Rattle.grid_map.specs.Place.{place}
use Rattle.grid_map.specs.LongBroadcast.{long_places}
use Rattle.grid_map.proofs.LongOrder.{length-long_places}
use Rattle.grid_map.proofs.long_broadcast.long_places.Goals as goal

pub loop-i-init : goal.loop-i-init
loop-i-init c = record {
  whole = refl;
  each = λ k below. absurd (omega (arith, below));
  inside = All-replicate (λ (p : Place). (p.symbol < 4) × (p.k < 72)) 216 (place 0 0) (omega arith, omega arith);
}

pub loop-i-preserved : goal.loop-i-preserved
loop-i-preserved c =
    let i : ℕ = c.loop-i.i in
    record {
      whole = length-set c.loop-i.places i _ ∙ c.loop-i.invariant.whole;
      each = rw c.place_at.ensures.place (fill_by_more (λ k. get_or (long_places c.args.id) k (place 0 0)) c.loop-i.places i (place 0 0) (omega (arith, c.loop-i.invariant.whole)) c.loop-i.invariant.each);
      inside = All-set (λ (p : Place). (p.symbol < 4) × (p.k < 72)) c.loop-i.places i _ (c.place_at.ensures.symbol, c.place_at.ensures.k) c.loop-i.invariant.inside;
    }

pub returns-clause-places : goal.returns-clause-places
returns-clause-places c =
    let size = length-long_places c.args.id in
    ext_get_or (place 0 0) c.loop-i.places (long_places c.args.id) (c.loop-i.invariant.whole ∙ sym size)
    (λ k below. c.loop-i.invariant.each k (let whole = c.loop-i.invariant.whole in omega (arith, below, whole, c.loop-i-test.false)))
