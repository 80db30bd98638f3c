use Rattle.std.proofs.Common.{◌∙◌, ℕ, arith, length-set, sym, refl}
use Rattle.finite.proofs.Lists.{front_is, set_more, values_below_is}
use Rattle.grid_map.specs.Place.{place}
use Rattle.grid_map.specs.Shared.{shared_place_of, shared_places_of}
use Rattle.pdsch.proofs.block.fill_places.Goals as goal

pub loop-i-preserved : goal.loop-i-preserved
loop-i-preserved c =
    let a = c.args.assignment.now in
    let whole = c.loop-i.invariant.size in
    let most = c.shared_count-count.ensures.bound in
    let test = c.loop-i-test.true in
    record {
      size = length-set c.loop-i.places c.loop-i.i _ ∙ whole;
      each = set_more (place 0 0) c.loop-i.i (shared_place_of c.args.carrier c.args.id a.cfi a.start a.blocks) c.loop-i.places c.shared_place.result (omega (arith, whole, most, test)) c.shared_place.ensures.place c.loop-i.invariant.each;
    }

pub returns-clause-places : goal.returns-clause-places
unfolding shared_place_of
returns-clause-places c =
    let a = c.args.assignment.now in
    let whole = c.loop-i.invariant.size in
    let most = c.shared_count-count.ensures.bound in
    let end = c.loop-i-test.false in
    let n : ℕ = c.shared_count-count.result in
    let count = c.shared_count-count.ensures.whole c.args.id in
    front_is (place 0 0) n (shared_place_of c.args.carrier c.args.id a.cfi a.start a.blocks) c.loop-i.places (omega (arith, whole, most)) (λ k below. c.loop-i.invariant.each k (omega (arith, below, end)))
    ∙ sym (values_below_is (place 0 0) n (shared_place_of c.args.carrier c.args.id a.cfi a.start a.blocks) (shared_places_of c.args.carrier c.args.id a.cfi a.start a.blocks) count (λ k below. refl))
