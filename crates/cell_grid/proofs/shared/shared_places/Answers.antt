use Rattle.std.proofs.Common.{◌≡◌, ℕ, ◌<◌, ◌≤◌, List, length, take, get_or, arith, refl, sym, ◌∙◌, length-set}
use Rattle.std.proofs.lemmas.List.Edits.{fill_by_more}
use Rattle.finite.proofs.Lists.{front_is, values_below_is}
use Rattle.lte_types.specs.declared.carrier.Carrier.{Carrier}
use Rattle.lte_types.specs.Assignment.{Assigned}
use Rattle.grid_map.specs.declared.Place.{Place}
use Rattle.grid_map.specs.Place.{place}
use Rattle.grid_map.specs.Shared.{shared_places_of, shared_place_of}
use Rattle.cell_plan.specs.declared.cell.CellPlan.{CellPlan}
use Rattle.cell_grid.proofs.shared.shared_places.Goals as goal

abbrev place_at : Carrier → CellPlan → ℕ → Place
place_at carrier plan k = shared_place_of carrier plan.identity plan.cfi plan.start plan.blocks k

place_is : (carrier : Carrier) (plan : CellPlan) (identity i : ℕ) (a : Assigned) → a ≡ record { cfi = plan.cfi; start = plan.start; blocks = plan.blocks } →
    identity ≡ plan.identity → shared_place_of carrier identity a.cfi a.start a.blocks i ≡ place_at carrier plan i
place_is carrier plan identity i a e f = rw (e, f) refl

pub loop-i-preserved : goal.loop-i-preserved
loop-i-preserved c =
    let carrier = c.args.carrier in
    let plan = c.args.cell.now in
    let here : c.shared_place.result ≡ place_at carrier plan c.loop-i.i = c.shared_place.ensures.place ∙ place_is carrier plan _ c.loop-i.i _ c.assignment-assignment.ensures c.id.ensures.value in
    record {
      whole = length-set c.loop-i.places c.loop-i.i _ ∙ c.loop-i.invariant.whole;
      each = rw here (fill_by_more (place_at carrier plan) c.loop-i.places c.loop-i.i (place 0 0) (let t = c.loop-i-test.true in let b = c.shared_count-count.ensures.bound in omega (arith, c.loop-i.invariant.whole, t, b)) c.loop-i.invariant.each);
    }

count_is : (carrier : Carrier) (plan : CellPlan) (count : ℕ) (a : Assigned) → a ≡ record { cfi = plan.cfi; start = plan.start; blocks = plan.blocks } →
    ((identity : ℕ) → length (shared_places_of carrier identity a.cfi a.start a.blocks) ≡ count) → length (shared_places_of carrier plan.identity plan.cfi plan.start plan.blocks) ≡ count
count_is carrier plan count a e whole = let here = whole plan.identity in rw e at here

all_are : (carrier : Carrier) (plan : CellPlan) (count : ℕ) (places : List Place) → length (shared_places_of carrier plan.identity plan.cfi plan.start plan.blocks) ≡ count → count ≤ length places
    → ((k : ℕ) → k < count → get_or places k (place 0 0) ≡ place_at carrier plan k) → take count places ≡ shared_places_of carrier plan.identity plan.cfi plan.start plan.blocks
unfolding shared_place_of
all_are carrier plan count places whole room each =
    front_is (place 0 0) count (place_at carrier plan) places room each
    ∙ sym (values_below_is (place 0 0) count (place_at carrier plan) (shared_places_of carrier plan.identity plan.cfi plan.start plan.blocks) whole (λ k inside. refl))

pub returns-clause-places : goal.returns-clause-places
returns-clause-places c =
    let bound = c.shared_count-count.ensures.bound in
    let whole = c.loop-i.invariant.whole in
    let count = count_is c.args.carrier c.args.cell.now _ _ c.assignment-assignment.ensures c.shared_count-count.ensures.whole in
    all_are c.args.carrier c.args.cell.now _ c.loop-i.places count (omega (arith, bound, whole)) (λ k inside. c.loop-i.invariant.each k (omega (arith, inside, c.loop-i-test.false)))

pub returns-clause-whole : goal.returns-clause-whole
returns-clause-whole c = c.loop-i.invariant.whole
