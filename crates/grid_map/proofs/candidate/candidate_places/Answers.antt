use Rattle.std.proofs.Common.{◌≡◌, ℕ, ◌/◌, ◌%◌, ◌<◌, ◌∙◌, get_or, length, length-set, refl, ap, sym, arith}
use Rattle.std.proofs.lemmas.List.{ext_get_or}
use Rattle.std.proofs.lemmas.List.Elements.{All-replicate, All-set}
use Rattle.std.proofs.lemmas.List.Edits.{fill_by_more}
use Rattle.grid_map.specs.declared.Place.{Place}
use Rattle.grid_map.specs.Place.{place}
use Rattle.finite.proofs.Lists.{values_below_at}
use Rattle.grid_map.specs.Group.{group, group_places}
use Rattle.grid_map.specs.Candidate.{group_of_quadruplet, candidate_places}
use Rattle.grid_map.proofs.Pieces.{length-candidate_places, candidate_place_at}
use Rattle.grid_map.proofs.candidate.candidate_places.Goals as goal

pub loop-i-init : goal.loop-i-init
loop-i-init c = record {
  whole = refl;
  each = λ k below. absurd (omega (arith, below));
  inside = All-replicate (λ (p : Place). (p.symbol < 14) × (p.k < 72)) 144 (place 0 0) (omega arith, omega arith);
}

pub loop-i-preserved : goal.loop-i-preserved
loop-i-preserved c =
    let i : ℕ = c.loop-i.i in
    let groups = c.args.groups.now in
    let number : get_or c.groups_of-order.result (i / 4) 0 ≡ group_of_quadruplet c.args.id (length groups) (i / 4) =
    ap (λ order. get_or order (i / 4) 0) c.groups_of-order.ensures.values ∙ values_below_at (group_of_quadruplet c.args.id (length groups)) 36 (i / 4) 0 (omega arith) in
    let here : c.place_of.result ≡ get_or (candidate_places c.args.id groups) i (place 0 0) =
    c.place_of.ensures.place ∙ ap (λ n. get_or (group_places c.args.id (get_or groups n (group 0 0))) (i % 4) (place 0 0)) number
    ∙ sym (candidate_place_at c.args.id groups i c.requires.enough c.requires.inside (omega arith)) in
    record {
      whole = length-set c.loop-i.places i _ ∙ c.loop-i.invariant.whole;
      each = rw here (fill_by_more (λ k. get_or (candidate_places c.args.id c.args.groups.now) k (place 0 0)) c.loop-i.places i (place 0 0) (omega (arith, c.loop-i.invariant.whole)) c.loop-i.invariant.each);
      inside = All-set (λ (p : Place). (p.symbol < 14) × (p.k < 72)) c.loop-i.places i _ (c.place_of.ensures.symbol, c.place_of.ensures.k) c.loop-i.invariant.inside;
    }

pub returns-clause-places : goal.returns-clause-places
returns-clause-places c =
    let size = length-candidate_places c.args.id c.args.groups.now c.requires.enough c.requires.inside in
    ext_get_or (place 0 0) c.loop-i.places (candidate_places c.args.id c.args.groups.now) (c.loop-i.invariant.whole ∙ sym size)
    (λ k below. c.loop-i.invariant.each k (let whole = c.loop-i.invariant.whole in omega (arith, below, whole)))
