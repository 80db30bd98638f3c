use Rattle.std.proofs.Common.{◌≡◌, ◌*◌, ◌<◌, [], ◌∙◌, length, ap, sym, refl, arith}
use Rattle.std.proofs.lemmas.List.Elements.{All-same}
use Rattle.finite.proofs.Lists.{joined_below_none}
use Rattle.wide_cell.specs.declared.place.WidePlace.{WidePlace}
use Rattle.wide_grid.specs.Group.{group_places}
use Rattle.wide_grid.specs.Control.{pcfich_group, pcfich_places as pcfich_places_of}
use Rattle.wide_grid.proofs.Loops.{joined_step}
use Rattle.wide_grid.proofs.control.pcfich_places.Goals as goal

pub loop-i-init : goal.loop-i-init
loop-i-init c = record {
  items = c.new-places.ensures.items ∙ sym (joined_below_none (λ i. group_places c.args.cell.now (pcfich_group c.args.cell.now i)));
  inside = All-same (λ (p : WidePlace). (p.symbol < 14) × (p.k < 12 * c.args.cell.now.blocks)) _ [] c.new-places.ensures.items (λ k d l. absurd (omega (arith, l)));
  count = ap length c.new-places.ensures.items;
}

pub loop-i-preserved : goal.loop-i-preserved
loop-i-preserved c = record {
  items = joined_step (λ i. group_places c.args.cell.now (pcfich_group c.args.cell.now i)) c.loop-i.i c.loop-i.places.items _ _
      c.loop-i.invariant.items (ap (group_places c.args.cell.now) c.pcfich_group.ensures.value) c.in_ok-add_group_places.ensures.items;
  inside = c.in_ok-add_group_places.ensures.inside c.loop-i.invariant.inside;
  count = let more = c.in_ok-add_group_places.ensures.count in let before = c.loop-i.invariant.count in omega (arith, more, before);
}

pub returns-clause-places : goal.returns-clause-places
unfolding pcfich_places_of
returns-clause-places c =
    let past = c.loop-i-test.false in
    let end = c.loop-i.auto.i-end in
    let last : c.loop-i.i ≡ 4 = omega (arith, past, end) in
    c.loop-i.invariant.items ∙ rw last refl
