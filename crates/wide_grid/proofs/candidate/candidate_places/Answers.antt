use Rattle.std.proofs.Common.{◌≡◌, ◌+◌, ◌*◌, ◌<◌, [], ◌∙◌, length, get_or, ap, refl, sym, arith}
use Rattle.std.proofs.lemmas.List.Elements.{All-same}
use Rattle.finite.proofs.Lists.{joined_below_none}
use Rattle.wide_cell.specs.declared.place.WidePlace.{WidePlace}
use Rattle.wide_grid.specs.Group.{group, group_places}
use Rattle.wide_grid.specs.Candidate.{candidate_places as candidate_places_of}
use Rattle.wide_grid.proofs.Loops.{joined_step}
use Rattle.wide_grid.proofs.candidate.candidate_places.Goals as goal

pub loop-j-init : goal.loop-j-init
loop-j-init c = record {
  items = c.new-places.ensures.items
      ∙ sym (joined_below_none (λ j. group_places c.args.cell.now (get_or c.args.groups.now (9 * c.args.candidate.first + j) (group 0 0))));
  inside = All-same (λ (p : WidePlace). (p.symbol < 14) × (p.k < 12 * c.args.cell.now.blocks)) _ [] c.new-places.ensures.items (λ k d l. absurd (omega (arith, l)));
  count = ap length c.new-places.ensures.items;
}

pub loop-j-preserved : goal.loop-j-preserved
loop-j-preserved c = record {
  items = joined_step (λ j. group_places c.args.cell.now (get_or c.args.groups.now (9 * c.args.candidate.first + j) (group 0 0)))
      c.loop-j.j c.loop-j.places.items _ _ c.loop-j.invariant.items refl c.in_ok-add_group_places.ensures.items;
  inside = c.in_ok-add_group_places.ensures.inside c.loop-j.invariant.inside;
  count = let more = c.in_ok-add_group_places.ensures.count in let before = c.loop-j.invariant.count in omega (arith, more, before);
}

pub returns-clause-places : goal.returns-clause-places
unfolding candidate_places_of
returns-clause-places c =
    let past = c.loop-j-test.false in
    let end = c.loop-j.auto.j-end in
    let last : c.loop-j.j ≡ 9 * c.args.candidate.level = omega (arith, past, end) in
    c.loop-j.invariant.items ∙ rw last refl
