use Rattle.std.proofs.Common.{◌≡◌, ◌*◌, ◌<◌, ◌∙◌, refl, arith}
use Rattle.std.proofs.lemmas.List.Elements.{All-same}
use Rattle.wide_cell.specs.declared.place.WidePlace.{WidePlace}
use Rattle.wide_grid.specs.Pdsch.{is_pdsch as is_pdsch_of, place_at as place_at_of, pdsch_places as pdsch_places_of}
use Rattle.wide_grid.proofs.Loops.{filter_step}
use Rattle.wide_grid.proofs.Inside.{pdsch_inside}
use Rattle.wide_grid.proofs.pdsch.pdsch_places.Goals as goal

pub loop-n-preserved : goal.loop-n-preserved
loop-n-preserved c =
    filter_step (is_pdsch_of c.args.cell.now c.args.cfi c.args.first.now c.args.second.now) (place_at_of c.args.cell.now)
    c.loop-n.n c.loop-n.places.items _ _ _ c.loop-n.invariant c.place_at-place.ensures.value
    c.is_pdsch.ensures
    c.in_ok-add_place.ensures.items

pub returns-clause-places : goal.returns-clause-places
unfolding pdsch_places_of
returns-clause-places c =
    let past = c.loop-n-test.false in
    let end = c.loop-n.auto.n-end in
    let size = c.subcarriers-n-end.ensures.value in
    let last : c.loop-n.n ≡ 14 * (12 * c.args.cell.now.blocks) = omega (arith, past, end, size) in
    c.loop-n.invariant ∙ rw last refl

pub returns-clause-inside : goal.returns-clause-inside
returns-clause-inside c =
    let size = c.subcarriers-n-end.ensures.value in
    let some = c.subcarriers-n-end.ensures.bounds in
    All-same (λ (p : WidePlace). (p.symbol < 14) × (p.k < 12 * c.args.cell.now.blocks)) _ _ (returns-clause-places c)
    (pdsch_inside c.args.cell.now c.args.cfi c.args.first.now c.args.second.now (omega (arith, size, some)))
