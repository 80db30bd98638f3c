use Rattle.std.proofs.Common.{ℕ, ◌*◌, ◌∙◌, ap, ap₂, sym, arith, le_refl, le_trans, mul-le-mul}
use Rattle.grid_map.specs.Shared.{block_places_of}
use Rattle.grid_map.proofs.Symbols.{pdsch_count}
use Rattle.grid_map.proofs.BlockPlaces.{are_few}
use Rattle.grid_map.proofs.shared.shared_count.Goals as goal

pub returns-clause-value : goal.returns-clause-value
returns-clause-value c =
    ap₂ (λ (places blocks : ℕ). places * blocks)
    (c.block_places.ensures.value ∙ ap (block_places_of c.args.carrier) (c.value.ensures.value ∙ c.cfi.ensures.value)) c.blocks-2.ensures.value

pub returns-clause-whole : goal.returns-clause-whole
returns-clause-whole c identity =
    let a = c.args.assignment.now in
    let known = c.blocks-2.ensures.valid in
    let is = c.cfi.ensures.value in
    let high = c.value.ensures.valid.1 in
    pdsch_count c.args.carrier identity a.cfi a.start a.blocks known.wide (omega (arith, high, is)) known.are.inside ∙ sym (returns-clause-value c)

pub returns-clause-of_several : goal.returns-clause-of_several
returns-clause-of_several c several =
    let a = c.args.assignment.now in
    let inside = c.blocks-2.ensures.valid.are.inside in
    let places = (are_few c.args.carrier a.cfi).fewer several in
    rw (returns-clause-value c) (le_trans (mul-le-mul places (le_refl a.blocks)) (omega (arith, inside)))

pub returns-clause-even : goal.returns-clause-even
returns-clause-even c =
    let a = c.args.assignment.now in
    rw (returns-clause-value c) ((are_few c.args.carrier a.cfi).even a.blocks)
