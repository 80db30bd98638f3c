use Rattle.std.proofs.Common.{◌≡◌, ◌∙◌, ◌*◌, ◌<◌, ℕ, List, take, length, ap, ap₂, sym, subst, arith}
use Rattle.std.specs.Prelude.{All}
use Rattle.std.proofs.lemmas.List.{take_at, length-take-le}
use Rattle.lte_types.specs.declared.carrier.Carrier.{Carrier}
use Rattle.grid_map.specs.declared.Place.{Place}
use Rattle.grid_map.specs.Shared.{shared_places_of}
use Rattle.grid_map.specs.Scrambling.{pdsch_c_init}
use Rattle.grid_map.proofs.Apart.{shared_symbols}
use Rattle.dci.specs.Fields.{system_information_rnti}
use Rattle.soft_bits.specs.Soft.{SeenSlot}
use Rattle.soft_bits.specs.Places.{in_subframe, descrambled}
use Rattle.pdsch.specs.Values.{shared_values_by}
use Rattle.pdsch.proofs.block.fill_values.Goals as goal

pub fill_shared-requires-clause-inside : goal.fill_shared-requires-clause-inside
fill_shared-requires-clause-inside g c =
    let a = c.args.assignment.now in
    subst (All (λ (p : Place). (p.symbol < 14) × (p.k < 72))) (sym c.fill_places-count.ensures.places) (shared_symbols _ c.cell.result a.cfi a.start a.blocks)

pub returns-clause-values : goal.returns-clause-values
unfolding shared_values_by
returns-clause-values g c =
    let first : SeenSlot = g.S.ReadSlot.seen_as c.args.first.now in
    let slot : Place → SeenSlot = in_subframe first (g.S.ReadSlot.seen_as c.args.second.now) in
    let a = c.args.assignment.now in
    let count : ℕ = c.fill_places-count.result in
    let few = c.fill_places-count.ensures.few in
    let whole = c.fill_places-count.array_long in
    let size : length (take count c.fill_places-count.new.places) ≡ count = length-take-le count c.fill_places-count.new.places (omega (arith, few, whole)) in
    let long : length c.fill_shared.new.values ≡ 2 * count = let written = c.fill_shared.ensures.size in omega (arith, written, size) in
    let places = c.fill_places-count.ensures.places ∙ ap₂ (λ (carrier : Carrier) (identity : ℕ). shared_places_of carrier identity a.cfi a.start a.blocks) c.carrier.ensures c.cell.ensures in
    take_at c.fill_shared.new.values _ (2 * count) long ∙ c.fill_shared.ensures.values
    ∙ ap (λ (ps : List Place). descrambled (pdsch_c_init first.identity first.number system_information_rnti) 0 (g.S.ReadSlot.values_by slot ps)) places
