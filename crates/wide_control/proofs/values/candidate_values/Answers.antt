use Rattle.std.proofs.Common.{◌∙◌, ◌*◌, ℕ, List, ℤ, length, ap, ap₂, sym, arith}
use Rattle.std.proofs.lemmas.Result.{IfOk-weaker}
use Rattle.grid_map.specs.Scrambling.{pdcch_c_init}
use Rattle.soft_bits.specs.Places.{descrambled}
use Rattle.soft_bits.proofs.Channel.{length-descrambled}
use Rattle.wide_cell.specs.Cell.{Cell}
use Rattle.wide_cell.specs.declared.place.WidePlace.{WidePlace}
use Rattle.wide_grid.specs.Candidate.{candidate_places}
use Rattle.wide_slot.specs.Values.{placed_values}
use Rattle.wide_control.specs.Values.{candidate_values as candidate_values_of}
use Rattle.wide_control.proofs.values.candidate_values.Goals as goal

pub returns-clause-values : goal.returns-clause-values
unfolding candidate_values_of
returns-clause-values c =
    let slot = c.args.slot.now in
    let identity = c.id.ensures.value ∙ ap (λ (cell : Cell). cell.identity) c.cell-2.ensures in
    let seed = c.pdcch_c_init-c_init.ensures.value ∙ ap₂ (λ (identity number : ℕ). pdcch_c_init identity number) identity (sym c.requires.number) in
    let places = c.deref.ensures.value ∙ c.in_ok-places.ensures.places
    ∙ ap (λ (cell : Cell). candidate_places cell c.args.groups.now c.args.candidate) c.cell.ensures in
    let values = c.deref-2.ensures.value ∙ c.in_ok-values.ensures.values ∙ ap (λ (p : List WidePlace). placed_values slot slot p) places in
    IfOk-weaker c.descrambled.result _ _
    (λ plain is. is ∙ ap₂ (λ (c_init : ℕ) (v : List ℤ). descrambled c_init (72 * c.args.candidate.first) v) seed values)
    c.descrambled.ensures.values

pub returns-clause-count : goal.returns-clause-count
returns-clause-count c =
    let level = c.requires.level in
    let count = c.in_ok-places.ensures.count in
    let few = c.in_ok-values.ensures.few in
    let places = ap length c.deref.ensures.value in
    let values = ap length c.deref-2.ensures.value in
    IfOk-weaker c.descrambled.result _ _ (λ plain is.
    let same = ap length is in
    let all = length-descrambled c.pdcch_c_init-c_init.result (72 * c.args.candidate.first) c.deref-2.result.now in
    omega (arith, same, all, values, few, places, count, level)) c.descrambled.ensures.values
