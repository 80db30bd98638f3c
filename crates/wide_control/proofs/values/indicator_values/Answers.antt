use Rattle.std.proofs.Common.{◌∙◌, ℕ, List, ℤ, length, ap, ap₂, sym, arith}
use Rattle.std.proofs.lemmas.Result.{IfOk-weaker}
use Rattle.grid_map.specs.Scrambling.{pcfich_c_init}
use Rattle.soft_bits.specs.Places.{descrambled}
use Rattle.soft_bits.proofs.Channel.{length-descrambled}
use Rattle.wide_cell.specs.Cell.{Cell}
use Rattle.wide_cell.specs.declared.place.WidePlace.{WidePlace}
use Rattle.wide_grid.specs.Control.{pcfich_places}
use Rattle.wide_slot.specs.Values.{placed_values}
use Rattle.wide_control.specs.Values.{indicator_values as indicator_values_of}
use Rattle.wide_control.proofs.Lengths.{length-placed}
use Rattle.wide_control.proofs.values.indicator_values.Goals as goal

pub returns-clause-values : goal.returns-clause-values
unfolding indicator_values_of
returns-clause-values c =
    let slot = c.args.slot.now in
    let identity = c.id.ensures.value ∙ ap (λ (cell : Cell). cell.identity) c.cell-2.ensures in
    let seed = c.pcfich_c_init-c_init.ensures.value ∙ ap₂ (λ (identity number : ℕ). pcfich_c_init identity number) identity (sym c.requires) in
    let places = c.deref.ensures.value ∙ c.in_ok-places.ensures.places ∙ ap pcfich_places c.cell.ensures in
    let values = c.deref-2.ensures.value ∙ c.in_ok-values.ensures.values ∙ ap (λ (p : List WidePlace). placed_values slot slot p) places in
    IfOk-weaker c.descrambled.result _ _ (λ plain is. is ∙ ap₂ (λ (c_init : ℕ) (v : List ℤ). descrambled c_init 0 v) seed values)
    c.descrambled.ensures.values

pub returns-clause-count : goal.returns-clause-count
returns-clause-count c =
    let slot = c.args.slot.now in
    let sixteen = c.in_ok-places.ensures.count in
    let places = ap length c.deref.ensures.value in
    let placed = length-placed slot slot c.deref.result.now 8 (omega (arith, sixteen, places)) in
    let values = ap length (c.deref-2.ensures.value ∙ c.in_ok-values.ensures.values) in
    IfOk-weaker c.descrambled.result _ _ (λ plain is.
    let same = ap length is in
    let all = length-descrambled c.pcfich_c_init-c_init.result 0 c.deref-2.result.now in
    omega (arith, same, all, values, placed)) c.descrambled.ensures.values
