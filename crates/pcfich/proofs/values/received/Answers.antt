use Rattle.std.proofs.Common.{◌∙◌, ℕ, List, ℤ, ap, ap₂}
use Rattle.grid_map.specs.declared.Place.{Place}
use Rattle.grid_map.specs.Control.{pcfich_places}
use Rattle.grid_map.specs.Scrambling.{pcfich_c_init}
use Rattle.soft_bits.specs.Places.{descrambled}
use Rattle.pcfich.specs.Values.{indicator_values_by}
use Rattle.pcfich.proofs.values.received.Goals as goal

pub returns-clause-values : goal.returns-clause-values
unfolding indicator_values_by
returns-clause-values g c =
    let seed = c.pcfich_c_init-c_init.ensures.value ∙ ap₂ (λ (identity slot : ℕ). pcfich_c_init identity slot) c.cell-2.ensures c.slot_number.ensures.value in
    let places = c.pcfich_places-places.ensures.places ∙ ap pcfich_places c.cell.ensures in
    let values = c.fill_slot.ensures.values ∙ ap (g.S.ReadSlot.values_by (λ (p : Place). g.S.ReadSlot.seen_as c.args.slot.now)) places in
    c.descramble.ensures.values ∙ ap₂ (λ (seed : ℕ) (values : List ℤ). descrambled seed 0 values) seed values
