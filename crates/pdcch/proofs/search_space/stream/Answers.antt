use Rattle.std.proofs.Common.{◌∙◌, ℕ, List, ℤ, ap, ap₂}
use Rattle.grid_map.specs.declared.Place.{Place}
use Rattle.grid_map.specs.Candidate.{candidate_places}
use Rattle.grid_map.specs.Scrambling.{pdcch_c_init}
use Rattle.soft_bits.specs.Places.{descrambled}
use Rattle.pdcch.specs.Candidate.{stream_values_by}
use Rattle.pdcch.proofs.search_space.stream.Goals as goal

pub returns-clause-values : goal.returns-clause-values
unfolding stream_values_by
returns-clause-values g c =
    let seed = c.pdcch_c_init-c_init.ensures.value ∙ ap₂ (λ (identity slot : ℕ). pdcch_c_init identity slot) c.cell-2.ensures c.slot_number.ensures.value in
    let places = c.candidate_places-places.ensures.places ∙ ap (λ (identity : ℕ). candidate_places identity c.args.groups.now) c.cell.ensures in
    let values = c.fill_slot.ensures.values ∙ ap (g.S.ReadSlot.values_by (λ (p : Place). g.S.ReadSlot.seen_as c.args.slot.now)) places in
    c.descramble.ensures.values ∙ ap₂ (λ (seed : ℕ) (values : List ℤ). descrambled seed 0 values) seed values
