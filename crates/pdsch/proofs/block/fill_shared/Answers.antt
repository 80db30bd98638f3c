use Rattle.std.proofs.Common.{◌∙◌, ℕ, List, ℤ, ap₂}
use Rattle.dci.specs.Fields.{system_information_rnti}
use Rattle.grid_map.specs.Scrambling.{pdsch_c_init}
use Rattle.soft_bits.specs.Places.{descrambled}
use Rattle.pdsch.proofs.block.fill_shared.Goals as goal

pub returns-clause-values : goal.returns-clause-values
returns-clause-values g c =
    let seed = c.pdsch_c_init-c_init.ensures.value ∙ ap₂ (λ (identity slot : ℕ). pdsch_c_init identity slot system_information_rnti) c.cell.ensures c.slot_number.ensures.value in
    c.descramble.ensures.values ∙ ap₂ (λ (seed : ℕ) (values : List ℤ). descrambled seed 0 values) seed c.fill.ensures.values
