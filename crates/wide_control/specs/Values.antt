-- The soft values of PCFICH and PDCCH in a subframe's first slot, at any bandwidth (TS 36.211 sections 6.7 and 6.8).
use Rattle.std.specs.Prelude.{ℕ, ◌*◌, List, ℤ}
use Rattle.grid_map.specs.Scrambling.{pcfich_c_init, pdcch_c_init}
use Rattle.soft_bits.specs.Places.{descrambled}
use Rattle.wide_cell.specs.Cell.{Cell}
use Rattle.wide_grid.specs.declared.candidate.Candidate.{Candidate}
use Rattle.wide_grid.specs.declared.group.WideReg.{WideReg}
use Rattle.wide_grid.specs.Control.{pcfich_places, pdcch_groups, quadruplet_groups}
use Rattle.wide_grid.specs.Candidate.{candidate_places}
use Rattle.wide_slot.specs.Slot.{WideSeen}
use Rattle.wide_slot.specs.Values.{placed_values}

-- the 32 descrambled PCFICH soft values
unfoldable pub indicator_values : WideSeen → List ℤ
indicator_values slot =
    descrambled (pcfich_c_init slot.cell.identity slot.slot.number) 0
    (placed_values slot slot (pcfich_places slot.cell))

-- a candidate's descrambled soft values, 72 for each control channel element, from the PDCCH groups in quadruplet order
unfoldable pub candidate_values : WideSeen → List WideReg → Candidate → List ℤ
candidate_values slot groups c =
    descrambled (pdcch_c_init slot.cell.identity slot.slot.number) (72 * c.first)
    (placed_values slot slot (candidate_places slot.cell groups c))

-- the PDCCH groups in quadruplet order, for a control format indicator
abbrev pub ordered_groups : Cell → ℕ → List WideReg
ordered_groups cell cfi = quadruplet_groups cell (pdcch_groups cell cfi)
