-- The PDSCH of a plan, which carries SystemInformationBlockType1 (TS 36.211 section 6.4, TS 36.212 section 5.3.2).
use Rattle.std.specs.Prelude.{ℕ, Bool, List}
use Rattle.cs_num.specs.declared.Cpx.{Cpx}
use Rattle.lte_types.specs.declared.carrier.Carrier.{Carrier}
use Rattle.lte_types.specs.declared.carrier.Carrier.TheVariants.{OnePort}
use Rattle.turbo_code.specs.Reading.{item_of, bit_of}
use Rattle.grid_map.specs.declared.Place.{Place}
use Rattle.grid_map.specs.Scrambling.{pdsch_c_init}
use Rattle.grid_map.specs.Shared.{shared_places_of}
use Rattle.dci.specs.Fields.{system_information_rnti}
use Rattle.cell_plan.specs.declared.cell.CellPlan.{CellPlan}
use Rattle.cell_plan.specs.Transport.{checked_size, shared_coded}
use Rattle.cell_grid.specs.Points.{scrambled, point_of}
use Rattle.cell_grid.specs.Control.{version_of}

-- the PDSCH resource elements in the assigned resource blocks, in mapping order
abbrev pub assigned_places : Carrier → CellPlan → List Place
assigned_places carrier plan = shared_places_of carrier plan.identity plan.cfi plan.start plan.blocks

-- the PDSCH resource elements in the assigned resource blocks, in mapping order, of a cell with one antenna port
abbrev pub shared_places : CellPlan → List Place
shared_places plan = assigned_places OnePort plan

-- PDSCH bit `i` in frame `sfn`: the codeword after rate matching with the frame's redundancy version
abbrev pub shared_bit : CellPlan → ℕ → ℕ → Bool
shared_bit plan sfn i = bit_of (shared_coded plan) (item_of (checked_size plan) (version_of sfn) i)

-- PDSCH symbol `i`, scrambled for slot 10, the first slot in subframe 5
unfoldable pub shared_point : CellPlan → ℕ → ℕ → Cpx
shared_point plan sfn i =
    point_of (scrambled (pdsch_c_init plan.identity 10 system_information_rnti) (shared_bit plan sfn)) i
