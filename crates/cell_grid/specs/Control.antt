-- The control region of a plan: the PCFICH in every subframe (TS 36.211 section 6.7), and in subframe 5 the PDCCH that
-- grants system information (TS 36.211 section 6.8).
use Rattle.std.specs.Prelude.{ℕ, ◌*◌, ◌/◌, ◌%◌, Bool, List, [], ◌∷◌, slice_index_or}
use Rattle.cs_num.specs.declared.Cpx.{Cpx}
use Rattle.cs_bits.specs.Checks.{with_check_16}
use Rattle.grid_map.specs.declared.Place.{Place}
use Rattle.grid_map.specs.Control.{pdcch_groups}
use Rattle.grid_map.specs.Candidate.{candidate_places}
use Rattle.grid_map.specs.Scrambling.{pcfich_c_init, pdcch_c_init, indicator_bit}
use Rattle.dci.specs.declared.grant.Grant.{Grant}
use Rattle.dci.specs.Fields.{system_information_rnti}
use Rattle.dci.specs.Format1A.{sent_word}
use Rattle.cell_plan.specs.declared.cell.CellPlan.{CellPlan}
use Rattle.cell_plan.specs.Transport.{block_size}
use Rattle.cell_grid.specs.Points.{scrambled, point_of}
use Rattle.cell_grid.specs.Block.{scrambled_bit}

-- ---- PCFICH

-- symbol `i` of the 16 PCFICH symbols in a subframe, scrambled for the subframe's first slot
unfoldable pub indicator_point : CellPlan → ℕ → ℕ → Cpx
indicator_point plan subframe i =
    point_of (scrambled (pcfich_c_init plan.identity (2 * subframe)) (indicator_bit plan.cfi)) i

-- ---- the grant

-- the redundancy version in an even-numbered frame: 0, 2, 3, 1, cyclically (TS 36.321 section 5.3.1)
abbrev pub version_of : ℕ → ℕ
version_of sfn = slice_index_or (0 ∷ 2 ∷ 3 ∷ 1 ∷ []) (sfn % 8 / 2) 0

-- the grant of system information in frame `sfn`
abbrev pub grant_of : CellPlan → ℕ → Grant
grant_of plan sfn = record {
  start = plan.start;
  blocks = plan.blocks;
  mcs = plan.mcs;
  column = plan.column;
  rv = version_of sfn;
  size = block_size plan;
}

-- the 21 grant bits followed by their CRC, masked with the SI-RNTI (TS 36.212 section 5.3.3.2)
unfoldable pub control_word : CellPlan → ℕ → List Bool
control_word plan sfn = with_check_16 system_information_rnti (sent_word (grant_of plan sfn))

-- ---- the transmitted grant

-- the resource elements of control channel elements 0 to 3; a cell transmits no other control channel elements (own)
abbrev pub control_places : CellPlan → List Place
control_places plan =
    candidate_places plan.identity (pdcch_groups plan.identity plan.cfi plan.duration plan.resource)

-- symbol `i` of the 144 PDCCH symbols: 288 bits after rate matching (TS 36.212 sections 5.3.3.3 and 5.3.3.4), scrambled
-- for slot 10, the first slot in subframe 5
unfoldable pub control_point : CellPlan → ℕ → ℕ → Cpx
control_point plan sfn i = point_of (scrambled_bit (pdcch_c_init plan.identity 10) (control_word plan sfn)) i
