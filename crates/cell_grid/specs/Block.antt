-- The PBCH: the MIB, encoded, rate-matched and scrambled (TS 36.212 section 5.3.1, TS 36.211 section 6.6).
use Rattle.std.specs.Prelude.{ℕ, ◌+◌, ◌*◌, ◌/◌, ◌%◌, Bool, List, ◌++◌, length}
use Rattle.cs_num.specs.declared.Cpx.{Cpx}
use Rattle.lte_types.specs.declared.bandwidth.Bandwidth.TheVariants.{N6}
use Rattle.lte_types.specs.declared.duration.Duration.{Duration}
use Rattle.lte_types.specs.declared.resource.Resource.{Resource}
use Rattle.lte_types.specs.Codes.{bandwidth_code, duration_code, resource_code}
use Rattle.cs_bits.specs.Numbers.{bits_of}
use Rattle.cs_bits.specs.Checks.{with_check_16}
use Rattle.conv_code.specs.Code.{coded_word}
use Rattle.conv_code.specs.Reading.{bit_of_item, item_of}
use Rattle.grid_map.specs.Scrambling.{pbch_c_init}
use Rattle.cell_grid.specs.declared.antenna.Port.{Port}
use Rattle.cell_plan.specs.declared.cell.CellPlan.{CellPlan}
use Rattle.cell_grid.specs.Ports.{only_port, port_mask, port_block_bits}
use Rattle.cell_grid.specs.Points.{scrambled, point_of}

-- the 24 MIB bits in frame `sfn`: dl-Bandwidth n6, phich-Config, the upper 8 bits of the frame number, and the spare
-- bits (TS 36.331 section 6.2.2)
unfoldable pub master_bits : Duration → Resource → ℕ → ℕ → List Bool
master_bits duration resource sfn spare =
    bits_of 3 (bandwidth_code N6) ++ bits_of 1 (duration_code duration) ++ bits_of 2 (resource_code resource)
    ++ bits_of 8 (sfn / 4) ++ bits_of 10 spare

-- the MIB followed by its CRC, masked with `mask`, which states the number of antenna ports (TS 36.212 section 5.3.1.1)
unfoldable pub master_word : ℕ → Duration → Resource → ℕ → ℕ → List Bool
master_word mask duration resource sfn spare = with_check_16 mask (master_bits duration resource sfn spare)

-- the 24 bits of a plan's MIB in frame `sfn`; `port_word` appends their CRC, masked for a port
abbrev pub block_bits : CellPlan → ℕ → List Bool
block_bits plan sfn = master_bits plan.duration plan.resource sfn plan.spare

abbrev pub port_word : Port → CellPlan → ℕ → List Bool
port_word port plan sfn = master_word (port_mask port) plan.duration plan.resource sfn plan.spare

-- bit `n` after rate matching of an encoded word; the sequence repeats without end (TS 36.212 sections 5.1.3.1 and
-- 5.1.4.2)
abbrev pub coded_bit : List Bool → ℕ → Bool
coded_bit word n = bit_of_item (coded_word word) (item_of (length word) n)

-- bit `n` after rate matching, scrambled with the Gold sequence for `c_init` (TS 36.211 section 7.2)
abbrev pub scrambled_bit : ℕ → List Bool → ℕ → Bool
scrambled_bit c_init word n = scrambled c_init (coded_bit word) n

-- PBCH bit `i` in a frame, 0 to 479. Four frames, starting at a frame number divisible by 4, carry the 1,920 scrambled
-- bits in order. With the extended cyclic prefix the counts are 432 and 1,728 (TS 36.212 sections 5.3.1.2 and 5.3.1.3,
-- TS 36.211 sections 6.6.1 and 6.6.4).
unfoldable pub port_bit : Port → CellPlan → ℕ → ℕ → Bool
port_bit port plan sfn i =
    scrambled_bit (pbch_c_init plan.identity) (port_word port plan sfn) (port_block_bits port * (sfn % 4) + i)

-- PBCH symbol `i` in a frame, 0 to 239, or 0 to 215 with the extended cyclic prefix (QPSK, TS 36.211 section 7.1.2; the
-- amplitude is own)
unfoldable pub port_point : Port → CellPlan → ℕ → ℕ → Cpx
port_point port plan sfn i = point_of (port_bit port plan sfn) i

-- ---- PBCH with one antenna port

abbrev pub broadcast_word : CellPlan → ℕ → List Bool
broadcast_word plan sfn = port_word only_port plan sfn
