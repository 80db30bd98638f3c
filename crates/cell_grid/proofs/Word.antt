-- The MIB with its CRC has 40 bits, and the grant with its CRC 37.
use Rattle.std.proofs.Common.{◌≡◌, ℕ, ◌/◌, Bool, true, false, nat_eq, [], ◌∷◌, ◌++◌, length, refl, bit_xor}
use Rattle.lte_types.specs.Codes.{duration_code, resource_code}
use Rattle.cs_bits.specs.Numbers.{bits_of}
use Rattle.cs_bits.specs.Checks.{crc16_of}
use Rattle.cell_grid.specs.declared.antenna.Port.{Port}
use Rattle.cell_plan.specs.declared.cell.CellPlan.{CellPlan}
use Rattle.cell_grid.specs.Ports.{port_mask}
use Rattle.dci.specs.Assignment.{riv_of}
use Rattle.dci.specs.Fields.{system_information_rnti}
use Rattle.dci.specs.Format1A.{sent_word}
use Rattle.cell_grid.specs.Block.{master_bits, master_word, block_bits, port_word}
use Rattle.cell_grid.specs.Control.{version_of, grant_of, control_word}

parts-length : (a b c d e f : ℕ) → length ((bits_of 3 a ++ bits_of 1 b ++ bits_of 2 c ++ bits_of 8 d ++ bits_of 10 e) ++ bits_of 16 f) ≡ 40
parts-length a b c d e f = refl

pub broadcast_word-length : (port : Port) (plan : CellPlan) (sfn : ℕ) → length (port_word port plan sfn) ≡ 40
unfolding master_word master_bits
broadcast_word-length port plan sfn = parts-length 0 (duration_code plan.duration) (resource_code plan.resource) (sfn / 4) plan.spare (bit_xor (crc16_of (block_bits plan sfn)) (port_mask port))

granted-length : (a b c d : ℕ) (column : Bool) (check : ℕ) →
    length (((true ∷ false ∷ []) ++ bits_of 5 a ++ bits_of 5 b ++ bits_of 3 c ++ (false ∷ []) ++ bits_of 2 d ++ (false ∷ column ∷ false ∷ [])) ++ bits_of 16 check) ≡ 37
granted-length a b c d column check = refl

pub control_word-length : (plan : CellPlan) (sfn : ℕ) → length (control_word plan sfn) ≡ 37
unfolding control_word sent_word
control_word-length plan sfn =
    granted-length (riv_of plan.start plan.blocks) plan.mcs 0 (version_of sfn) (nat_eq plan.column 3) (bit_xor (crc16_of (sent_word (grant_of plan sfn))) system_information_rnti)
