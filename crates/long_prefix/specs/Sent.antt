-- The transmission of a plan with the extended cyclic prefix. (own)
use Rattle.std.specs.Prelude.{◌≡◌, ℕ, ◌+◌, ◌-◌, ◌*◌, ◌/◌, ◌%◌, ◌≤◌, Bool, if◌then◌else◌, List}
use Rattle.cs_num.specs.declared.Cpx.{Cpx}
use Rattle.cs_num.specs.Complex.{nothing}
use Rattle.lte_types.specs.Numerology.{extended, half_of}
use Rattle.sync_seq.specs.Primary.{pss_at}
use Rattle.sync_seq.specs.Secondary.{sss_amplitude}
use Rattle.grid_map.specs.Scrambling.{pbch_c_init}
use Rattle.cell_grid.specs.Ports.{long_port}
use Rattle.cell_plan.specs.declared.cell.CellPlan.{CellPlan}
use Rattle.cell_grid.specs.Ports.{port_symbols, port_slot, port_mask, is_own_reference, port_reference}
use Rattle.cell_grid.specs.Points.{point_of}
use Rattle.cell_grid.specs.Block.{master_word, scrambled_bit}
use Rattle.cell_grid.specs.Grid.{is_primary, is_secondary, has_broadcast, broadcast_index}
use Rattle.cell_grid.specs.Grid.{Elements}
use Rattle.cell_tx.specs.Sent.{prefix_sent}
use Rattle.long_prefix.specs.declared.plan.LongPlan.{LongPlan}

-- the MIB codeword for frame `sfn`, CRC included: bandwidth n6, the CRC mask for one antenna port, and the upper bits
-- of the frame number (TS 36.331 section 6.2.2, TS 36.212 section 5.3.1.1)
abbrev pub long_word : LongPlan → ℕ → List Bool
long_word plan sfn = master_word (port_mask long_port) plan.mib.duration plan.mib.resource sfn plan.mib.spare

-- the PBCH's scrambled bit `i` of 432 in frame `sfn` (TS 36.211 section 6.6)
abbrev pub long_bit : LongPlan → ℕ → ℕ → Bool
long_bit plan sfn i = scrambled_bit (pbch_c_init plan.id) (long_word plan sfn) (432 * (sfn % 4) + i)

-- the PBCH's modulation symbol `i` of 216 in frame `sfn` (TS 36.211 section 6.6)
abbrev pub long_point : LongPlan → ℕ → ℕ → Cpx
long_point plan sfn i = point_of (long_bit plan sfn) i

-- the values of the resource elements in a plan's frame: the reference signals, the PSS, the SSS, the PBCH, and zero
-- elsewhere
unfoldable pub long_element : LongPlan → Elements
long_element plan sfn subframe symbol k =
    if is_own_reference long_port plan.id (port_slot long_port subframe symbol) (symbol % port_symbols long_port) k
    then port_reference long_port plan.id (port_slot long_port subframe symbol) (symbol % port_symbols long_port) k
    else (if is_primary long_port subframe symbol k then pss_at (plan.id % 3) (k - 5)
    else (if is_secondary long_port subframe symbol k
    then sss_amplitude (plan.id / 3) (plan.id % 3) (half_of subframe) (k - 5)
    else (if has_broadcast long_port plan.id subframe symbol k
    then long_point plan sfn (broadcast_index long_port plan.id symbol k)
    else nothing)))

-- sample `i` of a plan's endless frame sequence from frame `sfn` (TS 36.211 section 6.12)
abbrev pub long_sent : LongPlan → ℕ → ℕ → Cpx
long_sent plan sfn i = prefix_sent extended (long_element plan) sfn i

-- `cell` has the identity and the MIB fields of `plan`; with the extended cyclic prefix no other fields of `cell` are
-- sent
pub record HasPlan (cell : CellPlan) (plan : LongPlan) : Type 0 where
  pub identity : cell.identity ≡ plan.id
  pub duration : cell.duration ≡ plan.mib.duration
  pub resource : cell.resource ≡ plan.mib.resource
  pub spare : cell.spare ≡ plan.mib.spare

-- the identity and the spare bits of `plan` are in their ranges
pub record IsKnownLong (plan : LongPlan) : Type 0 where
  pub identity : plan.id ≤ 503
  pub spare : plan.mib.spare ≤ 1023
