-- The transport block of a plan, which carries SIB1, and whether enough of its bits are sent (TS 36.212 section 5.3.2,
-- TS 36.213 section 7.1.7).
use Rattle.std.specs.Prelude.{◌≡◌, ℕ, ◌+◌, ◌-◌, ◌*◌, Bool, false, not, ◌&&◌, nat_eq, nat_le, is_none, List, [], ◌++◌}
use Rattle.std.specs.Prelude.{length, replicate, slice_index_or}
use Rattle.std.specs.List.{position_or_len}
use Rattle.std.specs.Option.{unwrap_or, option_map_or}
use Rattle.finite.specs.Tests.{every_below}
use Rattle.cs_bits.specs.Checks.{with_check_24}
use Rattle.turbo_code.specs.declared.rows.Row.{Row}
use Rattle.turbo_code.specs.declared.encoder.Coded.{Coded}
use Rattle.turbo_code.specs.Table.{row, rows, IsSize}
use Rattle.turbo_code.specs.Encoder.{coded}
use Rattle.erasure.specs.Known.{resolvable, sent_of}
use Rattle.lte_types.specs.declared.carrier.Carrier.{Carrier}
use Rattle.lte_types.specs.declared.carrier.Carrier.TheVariants.{OnePort}
use Rattle.grid_map.specs.Shared.{block_places_of}
use Rattle.dci.specs.Sizes.{size_of}
use Rattle.sib1.specs.Text.{text_of}
use Rattle.cell_plan.specs.declared.cell.CellPlan.{CellPlan}

-- ---- the block

-- the transport block size in bits, without CRC, or 0 if the table has no size for the plan
abbrev pub block_size : CellPlan → ℕ
block_size plan = unwrap_or (size_of plan.mcs plan.column) 0

-- the transport block size in bits with the 24-bit CRC
abbrev pub checked_size : CellPlan → ℕ
checked_size plan = block_size plan + 24

-- the bits of SIB1 (unaligned PER), or no bits if SIB1 has no encoding
abbrev pub system_text : CellPlan → List Bool
system_text plan = unwrap_or (text_of plan.sib1) []

-- `bits` followed by zeros, `size` bits in all
abbrev pub filled : ℕ → List Bool → List Bool
filled size bits = bits ++ replicate (size - length bits) false

-- the transport block with its CRC: the bits of SIB1, followed by zeros
unfoldable pub shared_word : CellPlan → List Bool
shared_word plan = with_check_24 (filled (block_size plan) (system_text plan))

-- the row of the turbo code's interleaver table for `k` bits (TS 36.212 section 5.1.3.2.3)
unfoldable pub row_with : ℕ → Row
row_with k = slice_index_or rows (position_or_len (λ r. nat_eq r.k k) rows) (row k 0 0)

-- whether the encoded SIB1 fits in the transport block; false if SIB1 cannot be encoded
abbrev pub text_fits : CellPlan → Bool
text_fits plan = option_map_or (λ text. nat_le (length text) (block_size plan)) (text_of plan.sib1) false

-- whether the plan has a transport block: the encoded SIB1 fits, and has neither TDD-Config nor an extension
abbrev pub has_block : CellPlan → Bool
has_block plan = (is_none plan.sib1.tdd && not plan.sib1.extended) && text_fits plan

-- ---- the encoded block

-- the three streams of the turbo-encoded transport block with its CRC
unfoldable pub shared_coded : CellPlan → List (List Bool)
shared_coded plan = coded (row_with (checked_size plan)) (shared_word plan)

-- the block size K and the three streams of `word` are the plan's: K is the transport block size with its CRC
pub record IsCoded (plan : CellPlan) (word : Coded) : Type 0 where
  pub size : IsSize word.k
  pub k : word.k ≡ checked_size plan
  pub d : word.d ≡ shared_coded plan

-- ---- the sent part of the block

-- the number of bits that the assigned resource blocks carry: two for each PDSCH resource element
abbrev pub assigned_bits_of : Carrier → CellPlan → ℕ
assigned_bits_of carrier plan = 2 * (block_places_of carrier plan.cfi * plan.blocks)

-- the number of bits that the assigned resource blocks carry with one antenna port
abbrev pub assigned_bits : CellPlan → ℕ
assigned_bits plan = assigned_bits_of OnePort plan

-- the number of coded bits of the transport block: three streams, each with four tail bits
abbrev pub coded_count : CellPlan → ℕ
coded_count plan = 3 * (checked_size plan + 4)

-- whether a transmission scheme sends each coded bit of the transport block at least once
abbrev pub is_whole_of : Carrier → CellPlan → Bool
is_whole_of carrier plan = nat_le (coded_count plan) (assigned_bits_of carrier plan)

-- whether each coded bit of the transport block is sent at least once with one antenna port
abbrev pub is_whole : CellPlan → Bool
is_whole plan = is_whole_of OnePort plan

-- whether, for each redundancy version, the first `count` bits after rate matching resolve an information word of `k`
-- bits
unfoldable pub is_resolvable_by : ℕ → ℕ → List Bool → Bool
is_resolvable_by k count word = every_below 4 (λ rv. resolvable (row_with k) (sent_of k rv count) word)

-- whether, for each redundancy version, the bits that one antenna port sends resolve the plan's transport block and its
-- CRC
abbrev pub is_resolvable : CellPlan → Bool
is_resolvable plan = is_resolvable_by (checked_size plan) (assigned_bits plan) (shared_word plan)
