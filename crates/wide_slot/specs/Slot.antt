-- A received slot of a cell of any bandwidth: channels and pilot energy. (own)
use Rattle.std.specs.Prelude.{◌≡◌, ℕ, ◌*◌, ◌/◌, ◌^◌, ◌≤◌, nat_eq, if◌then◌else◌, List, All, length}
use Rattle.finite.specs.Sums.{total_below}
use Rattle.finite.specs.Lists.{values_below}
use Rattle.cs_num.specs.declared.Cpx.{Cpx}
use Rattle.cs_num.specs.Complex.{IsWithin, multiple}
use Rattle.halving.specs.Wide.{Wide}
use Rattle.soft_bits.specs.Kept.{SeenLine, along}
use Rattle.soft_bits.specs.Lines.{line_energy}
use Rattle.soft_bits.specs.Soft.{SeenSlot, AreSmall}
use Rattle.tones.specs.Seen.{seen_symbol, wide_start}
use Rattle.wide_cell.specs.Cell.{Cell}
use Rattle.wide_slot.specs.declared.weights.Weights.{Weights}
use Rattle.wide_slot.specs.Lines.{AreWeights, wide_line, smoothed_line}

-- a cell's slot with these symbols
abbrev pub slot_from : List (List Cpx) → Cell → ℕ → SeenSlot
slot_from symbols cell number = record { symbols = symbols; number = number; identity = cell.identity }

-- a slot as it is received, in a frame that begins at sample `frame` at 1.92 million samples per second
unfoldable pub seen_slot : Wide → Cell → ℕ → ℕ → SeenSlot
seen_slot wide cell frame number =
    slot_from (values_below 7 (λ symbol. seen_symbol wide cell.blocks (wide_start wide.rate frame number symbol))) cell
    number

-- a received slot, its cell, and the weights that smooth its pilots
pub record WideSeen : Type 0 where
  pub cell : Cell
  pub weights : Weights
  pub slot : SeenSlot

-- an antenna port's smoothed pilots
abbrev pub port_line : WideSeen → ℕ → SeenLine
port_line seen port = smoothed_line seen.weights (wide_line seen.cell seen.slot.number port) seen.slot

-- the factor on all channels of a slot, before the distance of a port's pilots is divided out
abbrev pub scale_of : ℕ → ℕ
scale_of ports = if nat_eq ports 4 then 6 else 3

-- an antenna port's channel at a subcarrier, times the factor
abbrev pub port_channel : WideSeen → ℕ → ℕ → Cpx
port_channel seen port k =
    multiple (scale_of seen.cell.ports / (port_line seen port).step) (along (port_line seen port) k)

-- an antenna port's pilot energy; ports 2 and 3 have half as many pilots, and count twice
abbrev pub port_energy : WideSeen → ℕ → ℕ
port_energy seen port =
    (wide_line seen.cell seen.slot.number port).step / 3
    * line_energy (wide_line seen.cell seen.slot.number port) seen.slot

-- the pilot energy over all ports
unfoldable pub ports_energy : WideSeen → ℕ
ports_energy seen = total_below seen.cell.ports (port_energy seen)

-- ---- bounds

-- a port's smoothed pilots are at most 400, and bounded
pub record IsSmallLine (line : SeenLine) : Type 0 where
  pub some : 1 ≤ line.step
  pub near : line.step ≤ 6
  pub few : length line.pilots ≤ 400
  pub small : All (IsWithin (1440 * 2 ^ 25)) line.pilots

-- what is kept with a slot: each antenna port's smoothed pilots, and the pilot energy
pub record IsKept (seen : WideSeen) (kept_lines : List SeenLine) (kept_energy : ℕ) : Type 0 where
  pub weights : AreWeights seen.weights
  pub small : AreSmall seen.slot.symbols
  pub lines : kept_lines ≡ values_below seen.cell.ports (port_line seen)
  pub energy : kept_energy ≡ ports_energy seen
  pub few : kept_energy ≤ 1600 * 2 ^ 51
