-- An antenna port's pilots in a slot of a cell of any bandwidth (TS 36.211 section 6.10.1), and their smoothing. (own)
use Rattle.std.specs.Prelude.{◌≡◌, ◌⊎◌, ℕ, ◌+◌, ◌-◌, ◌*◌, ◌/◌, ◌%◌, ◌<◌, ◌≤◌, min, nat_eq, nat_lt, if◌then◌else◌, List, length}
use Rattle.finite.specs.Lists.{values_below}
use Rattle.cs_num.specs.declared.Cpx.{Cpx}
use Rattle.cs_num.specs.Complex.{plus, multiple, value_at}
use Rattle.gold.specs.Gold.{gold_bit}
use Rattle.crs.specs.Reference.{port_0, port_1, pattern_c_init, pattern_first, upper_first, value_of_width}
use Rattle.soft_bits.specs.Estimate.{place_by}
use Rattle.soft_bits.specs.Kept.{SeenLine}
use Rattle.soft_bits.specs.Lines.{Line, line_pilots}
use Rattle.soft_bits.specs.Soft.{SeenSlot}
use Rattle.wide_cell.specs.Cell.{Cell, subcarriers}
use Rattle.wide_slot.specs.declared.layout.Layout.{Layout}
use Rattle.wide_slot.specs.declared.weights.Weights.{Weights}

-- ---- where the pilots are, and what is sent there

-- reference signal value m in a symbol of a slot
abbrev pub wide_reference : Cell → ℕ → ℕ → ℕ → Cpx
wide_reference cell number symbol m =
    value_of_width cell.blocks (gold_bit (pattern_c_init port_0 cell.identity number symbol)) m

-- ports 0 and 1 have a pilot at every third subcarrier of symbols 0 and 4 together, where symbol 0 has those with the
-- residue v modulo 6
abbrev pub lower_layout : Cell → ℕ → Layout
lower_layout cell port = record {
  step = 3;
  last = 4 * cell.blocks - 1;
  first = cell.identity % 3;
  residue = pattern_first (if nat_eq port 0 then port_0 else port_1) cell.identity 0;
  early = 0;
  late = 4;
}

-- ports 2 and 3 have a pilot at every sixth subcarrier of symbol 1
abbrev pub upper_layout : Cell → ℕ → ℕ → Layout
upper_layout cell number port = record {
  step = 6;
  last = 2 * cell.blocks - 1;
  first = upper_first port cell.identity number;
  residue = upper_first port cell.identity number;
  early = 1;
  late = 1;
}

abbrev pub layout_of : Cell → ℕ → ℕ → Layout
layout_of cell number port = if nat_lt port 2 then lower_layout cell port else upper_layout cell number port

-- the symbol with the pilot at a subcarrier
abbrev pub symbol_with : Layout → ℕ → ℕ
symbol_with layout k = if nat_eq (k % 6) layout.residue then layout.early else layout.late

-- the subcarrier of pilot i
abbrev pub pilot_place : Layout → ℕ → ℕ
pilot_place layout i = place_by layout.step layout.first i

-- a layout in a slot as a line of pilots
abbrev pub laid_out : Layout → Cell → ℕ → Line
laid_out layout cell number = record {
  step = layout.step;
  last = layout.last;
  first = layout.first;
  symbol = λ i. symbol_with layout (pilot_place layout i);
  sent = λ i. wide_reference cell number (symbol_with layout (pilot_place layout i)) (pilot_place layout i / 6);
}

-- an antenna port's line of pilots
abbrev pub wide_line : Cell → ℕ → ℕ → Line
wide_line cell number port = laid_out (layout_of cell number port) cell number

-- the pilots fill the subcarriers
pub record IsLayout (cell : Cell) (layout : Layout) : Type 0 where
  pub step : (layout.step ≡ 3) ⊎ (layout.step ≡ 6)
  pub whole : layout.step * (layout.last + 1) ≡ subcarriers cell.blocks
  pub first : layout.first < layout.step
  pub few : layout.last < 400
  pub early : layout.early < 7
  pub late : layout.late < 7
  pub blocks : cell.blocks ≤ 100

-- ---- smoothing

-- the weights by which pilots are smoothed: 1, 2, 1
abbrev pub smoothing : Weights
smoothing = record { outer = 1; middle = 2 }

-- the sum of the weights: of a pilot, and of its two neighbours
abbrev pub total_weight : Weights → ℕ
total_weight weights = 2 * weights.outer + weights.middle

-- the weights add up to 1 to 8
pub record AreWeights (weights : Weights) : Type 0 where
  pub some : 1 ≤ total_weight weights
  pub few : total_weight weights ≤ 8

-- pilot i weighted with its neighbours; the first and the last pilot count as their own missing neighbours
abbrev pub smoothed_at : Weights → List Cpx → ℕ → Cpx
smoothed_at weights pilots i =
    plus (plus (multiple weights.outer (value_at pilots (i - 1))) (multiple weights.middle (value_at pilots i)))
    (multiple weights.outer (value_at pilots (min (i + 1) (length pilots - 1))))

unfoldable pub smoothed : Weights → List Cpx → List Cpx
smoothed weights pilots = values_below (length pilots) (smoothed_at weights pilots)

-- a line's smoothed pilots
abbrev pub smoothed_line : Weights → Line → SeenSlot → SeenLine
smoothed_line weights line slot =
    record { step = line.step; first = line.first; pilots = smoothed weights (line_pilots line slot) }
