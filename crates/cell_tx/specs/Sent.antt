-- The samples that resource elements produce, frame after frame without end (TS 36.211 section 6.12, in integers), for
-- any elements and for the elements of a cell's plan.
use Rattle.std.specs.Prelude.{ℕ, ◌+◌, ◌-◌, ◌*◌, ◌/◌, ◌%◌, nat_lt, if◌then◌else◌, List}
use Rattle.finite.specs.Lists.{values_below}
use Rattle.cs_num.specs.declared.Cpx.{Cpx}
use Rattle.cs_num.specs.declared.Sample.{Sample}
use Rattle.cs_num.specs.Complex.{times, sample_of}
use Rattle.fold128.specs.Symbol.{useful_at}
use Rattle.lte_types.specs.declared.numerology.Prefix.{Prefix}
use Rattle.lte_types.specs.Numerology.{frame_length, slot_length, useful_length, normal, symbols_of_slot}
use Rattle.lte_types.specs.Numerology.{useful_start, symbol_of}
use Rattle.lte_types.specs.Timing.{number_of}
use Rattle.cell_plan.specs.declared.cell.CellPlan.{CellPlan}
use Rattle.cell_grid.specs.Grid.{Elements, element}

-- sample `i` of the symbol whose useful part begins at `start`; a cyclic prefix sample equals the useful sample 128
-- samples later
abbrev pub symbol_sample : (ℕ → Cpx) → ℕ → ℕ → Cpx
symbol_sample useful start i = if nat_lt i start then useful (i + useful_length - start) else useful (i - start)

-- ---- samples with either cyclic prefix

-- sample `i` of slot `slot`, 0 to 19, in frame `sfn`
abbrev pub prefix_slot_sample : Prefix → Elements → ℕ → ℕ → ℕ → Cpx
prefix_slot_sample prefix grid sfn slot i =
    symbol_sample (useful_at (grid sfn (slot / 2) (symbols_of_slot prefix * (slot % 2) + symbol_of prefix i)))
    (useful_start prefix 0 0 (symbol_of prefix i)) i

-- sample `i` of frame `sfn`
unfoldable pub prefix_frame_sample : Prefix → Elements → ℕ → ℕ → Cpx
prefix_frame_sample prefix grid sfn i = prefix_slot_sample prefix grid sfn (i / slot_length) (i % slot_length)

-- sample `i` of the endless sequence of frames that begins with frame `sfn`
unfoldable pub prefix_sent : Prefix → Elements → ℕ → ℕ → Cpx
prefix_sent prefix grid sfn i = prefix_frame_sample prefix grid (number_of sfn i) (i % frame_length)

-- the 19,200 samples of frame `sfn`
unfoldable pub frame_samples : Prefix → Elements → ℕ → List Sample
frame_samples prefix grid sfn = values_below frame_length (λ i. sample_of (prefix_frame_sample prefix grid sfn i))

-- ---- samples with the normal cyclic prefix

abbrev pub sent : Elements → ℕ → ℕ → Cpx
sent grid sfn i = prefix_sent normal grid sfn i

-- sample `i + offset` of the sequence of a cell with one port, times the complex gain
abbrev pub received : CellPlan → ℕ → ℕ → Cpx → ℕ → Cpx
received plan sfn offset gain i = times gain (sent (element plan) sfn (i + offset))
