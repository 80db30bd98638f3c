-- The text of the frequency offset estimate. Numbers are decimal, and every line ends with a line feed. (own)
use Rattle.std.specs.Prelude.{◌≡◌, ℕ, List, ◌++◌, codes, ℤ, Option, Some, None}
use Rattle.std.specs.Fmt.{signed_decimal}
use Rattle.cs_num.specs.declared.Sample.{Sample}
use Rattle.frequency_offset.specs.declared.estimation.OffsetEstimate.{OffsetEstimate}
use Rattle.frequency_offset.specs.Estimation.{IsEstimated}
use Rattle.report_text.specs.Hits.{hits_head}
use Rattle.report_text.specs.Lines.{head_line}

-- the line with the frequency offset, in steps of 117.1875 Hz, as `turn`
abbrev pub turn_line : ℤ → List ℕ
turn_line turn = codes "turn " ++ signed_decimal turn ++ codes "\n"

-- the lines with the number of hits, the frequency offset, and the number of cells; without an estimate only `hits 0`
abbrev pub offset_text : Option OffsetEstimate → List ℕ
offset_text None = hits_head 0
offset_text (Some estimate) = hits_head estimate.hits ++ turn_line estimate.turn ++ head_line estimate.cells

-- `text` reports the frequency offset estimate of `recording`
pub record IsTellText (recording : List Sample) (text : List ℕ) : Type 0 where
  pub estimate : Option OffsetEstimate
  pub is_estimated : IsEstimated recording estimate
  pub is_text : text ≡ offset_text estimate
