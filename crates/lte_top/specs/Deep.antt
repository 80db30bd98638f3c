-- The cells that are detected over many half-frames of a recording. (own)
use Rattle.std.specs.Prelude.{◌≡◌, ℕ, List, length, take}
use Rattle.cs_num.specs.declared.Sample.{Sample}
use Rattle.lte_types.specs.Numerology.{most_samples}
use Rattle.explain.specs.Deciding.{deciding_length}
use Rattle.sample_file.specs.Recording.{AgreeBefore}
use Rattle.accumulated_pss.specs.Sums.{half_frames_in}
use Rattle.accumulated_list.specs.declared.cell.DetectedCell.{DetectedCell}
use Rattle.accumulated_list.specs.Cells.{IsList}
use Rattle.accumulated_report.specs.Json.{accumulated_json}
use Rattle.accumulated_report.specs.Text.{accumulated_text}
use Rattle.lte_args.specs.declared.form.Output.{Output}
use Rattle.lte_args.specs.declared.form.Output.TheVariants.{Text, Json}
use Rattle.lte_args.specs.declared.form.Span.{Span}
use Rattle.lte_args.specs.declared.form.Span.TheVariants.{First, All}
use Rattle.lte_top.specs.Line.{as_line}

-- the number of leading samples that are used: those that decide the other lists, or all
abbrev pub used_length : Span → ℕ
used_length First = deciding_length
used_length All = most_samples

-- the text of the cells that are detected over `halves` half-frames, or their JSON as a line
abbrev pub deep_text : Output → ℕ → List DetectedCell → List ℕ
deep_text Text halves cells = accumulated_text halves cells
deep_text Json halves cells = as_line (accumulated_json halves cells)

-- `text` is the list over all half-frames of `samples`
pub record IsDeepText (output : Output) (samples : List Sample) (text : List ℕ) : Type 0 where
  pub cells : List DetectedCell
  pub is_list : IsList samples (half_frames_in (length samples)) cells
  pub text_is : text ≡ deep_text output (half_frames_in (length samples)) cells

-- `text` is the list over all half-frames of the samples that are used
abbrev pub IsDeep : Span → Output → List Sample → List ℕ → Type 0
IsDeep span output samples text = IsDeepText output (take (used_length span) samples) text

-- a law: two recordings that agree in their first 326,400 samples have the same list
abbrev pub FirstFramesDecideDeep : Type 0
FirstFramesDecideDeep = (output : Output) (first second : List Sample) (text : List ℕ) →
    AgreeBefore deciding_length first second → IsDeep First output first text → IsDeep First output second text
