-- The output of `apply` has the cells that `tell` reports. (own)
use Rattle.std.specs.Prelude.{◌≡◌, ℕ, List, Option, IfSome}
use Rattle.cs_num.specs.declared.Sample.{Sample}
use Rattle.sample_file.specs.declared.form.SampleForm.{SampleForm}
use Rattle.sample_file.specs.Recording.{samples_of, samples_in, IsRecording}
use Rattle.frequency_offset.specs.declared.estimation.OffsetEstimate.{OffsetEstimate}
use Rattle.frequency_offset.specs.Estimation.{HasCells}
use Rattle.report_text.specs.Offset.{offset_text}
use Rattle.lte_args.specs.declared.form.Form.TheVariants.{Report as Reports, Apply}
use Rattle.lte_args.specs.declared.form.Report.TheVariants.{Tell}
use Rattle.lte_args.specs.declared.form.Output.TheVariants.{Text}
use Rattle.lte_args.specs.declared.form.Turn.TheVariants.{AsEstimated}
use Rattle.lte_top.specs.Signals.{plain}
use Rattle.lte_top.specs.Forms.{IsOutput}

-- `samples` is a valid recording; if `text`, the output of `tell`, reports an estimate, `samples` has the reported
-- number of cells
pub record HasReportedCells (text : List ℕ) (samples : List Sample) : Type 0 where
  pub estimate : Option OffsetEstimate
  pub text_is : text ≡ offset_text estimate
  pub recording : IsRecording samples
  pub cells : IfSome estimate (λ estimate. HasCells samples estimate.cells)

-- a law: for the same input in either sample format, without a rate, `apply` writes a valid 16-bit recording with as many cells as
-- `tell` reports
abbrev pub WhatIsAppliedIsEstimated : Type 0
WhatIsAppliedIsEstimated = (form : SampleForm) (bytes text applied : List ℕ) → IsRecording (samples_in form bytes) →
    IsOutput (Reports Tell Text (plain form)) bytes text → IsOutput (Apply AsEstimated (plain form)) bytes applied →
    HasReportedCells text (samples_of applied)
