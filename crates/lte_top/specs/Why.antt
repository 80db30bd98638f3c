-- Why a cell identity is in the list for a transmission scheme, or is not. (own)
use Rattle.std.specs.Prelude.{◌≡◌, ℕ, ◌≤◌, List, length}
use Rattle.cs_num.specs.declared.Sample.{Sample}
use Rattle.lte_types.specs.declared.carrier.Carrier.{Carrier}
use Rattle.lte_args.specs.declared.form.Output.{Output}
use Rattle.lte_args.specs.declared.form.Output.TheVariants.{Text, Json}
use Rattle.sample_file.specs.Recording.{AgreeBefore}
use Rattle.explain.specs.Deciding.{deciding_length, LooksAtFirstFrames}
use Rattle.evidence.specs.Receivers.{receiver_of}
use Rattle.reasons.specs.declared.reason.Reason.{Reason}
use Rattle.reasons.specs.Reason.{IsReasonFor}
use Rattle.reason_report.specs.Json.{reasons_json}
use Rattle.reason_report.specs.Text.{reasons_text}
use Rattle.lte_top.specs.Line.{as_line}

abbrev pub why_text : Output → ℕ → Carrier → List Reason → List ℕ
why_text Text identity carrier reasons = reasons_text identity carrier reasons
why_text Json identity carrier reasons = as_line (reasons_json identity carrier reasons)

-- `text` reports why `identity` is in the list for transmission scheme `carrier`, or is not
pub record IsWhy (identity : ℕ) (carrier : Carrier) (output : Output) (samples : List Sample) (text : List ℕ) :
    Type 0 where
  pub reasons : List Reason
  pub are : IsReasonFor (receiver_of carrier) samples identity reasons
  pub text_is : text ≡ why_text output identity carrier reasons

-- the receiver of each transmission scheme reads only the first frames
abbrev pub EachLooksAtFirstFrames : Type 0
EachLooksAtFirstFrames = (carrier : Carrier) → LooksAtFirstFrames (receiver_of carrier)

-- a law: two recordings that agree in their first 326,400 samples have the same reasons under each transmission scheme
abbrev pub FirstFramesDecideWhy : Type 0
FirstFramesDecideWhy = (carrier : Carrier) (first second : List Sample) (identity : ℕ) (reasons : List Reason) →
    deciding_length ≤ length first → deciding_length ≤ length second → AgreeBefore deciding_length first second →
    IsReasonFor (receiver_of carrier) first identity reasons →
    IsReasonFor (receiver_of carrier) second identity reasons
