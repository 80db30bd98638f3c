-- A recording has one text per report, and one corrected recording.
use Rattle.std.proofs.Common.{◌≡◌, ℕ, Option, Some, None, List, ap, sym, ◌∙◌}
use Rattle.cs_num.specs.declared.Sample.{Sample}
use Rattle.lte_types.specs.declared.carrier.Carrier.{Carrier}
use Rattle.sample_file.specs.Recording.{bytes_of}
use Rattle.report_json.specs.Offset.{estimation_json, IsTellJson}
use Rattle.frequency_offset.specs.Candidates.{taken_of}
use Rattle.report_text.specs.Offset.{offset_text}
use Rattle.frequency_offset.proofs.OneEstimate.{has_one_estimate, is_one_applied}
use Rattle.frequency_offset.specs.Estimation.{turn_of}
use Rattle.halving.specs.Wide.{narrowed}
use Rattle.wide_turn.specs.Turned.{front, turned}
use Rattle.lte_args.specs.declared.form.Rate.{Rate}
use Rattle.lte_args.specs.Words.{exponent_of}
use Rattle.reasons.proofs.OneReason.{one_reason}
use Rattle.lte_args.specs.declared.form.Report.{Report}
use Rattle.lte_args.specs.declared.form.Report.TheVariants.{Hits, Ids, Deep, Search, Evidence, Tell, Why}
use Rattle.lte_args.specs.declared.form.Output.{Output}
use Rattle.lte_args.specs.declared.form.Output.TheVariants.{Text, Json}
use Rattle.lte_args.specs.declared.form.Turn.{Turn}
use Rattle.lte_args.specs.declared.form.Turn.TheVariants.{AsEstimated, Steps}
use Rattle.lte_top.specs.declared.reading.Signal.{Signal}
use Rattle.lte_top.specs.Reports.{IsTellReport, IsHits, IsIds, IsReport}
use Rattle.evidence.specs.Receivers.{receiver_of}
use Rattle.lte_top.specs.Why.{IsWhy, why_text}
use Rattle.lte_top.specs.Tuning.{IsTurnedAsBytes}
use Rattle.lte_top.proofs.OneList.{one_line, one_search}
use Rattle.lte_top.proofs.SupportedLists.{one_evidence}
use Rattle.lte_top.proofs.Deep.{one_deep}

one_hits : (output : Output) (samples : List Sample) (first second : List ℕ) → IsHits output samples first → IsHits output samples second → first ≡ second
one_hits Text samples first second a b = a ∙ sym b
one_hits Json samples first second a b = a ∙ sym b

one_ids : (output : Output) (samples : List Sample) (first second : List ℕ) → IsIds output samples first → IsIds output samples second → first ≡ second
one_ids Text samples first second a b = a ∙ sym b
one_ids Json samples first second a b = a ∙ sym b

one_tell_json : (samples : List Sample) (first second : List ℕ) → IsTellJson samples first → IsTellJson samples second → first ≡ second
one_tell_json samples first second a b =
    a.is_text ∙ ap (λ numbers. estimation_json numbers (taken_of samples)) (has_one_estimate samples a.estimate b.estimate a.is_estimated b.is_estimated) ∙ sym b.is_text

one_decoding : (output : Output) (samples : List Sample) (first second : List ℕ) → IsTellReport output samples first → IsTellReport output samples second → first ≡ second
one_decoding Text samples first second a b = a.is_text ∙ ap offset_text (has_one_estimate samples a.estimate b.estimate a.is_estimated b.is_estimated) ∙ sym b.is_text
one_decoding Json samples first second a b = one_line (IsTellJson samples) (one_tell_json samples) first second a b

one_why : (identity : ℕ) (carrier : Carrier) (output : Output) (samples : List Sample) (first second : List ℕ) → IsWhy identity carrier output samples first → IsWhy identity carrier output samples second → first ≡ second
one_why identity carrier output samples first second a b =
    a.text_is ∙ ap (why_text output identity carrier) (one_reason (receiver_of carrier) samples identity a.reasons b.reasons a.are b.are) ∙ sym b.text_is

pub one_report : (report : Report) (output : Output) (signal : Signal) (first second : List ℕ) → IsReport report output signal first → IsReport report output signal second → first ≡ second
one_report Hits output signal first second a b = one_hits output signal.narrow first second a b
one_report Ids output signal first second a b = one_ids output signal.narrow first second a b
one_report (Deep span) output signal first second a b = one_deep span output signal.narrow first second a b
one_report (Search rule) output signal first second a b = one_search rule output signal first second a b
one_report (Evidence lists) output signal first second a b = one_evidence lists output signal first second a b
one_report Tell output signal first second a b = one_decoding output signal.narrow first second a b
one_report (Why identity carrier) output signal first second a b = one_why identity carrier output signal.narrow first second a b

pub one_turned : (rate : Option Rate) (turn : Turn) (samples : List Sample) (first second : List ℕ) → IsTurnedAsBytes rate turn samples first → IsTurnedAsBytes rate turn samples second →
    first ≡ second
one_turned None AsEstimated samples first second a b = a.bytes ∙ ap bytes_of (is_one_applied samples a.samples b.samples a.are b.are) ∙ sym b.bytes
one_turned None (Steps m) samples first second a b = a.bytes ∙ ap bytes_of (a.are ∙ sym b.are) ∙ sym b.bytes
one_turned (Some rate) AsEstimated samples first second a b =
    let wide = narrowed (front (exponent_of rate) samples) in
    let same = has_one_estimate wide a.are.estimate b.are.estimate a.are.is_estimated b.are.is_estimated in
    a.bytes ∙ ap bytes_of (a.are.samples_are ∙ ap (λ estimate. turned (exponent_of rate) samples (turn_of estimate)) same ∙ sym b.are.samples_are) ∙ sym b.bytes
one_turned (Some rate) (Steps m) samples first second a b = a.bytes ∙ ap bytes_of (a.are ∙ sym b.are) ∙ sym b.bytes
