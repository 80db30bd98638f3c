-- The reports about a recording. (own)
use Rattle.std.specs.Prelude.{◌≡◌, ℕ, Option, Some, None, List, map}
use Rattle.cs_num.specs.declared.Sample.{Sample}
use Rattle.halving.specs.Wide.{Wide}
use Rattle.lte_types.specs.Numerology.{least_samples, most_samples}
use Rattle.pss_search.specs.Hits.{hits_of}
use Rattle.hit_details.specs.Details.{identified, measured, measured_id}
use Rattle.report_text.specs.Hits.{hits_text, ids_text}
use Rattle.report_json.specs.Hits.{hits_json, ids_json}
use Rattle.lte_args.specs.declared.form.Report.{Report}
use Rattle.lte_args.specs.declared.form.Report.TheVariants.{Hits, Ids, Deep, Search, Evidence, Tell, Why}
use Rattle.lte_args.specs.declared.form.Rule.{Rule}
use Rattle.lte_args.specs.declared.form.Rule.TheVariants.{Of, Cancel, All}
use Rattle.lte_args.specs.declared.form.Output.{Output}
use Rattle.lte_args.specs.declared.form.Output.TheVariants.{Text, Json}
use Rattle.report_json.specs.Offset.{IsTellJson}
use Rattle.report_text.specs.Offset.{IsTellText}
use Rattle.explain.specs.Deciding.{deciding_length}
use Rattle.lte_top.specs.Line.{as_line, IsLine}
use Rattle.lte_top.specs.declared.reading.Signal.{Signal}
use Rattle.lte_top.specs.Deep.{IsDeep, used_length}
use Rattle.lte_top.specs.Searching.{IsSearch}
use Rattle.lte_top.specs.Supporting.{IsEvidence}
use Rattle.lte_top.specs.Why.{IsWhy}

-- ---- each report

abbrev pub IsHits : Output → List Sample → List ℕ → Type 0
IsHits Text samples text = text ≡ hits_text (hits_of samples)
IsHits Json samples text = text ≡ as_line (hits_json (map measured (hits_of samples)))

abbrev pub IsIds : Output → List Sample → List ℕ → Type 0
IsIds Text samples text = text ≡ ids_text (map (identified samples) (hits_of samples))
IsIds Json samples text = text ≡ as_line (ids_json (map (measured_id samples) (hits_of samples)))

-- `text` is the report on the recording's frequency offset
abbrev pub IsTellReport : Output → List Sample → List ℕ → Type 0
IsTellReport Text samples text = IsTellText samples text
IsTellReport Json samples text = IsLine (IsTellJson samples) text

-- `text` is the report about a recording with signal `signal`
abbrev pub IsReport : Report → Output → Signal → List ℕ → Type 0
IsReport Hits output signal text = IsHits output signal.narrow text
IsReport Ids output signal text = IsIds output signal.narrow text
IsReport (Deep span) output signal text = IsDeep span output signal.narrow text
IsReport (Search rule) output signal text = IsSearch rule output signal text
IsReport (Evidence lists) output signal text = IsEvidence lists output signal text
IsReport Tell output signal text = IsTellReport output signal.narrow text
IsReport (Why identity carrier) output signal text = IsWhy identity carrier output signal.narrow text

-- ---- what is kept of a recording

-- the number of leading samples that a cell list needs: without cancellation, a list depends only on the first 17
-- frames
abbrev pub kept_for_list : Rule → ℕ
kept_for_list (Of carrier) = deciding_length
kept_for_list Cancel = most_samples
kept_for_list All = deciding_length

-- the number of leading samples that a report without a rate needs: PSS detections start in the first frame or just
-- after it
abbrev pub kept_for : Report → ℕ
kept_for Hits = least_samples
kept_for Ids = least_samples
kept_for (Deep span) = used_length span
kept_for (Search rule) = kept_for_list rule
kept_for (Evidence lists) = most_samples
kept_for Tell = most_samples
kept_for (Why identity carrier) = deciding_length

-- the samples at the given rate that a report keeps: those of `search` for its lists and of `evidence`, whose text does
-- not use them
abbrev pub wide_for : Report → Wide → Option Wide
wide_for (Search (Of carrier)) wide = Some wide
wide_for (Search All) wide = Some wide
wide_for (Evidence lists) wide = Some wide
wide_for report wide = None
