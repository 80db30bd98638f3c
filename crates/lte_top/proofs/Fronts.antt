-- A report depends only on the samples that are kept for it.
use Rattle.std.proofs.Common.{◌≡◌, ℕ, suc, ◌≤◌, Bool, true, false, nat_le, List, [], ◌∷◌, Option, None, Some, length, map, take, refl, ap, ap₂, sym, subst, ◌∙◌, arith}
use Rattle.std.specs.Prelude.{All}
use Rattle.std.proofs.lemmas.Bool.Decides.{nat_tests}
use Rattle.std.proofs.lemmas.List.{take_all, take-take, length-take-le}
use Rattle.cs_num.specs.declared.Sample.{Sample}
use Rattle.lte_types.specs.Numerology.{normal, least_samples, most_samples}
use Rattle.lte_types.specs.declared.carrier.Carrier.{Carrier}
use Rattle.lte_types.specs.declared.carrier.Carrier.TheVariants.{OnePort, TwoPorts, LongPrefix, FourPorts}
use Rattle.lte_types.specs.declared.entry.Entry.{Entry}
use Rattle.lte_types.specs.declared.hit.Hit.{Hit}
use Rattle.cs_outside.specs.Outside.{SourceState}
use Rattle.sample_file.specs.declared.form.SampleForm.{SampleForm}
use Rattle.halving.specs.Wide.{Wide, narrowed}
use Rattle.sample_file.specs.Recording.{AgreeBefore, IsRecording, samples_in}
use Rattle.sample_file.specs.Reading.{HasReadFront}
use Rattle.sample_file.proofs.Keeping.{recording_is}
use Rattle.pss_search.specs.Hits.{IsInSpan, hits_of}
use Rattle.pss_search.proofs.Agree.{hits_agree}
use Rattle.pss_search.proofs.Listed.{listed_in_span}
use Rattle.sss_detect.proofs.Agree.{identity_agrees, ranking_agrees}
use Rattle.soft_bits.specs.Pairs.{over_two, over_four, paired_by}
use Rattle.soft_bits.specs.Places.{placed_values}
use Rattle.explain.specs.Deciding.{deciding_length, LooksAtFirstFrames}
use Rattle.explain.proofs.Deciding.{decided, broadcast_agrees, slots_look}
use Rattle.long_prefix.proofs.Deciding.{long_looks}
use Rattle.reasons.specs.declared.reason.Reason.{Reason}
use Rattle.reasons.specs.Reason.{IsReasonFor}
use Rattle.reasons.proofs.Agree.{first_frames_decide_reasons}
use Rattle.report_text.specs.Hits.{hits_text, ids_text}
use Rattle.report_json.specs.Hits.{hits_json, ids_json}
use Rattle.lte_args.specs.declared.form.Rate.{Rate}
use Rattle.lte_args.specs.declared.form.RecordingForm.{RecordingForm}
use Rattle.lte_args.specs.declared.form.Form.TheVariants.{Report as Reports}
use Rattle.lte_args.specs.declared.form.Report.{Report}
use Rattle.lte_args.specs.declared.form.Report.TheVariants.{Hits, Ids, Deep, Search, Evidence, Tell, Why}
use Rattle.lte_args.specs.declared.form.Rule.TheVariants.{Of, Cancel, All as AllLists}
use Rattle.lte_args.specs.declared.form.Output.{Output}
use Rattle.lte_args.specs.declared.form.Output.TheVariants.{Text, Json}
use Rattle.lte_top.specs.Line.{as_line}
use Rattle.hit_details.specs.Details.{identified, identified_by, measured, measured_id}
use Rattle.lte_top.specs.declared.reading.Signal.{Signal}
use Rattle.lte_top.specs.Signals.{plain, rated, wide_at, HasReadWide}
use Rattle.lte_top.specs.Reports.{kept_for, wide_for, IsReport}
use Rattle.lte_top.specs.Run.{HasOutput}
use Rattle.evidence.specs.Receivers.{receiver_of}
use Rattle.lte_top.specs.Searching.{FirstFramesDecideEach, IsListOf}
use Rattle.lte_top.specs.Why.{EachLooksAtFirstFrames, FirstFramesDecideWhy}
use Rattle.lte_top.proofs.Carriers.{list_holds}
use Rattle.lte_top.proofs.Deep.{kept_deep}
use Rattle.lte_top.proofs.Ending.{recording_unrefused}

-- ---- lists

-- the receiver for a transmission scheme depends on the first frames only
pub looks : EachLooksAtFirstFrames
looks OnePort = slots_look OnePort None placed_values
looks TwoPorts = slots_look TwoPorts (Some 2) (paired_by over_two)
looks LongPrefix = long_looks
looks FourPorts = record {
  broadcast = broadcast_agrees (paired_by over_four);
  subframes = λ first second place j agree early few. tt;
}

pub each_is_decided : FirstFramesDecideEach
each_is_decided carrier = decided (receiver_of carrier) (looks carrier)

pub why_is_decided : FirstFramesDecideWhy
why_is_decided carrier = first_frames_decide_reasons (receiver_of carrier) (looks carrier)

-- the kept samples agree with the recording
front_agrees : (most : ℕ) (samples : List Sample) → AgreeBefore most (take most samples) samples
front_agrees most samples = take-take most most samples (omega arith)

is_above : (most n : ℕ) → nat_le most n ≡ true → most ≤ n
is_above most n e = grind (arith, nat_tests)

is_below : (most n : ℕ) → nat_le most n ≡ false → n ≤ most
is_below most n e = grind (arith, nat_tests)

-- the cell list of the first 17 frames is the recording's cell list
list_decides : (carrier : Carrier) (samples : List Sample) (list : List Entry) → IsRecording samples → IsListOf carrier (take deciding_length samples) list → IsListOf carrier samples list
list_decides carrier samples list valid is = by_length (nat_le deciding_length (length samples)) refl
  where
    by_length : (long : Bool) → nat_le deciding_length (length samples) ≡ long → IsListOf carrier samples list
    by_length true e =
        let above = is_above deciding_length (length samples) e in
        let size : length (take deciding_length samples) ≡ deciding_length = length-take-le deciding_length samples above in
        list_holds carrier samples list valid
        (each_is_decided carrier (take deciding_length samples) samples list (omega (arith, size)) above (front_agrees deciding_length samples) is.explained)
    by_length false e =
        subst (λ (kept : List Sample). IsListOf carrier kept list) (take_all deciding_length samples (is_below deciding_length (length samples) e)) is

-- the reasons for an identity in the first 17 frames are those in the recording
reasons_decide : (carrier : Carrier) (samples : List Sample) (identity : ℕ) (reasons : List Reason) → IsReasonFor (receiver_of carrier) (take deciding_length samples) identity reasons →
    IsReasonFor (receiver_of carrier) samples identity reasons
reasons_decide carrier samples identity reasons is = by_length (nat_le deciding_length (length samples)) refl
  where
    by_length : (long : Bool) → nat_le deciding_length (length samples) ≡ long → IsReasonFor (receiver_of carrier) samples identity reasons
    by_length true e =
        let above = is_above deciding_length (length samples) e in
        let size : length (take deciding_length samples) ≡ deciding_length = length-take-le deciding_length samples above in
        why_is_decided carrier (take deciding_length samples) samples identity reasons (omega (arith, size)) above
        (front_agrees deciding_length samples) is
    by_length false e =
        subst (λ (kept : List Sample). IsReasonFor (receiver_of carrier) kept identity reasons) (take_all deciding_length samples (is_below deciding_length (length samples) e)) is

-- ---- hits

-- equal results for each PSS detection give equal lists of results
each_same : {X : Type 0} (f g : Hit → X) (hits : List Hit) → All IsInSpan hits → ((hit : Hit) → IsInSpan hit → f hit ≡ g hit) → map f hits ≡ map g hits
each_same f g [] span same = refl
each_same f g (hit ∷ hits) span same =
    ap₂ (λ x xs. x ∷ xs) (same hit (span 0 hit (omega arith))) (each_same f g hits (λ k d inside. span (suc k) d (omega (arith, inside))) same)

kept_hits : (samples : List Sample) → hits_of (take least_samples samples) ≡ hits_of samples
kept_hits samples = hits_agree least_samples (take least_samples samples) samples (front_agrees least_samples samples) (omega arith)

kept_ids : (samples : List Sample) → map (identified (take least_samples samples)) (hits_of (take least_samples samples)) ≡ map (identified samples) (hits_of samples)
kept_ids samples =
    each_same (identified (take least_samples samples)) (identified samples) (hits_of (take least_samples samples)) (listed_in_span (take least_samples samples))
    (λ hit span. ap (identified_by hit) (identity_agrees least_samples (take least_samples samples) samples hit (front_agrees least_samples samples) (let last = span.to_last in omega (arith, last))))
    ∙ ap (map (identified samples)) (kept_hits samples)

kept_measured : (samples : List Sample) → map (measured_id (take least_samples samples)) (hits_of (take least_samples samples)) ≡ map (measured_id samples) (hits_of samples)
kept_measured samples =
    each_same (measured_id (take least_samples samples)) (measured_id samples) (hits_of (take least_samples samples)) (listed_in_span (take least_samples samples)) same
    ∙ ap (map (measured_id samples)) (kept_hits samples)
  where
    same : (hit : Hit) → IsInSpan hit → measured_id (take least_samples samples) hit ≡ measured_id samples hit
    same hit span =
        let last = span.to_last in
        let agree = front_agrees least_samples samples in
        rw (identity_agrees least_samples (take least_samples samples) samples hit agree (omega (arith, last)), ranking_agrees normal least_samples (take least_samples samples) samples hit agree (omega (arith, last))) refl

-- ---- reports

-- the signal of samples at 1.92 million per second
abbrev alone : List Sample → Signal
alone samples = record { narrow = samples; wide = None }

-- a report about the kept samples is a report about the recording
kept_report : (report : Report) (output : Output) (samples : List Sample) (text : List ℕ) → IsRecording samples → IsReport report output (alone (take (kept_for report) samples)) text →
    IsReport report output (alone samples) text
kept_report Hits Text samples text valid is = is ∙ ap hits_text (kept_hits samples)
kept_report Hits Json samples text valid is = is ∙ ap (λ hits. as_line (hits_json (map measured hits))) (kept_hits samples)
kept_report Ids Text samples text valid is = is ∙ ap ids_text (kept_ids samples)
kept_report Ids Json samples text valid is = is ∙ ap (λ found. as_line (ids_json found)) (kept_measured samples)
kept_report (Deep span) output samples text valid is = kept_deep span output samples text is
kept_report (Search (Of carrier)) output samples text valid is =
    record { entries = is.entries; is_list = list_decides carrier samples is.entries valid is.is_list; text_is = is.text_is }
kept_report (Search AllLists) output samples text valid is =
    record { lists = is.lists; are_lists = λ carrier. list_decides carrier samples (is.lists carrier) valid (is.are_lists carrier); text_is = is.text_is }
kept_report (Search Cancel) output samples text valid is = subst (λ (kept : List Sample). IsReport (Search Cancel) output (alone kept) text) (take_all most_samples samples valid.most) is
kept_report (Evidence lists) output samples text valid is = subst (λ (kept : List Sample). IsReport (Evidence lists) output (alone kept) text) (take_all most_samples samples valid.most) is
kept_report Tell output samples text valid is = subst (λ (kept : List Sample). IsReport Tell output (alone kept) text) (take_all most_samples samples valid.most) is
kept_report (Why identity carrier) output samples text valid is =
    record { reasons = is.reasons; are = reasons_decide carrier samples identity is.reasons is.are; text_is = is.text_is }

-- a report about the kept samples is the output
pub kept_output : (report : Report) (form : SampleForm) (front : List Sample) (before now : SourceState) → HasReadFront form (kept_for report) front before now →
    (output : Output) (text : List ℕ) → IsReport report output (alone front) text → HasOutput (Reports report output (plain form)) text before now
kept_output report form front before now f output text is =
    let whole = kept_report report output f.recording text (recording_is form f.recording before now f.read) (subst (λ (kept : List Sample). IsReport report output (alone kept) text) f.front_is is) in
    record {
      bytes = f.read.input;
      whole = f.read.read;
      unrefused = recording_unrefused (plain form) f.recording before now f.read;
      is_output = subst (λ (samples : List Sample). IsReport report output (alone samples) text) f.read.samples whole;
    }

-- ---- reports with a rate

-- a report about a signal without the samples that it does not need is a report about the signal
wide_report : (report : Report) (output : Output) (samples : List Sample) (wide : Wide) (text : List ℕ) → IsReport report output (record { narrow = samples; wide = wide_for report wide }) text →
    IsReport report output (record { narrow = samples; wide = Some wide }) text
wide_report Hits output samples wide text is = is
wide_report Ids output samples wide text is = is
wide_report (Deep span) output samples wide text is = is
wide_report (Search (Of carrier)) output samples wide text is = is
wide_report (Search Cancel) output samples wide text is = is
wide_report (Search AllLists) output samples wide text is = is
wide_report (Evidence lists) output samples wide text is = is
wide_report Tell output samples wide text is = is
wide_report (Why identity carrier) output samples wide text is = is

-- a report about the converted samples is the output
pub wide_output : (report : Report) (form : SampleForm) (rate : Rate) (wide : Wide) (narrow : List Sample) (kept : Option Wide) (before now : SourceState) →
    HasReadWide form rate wide before now → narrow ≡ narrowed wide → kept ≡ wide_for report wide →
    (output : Output) (text : List ℕ) → IsReport report output (record { narrow = narrow; wide = kept }) text → HasOutput (Reports report output (rated form rate)) text before now
wide_output report form rate wide narrow kept before now h narrow_is kept_is output text is =
    let all : IsReport report output (record { narrow = narrowed wide; wide = Some wide }) text =
    wide_report report output (narrowed wide) wide text
    (subst (λ (k : Option Wide). IsReport report output (record { narrow = narrowed wide; wide = k }) text) kept_is
    (subst (λ (n : List Sample). IsReport report output (record { narrow = n; wide = kept }) text) narrow_is is)) in
    let same : wide ≡ wide_at rate (samples_in form h.read.input) = h.wide_is ∙ ap (wide_at rate) h.read.samples in
    record {
      bytes = h.read.input;
      whole = h.read.read;
      unrefused = recording_unrefused (rated form rate) h.recording before now h.read;
      is_output = subst (λ (w : Wide). IsReport report output (record { narrow = narrowed w; wide = Some w }) text) same all;
    }

-- ---- forms with or without a rate

-- a form without a rate
pub is_plain : (form : RecordingForm) → form.rate ≡ None → plain form.samples ≡ form
is_plain form is = ap (λ (rate : Option Rate). record { samples = form.samples; rate = rate }) (sym is)

-- a form with a rate
pub is_rated : (form : RecordingForm) (rate : Rate) → form.rate ≡ Some rate → rated form.samples rate ≡ form
is_rated form rate is = ap (λ (rate : Option Rate). record { samples = form.samples; rate = rate }) (sym is)
