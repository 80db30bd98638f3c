-- How a form's run ends.
use Rattle.std.proofs.Common.{◌≡◌, ◌*◌, ◌%◌, List, length, None, Bool, true, false, ℕ, nat_lt, nat_eq, refl, ap, sym, subst, ◌∙◌, arith}
use Rattle.std.proofs.lemmas.Bool.{ltb-true, eq-eqb}
use Rattle.std.proofs.lemmas.List.{take_all}
use Rattle.lte_types.specs.Numerology.{most_samples}
use Rattle.cs_num.specs.declared.Sample.{Sample}
use Rattle.cs_outside.specs.Counts.{Rose}
use Rattle.cs_outside.specs.Outside.{SourceState, Outside}
use Rattle.cs_outside.specs.Streams.{HasWritten, HasWrittenFront, IsShortOf}
use Rattle.sample_file.specs.declared.form.SampleForm.{SampleForm}
use Rattle.sample_file.specs.Recording.{width, bytes_of}
use Rattle.sample_file.specs.Reading.{HasReadRecordingAt, HasReadFrontAt, least_bytes_at}
use Rattle.sample_file.proofs.Keeping.{count_is}
use Rattle.lte_types.specs.declared.carrier.Carrier.{Carrier}
use Rattle.lte_types.specs.declared.entry.Entry.{Entry}
use Rattle.lte_args.specs.declared.form.RecordingForm.{RecordingForm}
use Rattle.lte_args.specs.declared.form.Form.TheVariants.{Certify, Apply}
use Rattle.lte_args.specs.declared.form.Turn.{Turn}
use Rattle.lte_top.specs.declared.status.Status.{Status}
use Rattle.lte_top.specs.Certificates.{IsCertified}
use Rattle.certificates.specs.Certifying.{HasCertifiedAll, HasCertifiedSome}
use Rattle.certificates.specs.Stream.{all_bytes}
use Rattle.evidence.specs.Receivers.{receiver_of}
use Rattle.lte_top.specs.Searching.{IsListOf}
use Rattle.lte_top.specs.Signals.{factor_of, signal_at, HasReadNarrow}
use Rattle.lte_top.specs.Forms.{recording_refusal, RefusesRecording}
use Rattle.lte_top.specs.Tuning.{IsTurnedAt, IsTurnedAsBytes}
use Rattle.lte_top.specs.Run.{HasOutput, IsDone, IsWriteFault}

-- a recording that was read is not refused
pub recording_unrefused : (form : RecordingForm) (samples : List Sample) (before now : SourceState) (h : HasReadRecordingAt (factor_of form.rate) form.samples samples before now) (status : Status) →
    RefusesRecording form h.input status → ⊥
recording_unrefused form samples before now h status (within, refused) =
    let same : nat_eq (length h.input % width form.samples) 0 ≡ true = eq-eqb (length h.input % width form.samples) 0 h.whole_samples in
    let long : nat_lt (length h.input) (least_bytes_at (factor_of form.rate) form.samples) ≡ false = settle (nat_lt (length h.input) (least_bytes_at (factor_of form.rate) form.samples)) refl in
    let none : recording_refusal form h.input ≡ None = rw (same, long) refl in
    cc (sym none ∙ refused)
  where
    settle : (b : Bool) → nat_lt (length h.input) (least_bytes_at (factor_of form.rate) form.samples) ≡ b → nat_lt (length h.input) (least_bytes_at (factor_of form.rate) form.samples) ≡ false
    settle true e = absurd (omega (arith, ltb-true (length h.input) (least_bytes_at (factor_of form.rate) form.samples) e, h.enough))
    settle false e = e

-- certificates for all entries are the output
pub certified_output : (carrier : Carrier) (form : RecordingForm) (samples : List Sample) (before now : SourceState) (output : List ℕ) → HasReadNarrow form samples before now →
    IsCertified carrier samples output → HasOutput (Certify carrier form) output before now
certified_output carrier form samples before now output h certified = record {
  bytes = h.read.input;
  whole = h.read.read;
  unrefused = recording_unrefused form h.recording before now h.read;
  is_output = subst (λ (s : List Sample). IsCertified carrier s output) (h.narrow_is ∙ ap (λ (s : List Sample). (signal_at form.rate s).narrow) h.read.samples) certified;
}

pub certified_done : (carrier : Carrier) (form : RecordingForm) (samples : List Sample) (entries : List Entry) (before now : Outside) → HasReadNarrow form samples before.0 now.0 → IsListOf carrier samples entries →
    HasCertifiedAll (receiver_of carrier) samples entries before.1 now.1 → IsDone (Certify carrier form) before now
certified_done carrier form samples entries before now h is_list all = record {
  output = all_bytes all.certificates;
  has_output = certified_output carrier form samples before.0 now.0 (all_bytes all.certificates) h
      (record { entries = entries; is_list = is_list; certificates = all.certificates; each = all.each; bytes = refl });
  written = all.written;
}

pub certified_fault : (carrier : Carrier) (form : RecordingForm) (samples : List Sample) (entries : List Entry) (before now : Outside) → HasReadNarrow form samples before.0 now.0 → IsListOf carrier samples entries →
    HasCertifiedSome (receiver_of carrier) samples entries before.1 now.1 → Rose before.1.faults now.1.faults → IsWriteFault (Certify carrier form) before now
certified_fault carrier form samples entries before now h is_list some rose = record {
  output = all_bytes some.certificates;
  has_output = certified_output carrier form samples before.0 now.0 (all_bytes some.certificates) h
      (record { entries = entries; is_list = is_list; certificates = some.certificates; each = some.each; bytes = refl });
  front_written = some.front;
  counted = rose;
  full = some.full;
}

-- ---- corrected recordings

-- the bytes of the corrected recording are the output
turned_output : (turn : Turn) (form : RecordingForm) (samples turned : List Sample) (before now : SourceState) → HasReadRecordingAt (factor_of form.rate) form.samples samples before now →
    IsTurnedAt form.rate turn samples turned → HasOutput (Apply turn form) (bytes_of turned) before now
turned_output turn form samples turned before now h is = record {
  bytes = h.input;
  whole = h.read;
  unrefused = recording_unrefused form samples before now h;
  is_output = subst (λ s. IsTurnedAsBytes form.rate turn s (bytes_of turned)) h.samples (record { samples = turned; are = is; bytes = refl });
}

pub applied_done : (turn : Turn) (form : RecordingForm) (samples turned written : List Sample) (before now : Outside) → HasReadRecordingAt (factor_of form.rate) form.samples samples before.0 now.0 →
    IsTurnedAt form.rate turn samples turned → written ≡ turned → HasWritten (bytes_of written) before.1 now.1 → IsDone (Apply turn form) before now
applied_done turn form samples turned written before now h is same all = record {
  output = bytes_of turned;
  has_output = turned_output turn form samples turned before.0 now.0 h is;
  written = subst (λ s. HasWritten (bytes_of s) before.1 now.1) same all;
}

pub applied_fault : (turn : Turn) (form : RecordingForm) (samples turned written : List Sample) (before now : Outside) → HasReadRecordingAt (factor_of form.rate) form.samples samples before.0 now.0 →
    IsTurnedAt form.rate turn samples turned → written ≡ turned → HasWrittenFront (bytes_of written) before.1 now.1 → IsShortOf (length (bytes_of written)) before.1 →
    Rose before.1.faults now.1.faults → IsWriteFault (Apply turn form) before now
applied_fault turn form samples turned written before now h is same front full rose = record {
  output = bytes_of turned;
  has_output = turned_output turn form samples turned before.0 now.0 h is;
  front_written = subst (λ s. HasWrittenFront (bytes_of s) before.1 now.1) same front;
  counted = rose;
  full = subst (λ s. IsShortOf (length (bytes_of s)) before.1) same full;
}

-- a prefix as long as a recording may be is the recording
pub whole_at : (factor : ℕ) (form : SampleForm) (front : List Sample) (before now : SourceState) → HasReadFrontAt factor form (factor * most_samples) front before now →
    HasReadRecordingAt factor form front before now
whole_at factor form front before now f =
    let few = (count_is factor form f.recording before now f.read).1 in
    subst (λ (l : List Sample). HasReadRecordingAt factor form l before now) (sym (f.front_is ∙ take_all (factor * most_samples) f.recording few)) f.read
