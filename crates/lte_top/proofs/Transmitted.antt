-- The bytes of an emission.
use Rattle.std.proofs.Common.{◌≡◌, ℕ, ◌*◌, Option, List, [], ◌∷◌, length, pos, refl, ap, sym, subst, ◌∙◌, arith, length-append}
use Rattle.finite.proofs.Lists.{values_below-length}
use Rattle.cs_num.specs.declared.Sample.{Sample}
use Rattle.cs_num.specs.Complex.{sample_of}
use Rattle.cs_outside.specs.Counts.{Rose}
use Rattle.cs_outside.specs.Outside.{SourceState, Outside}
use Rattle.cs_outside.specs.Streams.{HasWritten, HasWrittenFront, IsShortOf}
use Rattle.sample_file.specs.Recording.{sample_bytes, bytes_of}
use Rattle.lte_types.specs.declared.carrier.Carrier.{Carrier}
use Rattle.cell_plan.specs.declared.emission.Emission.{Emission}
use Rattle.cell_tx.specs.Emission.{received_by}
use Rattle.std.specs.Prelude.{codes}
use Rattle.cell_json.specs.Description.{number_at}
use Rattle.cell_json.specs.Reading.{DescribesBy}
use Rattle.lte_args.specs.declared.form.Form.TheVariants.{Transmit}
use Rattle.lte_top.specs.declared.status.Status.{Status}
use Rattle.lte_top.specs.declared.status.Status.TheVariants.{Done, Usage, Ragged, TooShort, TooLong, ReadFault, WriteFault, OutOfMemory, BadCell, BadCertificate}
use Rattle.lte_top.specs.Forms.{RefusesDescription}
use Rattle.lte_top.specs.Run.{HasOutput, IsDone, IsWriteFault}
use Rattle.lte_top.specs.Transmitting.{sent_samples, IsTransmitted, HasDescription}

-- four bytes per sample
bytes_length : (samples : List Sample) → length (bytes_of samples) ≡ 4 * length samples
bytes_length [] = refl
bytes_length (s ∷ samples) =
    let more = bytes_length samples in
    let all = length-append (sample_bytes s) (bytes_of samples) in
    let four : length (sample_bytes s) ≡ 4 = refl in
    omega (arith, more, all, four)

sent_length : (load : Option ℕ) (e : Emission) → length (sent_samples load e) ≡ e.samples
unfolding sent_samples
sent_length load e = values_below-length e.samples (λ i. sample_of (received_by e.carrier load e.cell e.timing.sfn e.timing.offset e.gains i))

-- all emissions that an input describes have the same number of samples
same_count : (carrier : Carrier) (bytes : List ℕ) (s t : Emission) → DescribesBy carrier bytes s → DescribesBy carrier bytes t → s.samples ≡ t.samples
same_count carrier bytes s t a b =
    let value : a.value ≡ b.value = cc (sym a.json ∙ b.json) in
    let there : pos s.samples ≡ pos t.samples = subst (λ v. pos s.samples ≡ number_at (codes "samples") v) value a.is.values.samples ∙ sym b.is.values.samples in
    cc there

pub one_transmitted_length : (carrier : Carrier) (load : Option ℕ) (bytes first second : List ℕ) → IsTransmitted carrier load bytes first → IsTransmitted carrier load bytes second → length first ≡ length second
one_transmitted_length carrier load bytes first second a b =
    let p = bytes_length (sent_samples load a.emission) in
    let q = bytes_length (sent_samples load b.emission) in
    let same = same_count carrier bytes a.emission b.emission a.describes b.describes in
    let m = sent_length load a.emission in
    let n = sent_length load b.emission in
    omega (arith, ap length a.sent, ap length b.sent, p, q, same, m, n)

-- a description of an emission is not refused
unrefused : (carrier : Carrier) (bytes : List ℕ) (e : Emission) → DescribesBy carrier bytes e → (status : Status) → RefusesDescription carrier bytes status → ⊥
unrefused carrier bytes e d (BadCell cause) (within, failed) = cc (sym d.valid ∙ failed)
unrefused carrier bytes e d Done r = r
unrefused carrier bytes e d Usage r = r
unrefused carrier bytes e d Ragged r = r
unrefused carrier bytes e d TooShort r = r
unrefused carrier bytes e d TooLong r = r
unrefused carrier bytes e d ReadFault r = r
unrefused carrier bytes e d WriteFault r = r
unrefused carrier bytes e d OutOfMemory r = r
unrefused carrier bytes e d (BadCertificate place) r = r

transmitted_output : (carrier : Carrier) (load : Option ℕ) (e : Emission) (output : List ℕ) (before now : SourceState) → HasDescription carrier e before now →
    output ≡ bytes_of (sent_samples load e) → HasOutput (Transmit carrier load) output before now
transmitted_output carrier load e output before now h is = record {
  bytes = h.bytes;
  whole = h.whole;
  unrefused = unrefused carrier h.bytes e h.describes;
  is_output = record { emission = e; describes = h.describes; sent = is };
}

-- if all samples are written, the run is Done
pub transmitted_done : (carrier : Carrier) (load : Option ℕ) (e : Emission) (samples : List Sample) (before now : Outside) → HasDescription carrier e before.0 now.0 →
    samples ≡ sent_samples load e → HasWritten (bytes_of samples) before.1 now.1 → IsDone (Transmit carrier load) before now
transmitted_done carrier load e samples before now h is written = record {
  output = bytes_of samples;
  has_output = transmitted_output carrier load e (bytes_of samples) before.0 now.0 h (ap bytes_of is);
  written = written;
}

-- if a prefix is written, the run ends with WriteFault
pub transmitted_fault : (carrier : Carrier) (load : Option ℕ) (e : Emission) (samples : List Sample) (before now : Outside) → HasDescription carrier e before.0 now.0 →
    samples ≡ sent_samples load e → HasWrittenFront (bytes_of samples) before.1 now.1 → Rose before.1.faults now.1.faults → IsShortOf (length (bytes_of samples)) before.1 →
    IsWriteFault (Transmit carrier load) before now
transmitted_fault carrier load e samples before now h is front rose full = record {
  output = bytes_of samples;
  has_output = transmitted_output carrier load e (bytes_of samples) before.0 now.0 h (ap bytes_of is);
  front_written = front;
  counted = rose;
  full = full;
}
