-- Certificates that are checked, and certificates that are written.
use Rattle.std.proofs.Common.{◌≡◌, ℕ, ◌+◌, ◌≤◌, inl, inr, Bool, List, ◌++◌, length, ap, sym, subst, ◌∙◌, arith, length-append}
use Rattle.std.specs.List.{AllZip}
use Rattle.cs_num.specs.declared.Sample.{Sample}
use Rattle.cs_outside.specs.Outside.{SourceState}
use Rattle.certificates.specs.Stream.{most_bytes, IsFirstBroken}
use Rattle.certificates.specs.Certifying.{Certifies}
use Rattle.certificates.specs.Reading.{HasReadAnswers, IsCause}
use Rattle.certificates.specs.declared.error.StreamError.{StreamError}
use Rattle.certificates.specs.declared.error.StreamError.TheVariants.{Broken, TooLong as PastBytes, ReadFault as Stopped, OutOfMemory as Refused}
use Rattle.certificates.proofs.Certified.{certified_length}
use Rattle.certificates.proofs.Judged.{all_whole, one_answers}
use Rattle.certificates.proofs.Rest.{none_broken}
use Rattle.lte_types.specs.declared.carrier.Carrier.{Carrier}
use Rattle.report_text.specs.Answers.{check_text}
use Rattle.lte_args.specs.declared.form.Form.TheVariants.{Check}
use Rattle.lte_top.specs.declared.status.Status.{Status}
use Rattle.lte_top.specs.declared.status.Status.TheVariants.{Done, Usage, Ragged, TooShort, TooLong, ReadFault, WriteFault, OutOfMemory, BadCell, BadCertificate}
use Rattle.lte_top.specs.Certificates.{IsChecked, IsCertified}
use Rattle.lte_top.specs.Errors.{of_stream}
use Rattle.lte_top.specs.Forms.{certificates, RefusesCertificates}
use Rattle.evidence.specs.Receivers.{receiver_of}
use Rattle.lte_top.proofs.OneList.{one_list}
use Rattle.lte_top.specs.Run.{Cause, HasOutput}

-- an input has one output
pub one_check : (input first second : List ℕ) → IsChecked input first → IsChecked input second → first ≡ second
one_check input first second a b = a.text ∙ ap check_text (one_answers input a.answers b.answers a.are_answers b.are_answers) ∙ sym b.text

-- a recording's certificates have one total length
pub one_certified_length : (carrier : Carrier) (samples : List Sample) (first second : List ℕ) → IsCertified carrier samples first → IsCertified carrier samples second → length first ≡ length second
one_certified_length carrier samples first second a b =
    let same = one_list carrier samples a.entries b.entries a.is_list b.is_list in
    ap length a.bytes ∙ certified_length (receiver_of carrier) samples b.entries a.certificates b.certificates (subst (λ l. AllZip (Certifies (receiver_of carrier) samples) l a.certificates) same a.each) b.each ∙ sym (ap length b.bytes)

-- certificates that were answered are not refused
answered_unrefused : (answers : List Bool) (before now : SourceState) (h : HasReadAnswers answers before now) (status : Status) → RefusesCertificates h.bytes status → ⊥
answered_unrefused answers before now h (BadCertificate place) r =
    none_broken h.are_answers.certificates (all_whole h.are_answers.certificates answers h.are_answers.each) place (subst (λ l. IsFirstBroken l place) h.are_answers.read r.first)
answered_unrefused answers before now h Done r = r
answered_unrefused answers before now h Usage r = r
answered_unrefused answers before now h Ragged r = r
answered_unrefused answers before now h TooShort r = r
answered_unrefused answers before now h TooLong r = r
answered_unrefused answers before now h ReadFault r = r
answered_unrefused answers before now h WriteFault r = r
answered_unrefused answers before now h OutOfMemory r = r
answered_unrefused answers before now h (BadCell cause) r = r

-- the text of the answers is the output
pub output_of_answers : (answers : List Bool) (output : List ℕ) (before now : SourceState) → HasReadAnswers answers before now → output ≡ check_text answers → HasOutput Check output before now
output_of_answers answers output before now h e = record {
  bytes = h.bytes;
  whole = h.whole;
  unrefused = answered_unrefused answers before now h;
  is_output = record { answers = answers; are_answers = h.are_answers; text = e };
}

-- ---- why certificates were not answered

-- an input past the limit is not refused if no byte within the limit breaks the format
past_unrefused : (front rest : List ℕ) → length front ≡ most_bytes + 1 → ((place : ℕ) → IsFirstBroken (front ++ rest) place → most_bytes ≤ place) → (status : Status) →
    RefusesCertificates (front ++ rest) status → ⊥
past_unrefused front rest past unbroken (BadCertificate place) r =
    let least = unbroken place r.first in
    elim r.within [
      | inl below ↦ omega (arith, least, below)
      | inr short ↦ omega (arith, past, short, length-append front rest)
    ]
past_unrefused front rest past unbroken Done r = r
past_unrefused front rest past unbroken Usage r = r
past_unrefused front rest past unbroken Ragged r = r
past_unrefused front rest past unbroken TooShort r = r
past_unrefused front rest past unbroken TooLong r = r
past_unrefused front rest past unbroken ReadFault r = r
past_unrefused front rest past unbroken WriteFault r = r
past_unrefused front rest past unbroken OutOfMemory r = r
past_unrefused front rest past unbroken (BadCell cause) r = r

-- the cause of an error is the cause of its status
pub stream_cause : (error : StreamError) (before now : SourceState) → IsCause before now error → Cause certificates before now (of_stream error)
stream_cause (Broken place) before now h = record { bytes = h.bytes; read = h.read; few = h.few; refused = h.broken; settled = h.settled }
stream_cause PastBytes before now h = record {
  is_read = tt;
  front = h.front;
  read = h.read;
  past = h.past;
  unrefused = λ rest status r. past_unrefused h.front rest h.past (h.unbroken rest) status r;
}
stream_cause Stopped before now h = record { is_read = tt; front = h.front; failed = h.failed; unmet = h.unbroken }
stream_cause Refused before now h = tt
