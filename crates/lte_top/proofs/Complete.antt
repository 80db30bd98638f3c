-- From the condition of each answer to the answers that an input may get.
use Rattle.std.proofs.Common.{◌≡◌, ◌⊎◌, inl, inr, ℕ, ◌<◌, ◌≤◌, List, length, Some, arith, refl, ap, sym, subst, ◌∙◌, length-append}
use Rattle.std.specs.Prelude.{IfSome}
use Rattle.cs_outside.specs.Counts.{Rose}
use Rattle.cs_outside.specs.Outside.{SourceState, Outside}
use Rattle.cs_outside.proofs.Reading.{read_whole, read_front}
use Rattle.sample_file.specs.Recording.{samples_in}
use Rattle.lte_args.specs.declared.form.Program.{Program}
use Rattle.lte_args.specs.declared.form.Form.{Form}
use Rattle.lte_args.specs.declared.form.Form.TheVariants.{Report as Reports, Certify, Check, Transmit, Make, Apply, Print}
use Rattle.lte_top.specs.declared.status.Status.{Status}
use Rattle.lte_top.specs.declared.status.Status.TheVariants.{Done, Usage, Ragged, TooShort, TooLong, ReadFault, WriteFault, OutOfMemory, BadCell, BadCertificate}
use Rattle.certificates.specs.Stream.{IsBrokenAt}
use Rattle.lte_args.specs.Words.{IsWordsOf}
use Rattle.lte_top.specs.Signals.{signal_in}
use Rattle.lte_top.specs.Forms.{Input, nothing, recording, certificates, description, input_of, limit_of, Refuses, RefusesCertificates, RefusesDescription, IsTooLong, IsValid, IsOutput}
use Rattle.lte_top.specs.Run.{IsRead, HasReadInput, HasOutput, HasRefusal, IsReadTooLong, IsWriteFault, Ends, RunsForm, Outcome, IsAnswerTo, HasOneAnswer, MayAnswer, IsGiven, IsAnswered, IsComplete, HasRoom}
use Rattle.lte_types.specs.declared.carrier.Carrier.{Carrier}
use Rattle.cell_plan.specs.declared.error.CellError.{CellError}
use Rattle.cell_json.specs.Reading.{refusal_by}
use Rattle.lte_top.proofs.Transmitted.{one_transmitted_length}
use Rattle.certificates.proofs.Rest.{one_first_broken}
use Rattle.lte_top.proofs.Checked.{one_check, one_certified_length}
use Rattle.lte_top.proofs.Reported.{one_report, one_turned}
use Rattle.lte_top.proofs.Made.{one_made}
use Rattle.lte_args.proofs.OneForm.{one_form}

-- ---- outputs: a new form adds a line

-- all outputs for an input have one length
one_length : (form : Form) (bytes first second : List ℕ) → IsOutput form bytes first → IsOutput form bytes second → length first ≡ length second
one_length (Reports report output form) bytes first second a b = ap length (one_report report output (signal_in form bytes) first second a b)
one_length (Certify carrier form) bytes first second a b = one_certified_length carrier _ first second a b
one_length Check bytes first second a b = ap length (one_check bytes first second a b)
one_length (Transmit carrier load) bytes first second a b = one_transmitted_length carrier load bytes first second a b
one_length (Make carrier n) bytes first second a b = ap length (one_made carrier n first second a b)
one_length (Apply turn form) bytes first second a b = ap length (one_turned form.rate turn (samples_in form.samples bytes) first second a b)
one_length (Print program page) bytes first second a b = ap length (a ∙ sym b)

-- ---- inputs: a new one adds a line

-- a refusal of certificates has the first byte offset that breaks their format
first_place : (bytes : List ℕ) (status : Status) → RefusesCertificates bytes status → (place : ℕ) × (status ≡ BadCertificate place) × IsBrokenAt bytes place
first_place bytes (BadCertificate place) r = (place, refl, r)
first_place bytes Done r = absurd r
first_place bytes Usage r = absurd r
first_place bytes Ragged r = absurd r
first_place bytes TooShort r = absurd r
first_place bytes TooLong r = absurd r
first_place bytes ReadFault r = absurd r
first_place bytes WriteFault r = absurd r
first_place bytes OutOfMemory r = absurd r
first_place bytes (BadCell cause) r = absurd r

-- a refusal of a description has its first failed condition
first_condition : (carrier : Carrier) (bytes : List ℕ) (status : Status) → RefusesDescription carrier bytes status → (cause : CellError) × (status ≡ BadCell cause) × (refusal_by carrier bytes ≡ Some cause)
first_condition carrier bytes (BadCell cause) r = (cause, refl, r.1)
first_condition carrier bytes Done r = absurd r
first_condition carrier bytes Usage r = absurd r
first_condition carrier bytes Ragged r = absurd r
first_condition carrier bytes TooShort r = absurd r
first_condition carrier bytes TooLong r = absurd r
first_condition carrier bytes ReadFault r = absurd r
first_condition carrier bytes WriteFault r = absurd r
first_condition carrier bytes OutOfMemory r = absurd r
first_condition carrier bytes (BadCertificate place) r = absurd r

-- an input has at most one refusal
one_refusal : (input : Input) (bytes : List ℕ) (first second : Status) → Refuses input bytes first → Refuses input bytes second → first ≡ second
one_refusal nothing bytes first second a b = absurd a
one_refusal (recording form) bytes first second a b = cc (sym a.1 ∙ b.1)
one_refusal certificates bytes first second a b =
    let (p, e, broken) = first_place bytes first a in
    let (q, e', broken') = first_place bytes second b in
    e ∙ ap (λ place. BadCertificate place) (one_first_broken bytes p q broken.first broken'.first) ∙ sym e'
one_refusal (description carrier) bytes first second a b =
    let (c, e, failed) = first_condition carrier bytes first a in
    let (d, e', failed') = first_condition carrier bytes second b in
    let same : c ≡ d = cc (sym failed ∙ failed') in
    e ∙ ap (λ cause. BadCell cause) same ∙ sym e'

-- ---- the answer to an input

-- an answer is Done for a valid input, TooLong past the limit, or a refusal
kind_of : (input : Input) (bytes : List ℕ) (status : Status) → IsAnswerTo input bytes status →
    ((status ≡ Done) × IsValid input bytes) ⊎ ((status ≡ TooLong) × IsTooLong input bytes) ⊎ Refuses input bytes status
kind_of input bytes Done a = inl (refl, a)
kind_of input bytes TooLong a = inr (inl (refl, a))
kind_of input bytes Usage a = inr (inr a)
kind_of input bytes Ragged a = inr (inr a)
kind_of input bytes TooShort a = inr (inr a)
kind_of input bytes ReadFault a = inr (inr a)
kind_of input bytes WriteFault a = inr (inr a)
kind_of input bytes OutOfMemory a = inr (inr a)
kind_of input bytes (BadCell cause) a = inr (inr a)
kind_of input bytes (BadCertificate place) a = inr (inr a)

pub one_answer : HasOneAnswer
one_answer input bytes first second a b = elim (kind_of input bytes first a) [
  | inl (done, valid) ↦ elim (kind_of input bytes second b) [
    | inl (done', valid') ↦ done ∙ sym done'
    | inr (inl (long, past)) ↦ absurd (omega (arith, valid.within, past.past))
    | inr (inr refused) ↦ absurd (valid.unrefused second refused)
  ]
  | inr (inl (long, past)) ↦ elim (kind_of input bytes second b) [
    | inl (done, valid) ↦ absurd (omega (arith, valid.within, past.past))
    | inr (inl (long', past')) ↦ long ∙ sym long'
    | inr (inr refused) ↦ absurd (past.unrefused second refused)
  ]
  | inr (inr refused) ↦ elim (kind_of input bytes second b) [
    | inl (done, valid) ↦ absurd (valid.unrefused first refused)
    | inr (inl (long, past)) ↦ absurd (past.unrefused first refused)
    | inr (inr refused') ↦ one_refusal input bytes first second refused refused'
  ]
]

-- ---- the bytes read are the bytes that the source reported

-- the whole input equals the reported bytes
given_bytes : (input : Input) (bytes given : List ℕ) (before now : SourceState) → IsGiven input given before → HasReadInput input bytes before now → given ≡ bytes
given_bytes nothing bytes given before now e r = e ∙ sym r.0
given_bytes (recording form) bytes given before now e r = read_whole bytes given before now e r.read r.ended
given_bytes certificates bytes given before now e r = read_whole bytes given before now e r.read r.ended
given_bytes (description carrier) bytes given before now e r = read_whole bytes given before now e r.read r.ended

-- the whole input is within the limit
given_within : (input : Input) (bytes : List ℕ) (before now : SourceState) → HasReadInput input bytes before now → length bytes ≤ limit_of input
given_within nothing bytes before now r = omega (arith, ap length r.0)
given_within (recording form) bytes before now r = r.within
given_within certificates bytes before now r = r.within
given_within (description carrier) bytes before now r = r.within

-- for a form with input, the source reports the remaining bytes
given_left : (input : Input) (given : List ℕ) (before : SourceState) → IsRead input → IsGiven input given before → before.left ≡ Some given
given_left nothing given before r e = absurd r
given_left (recording form) given before r e = e
given_left certificates given before r e = e
given_left (description carrier) given before r e = e

-- only an input that is read can be refused
refused_read : (input : Input) (bytes : List ℕ) (status : Status) → Refuses input bytes status → IsRead input
refused_read nothing bytes status r = r
refused_read (recording form) bytes status r = tt
refused_read certificates bytes status r = tt
refused_read (description carrier) bytes status r = tt

output_is_valid : (form : Form) (given output : List ℕ) (before now : SourceState) → IsGiven (input_of form) given before → HasOutput form output before now → IsValid (input_of form) given
output_is_valid form given output before now e h =
    subst (IsValid (input_of form)) (sym (given_bytes (input_of form) h.bytes given before now e h.whole))
    (record { within = given_within (input_of form) h.bytes before now h.whole; unrefused = h.unrefused })

refusal_is_answer : (input : Input) (given : List ℕ) (refusal : Status) (before now : SourceState) → IsGiven input given before → HasRefusal input refusal before now → Refuses input given refusal
refusal_is_answer input given refusal before now e h =
    let left = given_left input given before (refused_read input h.bytes refusal h.refused) e in
    let (rest, split, last) = read_front h.bytes given before now left h.read in
    elim h.settled [
      | inl ended ↦ subst (λ bytes. Refuses input bytes refusal) (sym (read_whole h.bytes given before now left h.read ended)) h.refused
      | inr always ↦ subst (λ bytes. Refuses input bytes refusal) (sym split) (always rest)
    ]

past_is_too_long : (input : Input) (given : List ℕ) (before now : SourceState) → IsGiven input given before → IsReadTooLong input before now → IsTooLong input given
past_is_too_long input given before now e h =
    let (rest, split, last) = read_front h.front given before now (given_left input given before h.is_read e) h.read in
    let size = length-append h.front rest in
    record {
      past = omega (arith, ap length split, size, h.past);
      unrefused = λ status r. h.unrefused rest status (subst (λ bytes. Refuses input bytes status) split r);
    }

-- ---- the answer

form_answers : (form : Form) (given : List ℕ) (before now : Outside) → IsGiven (input_of form) given before.0 → (status : Status) → Ends form before now status →
    MayAnswer (input_of form) given before now status
form_answers form given before now e Done o = output_is_valid form given o.output before.0 now.0 e o.has_output
form_answers form given before now e WriteFault o = (output_is_valid form given o.output before.0 now.0 e o.has_output, o.counted)
form_answers form given before now e Usage o = absurd o.cause
form_answers form given before now e ReadFault o = o.cause.failed.failed
form_answers form given before now e OutOfMemory o = tt
form_answers form given before now e TooLong o = past_is_too_long (input_of form) given before.0 now.0 e o.cause
form_answers form given before now e Ragged o = refusal_is_answer (input_of form) given Ragged before.0 now.0 e o.cause
form_answers form given before now e TooShort o = refusal_is_answer (input_of form) given TooShort before.0 now.0 e o.cause
form_answers form given before now e (BadCell cause) o = refusal_is_answer (input_of form) given (BadCell cause) before.0 now.0 e o.cause
form_answers form given before now e (BadCertificate place) o = refusal_is_answer (input_of form) given (BadCertificate place) before.0 now.0 e o.cause

-- a run with these arguments is a run of their form
ends_of : (program : Program) (form : Form) (words : List (List ℕ)) (before now : Outside) → IsWordsOf program words form → (status : Status) → Outcome program words before now status → Ends form before now status
ends_of program form words before now is_of status o = by_status status o
  where
    same : (status : Status) (r : RunsForm program words before now status) → Ends form before now status
    same status r = subst (λ f. Ends f before now status) (one_form program words r.form form r.is_of is_of) r.ends

    by_status : (status : Status) → Outcome program words before now status → Ends form before now status
    by_status Usage o = absurd (o.no_form form is_of)
    by_status Done o = same Done o
    by_status Ragged o = same Ragged o
    by_status TooShort o = same TooShort o
    by_status TooLong o = same TooLong o
    by_status ReadFault o = same ReadFault o
    by_status WriteFault o = same WriteFault o
    by_status OutOfMemory o = same OutOfMemory o
    by_status (BadCell e) o = same (BadCell e) o
    by_status (BadCertificate place) o = same (BadCertificate place) o

pub answered : (program : Program) (words : List (List ℕ)) (before now : Outside) (status : Status) → Outcome program words before now status → IsAnswered program words before now status
answered program words before now status o form bytes asked = form_answers form bytes before now asked.given status (ends_of program form words before now asked.is_of status o)

-- ---- completeness

done_or_no_memory : (input : Input) (given : List ℕ) (before now : Outside) (status : Status) → MayAnswer input given before now status → IsValid input given →
    ¬ Rose before.0.faults now.0.faults → ¬ Rose before.1.faults now.1.faults → (status ≡ Done) ⊎ (status ≡ OutOfMemory)
done_or_no_memory input given before now Done m valid r w = inl refl
done_or_no_memory input given before now OutOfMemory m valid r w = inr refl
done_or_no_memory input given before now ReadFault m valid r w = absurd (r m)
done_or_no_memory input given before now WriteFault m valid r w = absurd (w m.1)
done_or_no_memory input given before now Usage m valid r w = absurd (valid.unrefused Usage m)
done_or_no_memory input given before now Ragged m valid r w = absurd (valid.unrefused Ragged m)
done_or_no_memory input given before now TooShort m valid r w = absurd (valid.unrefused TooShort m)
done_or_no_memory input given before now TooLong m valid r w = absurd (omega (arith, m.past, valid.within))
done_or_no_memory input given before now (BadCell e) m valid r w = absurd (valid.unrefused (BadCell e) m)
done_or_no_memory input given before now (BadCertificate place) m valid r w = absurd (valid.unrefused (BadCertificate place) m)

pub complete : (program : Program) (words : List (List ℕ)) (before now : Outside) (status : Status) → Outcome program words before now status → IsComplete program words before now status
complete program words before now status o form bytes asked =
    done_or_no_memory (input_of form) bytes before now status (answered program words before now status o form bytes asked)

-- ---- room

no_room : (form : Form) (given output : List ℕ) (room : ℕ) (before now : Outside) → IsGiven (input_of form) given before.0 → before.1.room ≡ Some room →
    IsOutput form given output → length output ≤ room → IsWriteFault form before now → ⊥
no_room form given output room before now e has_room is_output fits o =
    let h = o.has_output in
    let whole = given_bytes (input_of form) h.bytes given before.0 now.0 e h.whole in
    let long = one_length form given output o.output is_output (subst (λ bytes. IsOutput form bytes o.output) (sym whole) h.is_output) in
    let full : room < length o.output = subst (λ r. IfSome r (λ n. n < length o.output)) has_room o.full in
    omega (arith, long, full, fits)

pub has_room : (program : Program) (words : List (List ℕ)) (before now : Outside) (status : Status) → Outcome program words before now status → HasRoom program words before status
has_room program words before now status o form bytes output room asked given is_output fits fault =
    no_room form bytes output room before now asked.given given is_output fits
    (ends_of program form words before now asked.is_of WriteFault (subst (Outcome program words before now) fault o))
