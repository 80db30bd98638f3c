-- The input of a command form, the inputs that it refuses, and its output. (own)
use Rattle.std.specs.Prelude.{◌≡◌, ℕ, ◌%◌, ◌<◌, ◌≤◌, Option, Some, None, List, length, nat_lt, not, ◌==◌, if◌then◌else◌}
use Rattle.sample_file.specs.Recording.{width, samples_in}
use Rattle.sample_file.specs.Reading.{least_bytes_at, most_bytes_at}
use Rattle.lte_types.specs.declared.carrier.Carrier.{Carrier}
use Rattle.lte_args.specs.declared.form.RecordingForm.{RecordingForm}
use Rattle.lte_args.specs.declared.form.Form.{Form}
use Rattle.lte_args.specs.declared.form.Form.TheVariants.{Report as Reports, Certify, Check, Transmit, Make}
use Rattle.lte_args.specs.declared.form.Form.TheVariants.{Apply, Print}
use Rattle.lte_top.specs.declared.status.Status.{Status}
use Rattle.lte_top.specs.declared.status.Status.TheVariants.{Ragged, TooShort, BadCell, BadCertificate}
use Rattle.cell_json.specs.Reading.{refusal_by}
use Rattle.lte_top.specs.Signals.{factor_of, signal_in}
use Rattle.lte_top.specs.Transmitting.{most_description_bytes, IsTransmitted}
use Rattle.lte_top.specs.Certificates.{IsChecked, IsCertified}
use Rattle.certificates.specs.Stream.{most_bytes as most_certificate_bytes, IsBrokenAt}
use Rattle.lte_top.specs.Reports.{IsReport}
use Rattle.lte_top.specs.Making.{IsMadeText}
use Rattle.lte_top.specs.Tuning.{IsTurnedAsBytes}
use Rattle.lte_top.specs.Pages.{page_text}

-- ---- inputs

-- the input of a command form: nothing, a recording in a sample format and at a rate, a sequence of certificates, or a
-- cell description under a transmission scheme
pub data Input : Type 0 where
  nothing : Input
  recording : RecordingForm → Input
  certificates : Input
  description : Carrier → Input

abbrev pub input_of : Form → Input
input_of (Reports report output form) = recording form
input_of (Certify carrier form) = recording form
input_of Check = certificates
input_of (Transmit carrier load) = description carrier
input_of (Make carrier n) = nothing
input_of (Apply turn form) = recording form
input_of (Print program page) = nothing

-- the maximum length of an input in bytes
abbrev pub limit_of : Input → ℕ
limit_of nothing = 0
limit_of (recording form) = most_bytes_at (factor_of form.rate) form.samples
limit_of certificates = most_certificate_bytes
limit_of (description carrier) = most_description_bytes

-- the refusal of a recording with content `bytes`, if any: `Ragged` if the last sample is incomplete, otherwise
-- `TooShort` if there are fewer samples than in 30 ms, which are 57,600 at 1.92 million per second
abbrev pub recording_refusal : RecordingForm → List ℕ → Option Status
recording_refusal form bytes =
    if not (length bytes % width form.samples == 0) then Some Ragged
    else if nat_lt (length bytes) (least_bytes_at (factor_of form.rate) form.samples) then Some TooShort
    else None

-- `bytes` is within the limit of a recording, and is refused with `status`
abbrev pub RefusesRecording : RecordingForm → List ℕ → Status → Type 0
RefusesRecording form bytes status =
    (length bytes ≤ most_bytes_at (factor_of form.rate) form.samples) × (recording_refusal form bytes ≡ Some status)

-- certificates are refused at the first byte that breaks their format, if that byte is within the limit, or at the end
-- of an input within the limit that ends inside a certificate
abbrev pub RefusesCertificates : List ℕ → Status → Type 0
RefusesCertificates bytes (BadCertificate place) = IsBrokenAt bytes place
RefusesCertificates bytes status = ⊥

-- a description within the limit is refused for its first failed condition
abbrev pub RefusesDescription : Carrier → List ℕ → Status → Type 0
RefusesDescription carrier bytes (BadCell cause) =
    (length bytes ≤ most_description_bytes) × (refusal_by carrier bytes ≡ Some cause)
RefusesDescription carrier bytes status = ⊥

-- an input with content `bytes` is refused with `status`
abbrev pub Refuses : Input → List ℕ → Status → Type 0
Refuses nothing bytes status = ⊥
Refuses (recording form) bytes status = RefusesRecording form bytes status
Refuses certificates bytes status = RefusesCertificates bytes status
Refuses (description carrier) bytes status = RefusesDescription carrier bytes status

-- `bytes` is longer than the limit of `input`, and is not refused
pub record IsTooLong (input : Input) (bytes : List ℕ) : Type 0 where
  pub past : limit_of input < length bytes
  pub unrefused : (status : Status) → Refuses input bytes status → ⊥

-- `bytes` is within the limit of `input`, and is not refused
pub record IsValid (input : Input) (bytes : List ℕ) : Type 0 where
  pub within : length bytes ≤ limit_of input
  pub unrefused : (status : Status) → Refuses input bytes status → ⊥

-- ---- outputs

-- `written` is the output of a command form for the valid input `bytes`
abbrev pub IsOutput : Form → List ℕ → List ℕ → Type 0
IsOutput (Reports report output form) bytes written = IsReport report output (signal_in form bytes) written
IsOutput (Certify carrier form) bytes written = IsCertified carrier (signal_in form bytes).narrow written
IsOutput Check bytes written = IsChecked bytes written
IsOutput (Transmit carrier load) bytes written = IsTransmitted carrier load bytes written
IsOutput (Make carrier n) bytes written = IsMadeText carrier n written
IsOutput (Apply turn form) bytes written =
    IsTurnedAsBytes form.rate turn (samples_in form.samples bytes) written
IsOutput (Print program page) bytes written = written ≡ page_text program page
