-- A run: the condition for each answer, and the answer to each input. (own) A moment (`Outside`) is a pair of states:
-- the source's, then the sink's.
use Rattle.std.specs.Prelude.{◌≡◌, ◌≢◌, ◌⊎◌, ℕ, ◌+◌, ◌≤◌, ◌++◌, Some, List, [], length}
use Rattle.cs_outside.specs.Counts.{Rose}
use Rattle.cs_outside.specs.Outside.{SourceState, Outside, NothingRead, NothingWritten}
use Rattle.cs_outside.specs.Streams.{HasRead, HasReadAll, HasFailedAfter, IsAtEnd, HasWritten}
use Rattle.cs_outside.specs.Streams.{HasWrittenFront, IsShortOf}
use Rattle.lte_args.specs.declared.form.Program.{Program}
use Rattle.lte_args.specs.declared.form.Form.{Form}
use Rattle.lte_top.specs.declared.status.Status.{Status}
use Rattle.lte_top.specs.declared.status.Status.TheVariants.{Done, Usage, TooLong, ReadFault, WriteFault, OutOfMemory}
use Rattle.certificates.specs.Stream.{IsUnbroken}
use Rattle.lte_args.specs.Words.{IsWordsOf, IsNoForm}
use Rattle.lte_top.specs.Forms.{Input, nothing, recording, certificates, description, input_of}
use Rattle.lte_top.specs.Forms.{limit_of, Refuses, IsTooLong, IsValid, IsOutput}

-- ---- reading: the source's state before the run and now

-- every form reads the source, except a form whose input is `nothing`
abbrev pub IsRead : Input → Type 0
IsRead nothing = ⊥
IsRead (recording form) = Unit {0}
IsRead certificates = Unit {0}
IsRead (description carrier) = Unit {0}

-- `bytes` is the complete input, read to its end; a form without input reads nothing
abbrev pub HasReadInput : Input → List ℕ → SourceState → SourceState → Type 0
HasReadInput nothing bytes before now = (bytes ≡ []) × NothingRead before now
HasReadInput (recording form) bytes before now = HasReadAll (limit_of (recording form)) bytes before now
HasReadInput certificates bytes before now = HasReadAll (limit_of certificates) bytes before now
HasReadInput (description carrier) bytes before now = HasReadAll (limit_of (description carrier)) bytes before now

-- a valid input was read to its end, and `output` is the form's output for that input
pub record HasOutput (form : Form) (output : List ℕ) (before now : SourceState) : Type 0 where
  pub bytes : List ℕ
  pub whole : HasReadInput (input_of form) bytes before now
  pub unrefused : (status : Status) → Refuses (input_of form) bytes status → ⊥
  pub is_output : IsOutput form bytes output

-- the bytes read, at most `limit_of input` + 1, are refused with `status`. Either the input ended there, or every
-- continuation of these bytes is refused with `status` too.
pub record HasRefusal (input : Input) (status : Status) (before now : SourceState) : Type 0 where
  pub bytes : List ℕ
  pub read : HasRead bytes before now
  pub few : length bytes ≤ limit_of input + 1
  pub refused : Refuses input bytes status
  pub settled : IsAtEnd now ⊎ ((rest : List ℕ) → Refuses input (bytes ++ rest) status)

-- `limit_of input` + 1 bytes were read, and no continuation of these bytes is refused
pub record IsReadTooLong (input : Input) (before now : SourceState) : Type 0 where
  pub is_read : IsRead input
  pub front : List ℕ
  pub read : HasRead front before now
  pub past : length front ≡ limit_of input + 1
  pub unrefused : (rest : List ℕ) (status : Status) → Refuses input (front ++ rest) status → ⊥

-- nothing in `bytes` is refused yet: certificates are judged byte by byte, other inputs at their end
abbrev pub NothingMet : Input → List ℕ → Type 0
NothingMet nothing bytes = Unit {0}
NothingMet (recording form) bytes = Unit {0}
NothingMet certificates bytes = IsUnbroken bytes
NothingMet (description carrier) bytes = Unit {0}

-- a read failed after at most `limit_of input` bytes, and none of these bytes was refused
pub record IsReadFault (input : Input) (before now : SourceState) : Type 0 where
  pub is_read : IsRead input
  pub front : List ℕ
  pub failed : HasFailedAfter (limit_of input) front before now
  pub unmet : NothingMet input front

-- a form without input left the source untouched; for other forms nothing is stated
abbrev pub IsLeft : Input → SourceState → SourceState → Type 0
IsLeft nothing before now = NothingRead before now
IsLeft (recording form) before now = Unit {0}
IsLeft certificates before now = Unit {0}
IsLeft (description carrier) before now = Unit {0}

-- the cause of a status other than `Done`, `Usage` and `WriteFault`, from the source's state before and now
abbrev pub Cause : Input → SourceState → SourceState → Status → Type 0
Cause input before now Done = ⊥
Cause input before now Usage = ⊥
Cause input before now WriteFault = ⊥
Cause input before now OutOfMemory = IsLeft input before now
Cause input before now ReadFault = IsReadFault input before now
Cause input before now TooLong = IsReadTooLong input before now
Cause input before now refusal = HasRefusal input refusal before now

-- ---- the condition of each answer

-- `Done`: a valid input was read to its end, the complete output was written, and no call failed
pub record IsDone (form : Form) (before now : Outside) : Type 0 where
  pub output : List ℕ
  pub has_output : HasOutput form output before.0 now.0
  pub written : HasWritten output before.1 now.1

-- `WriteFault`: a valid input was read to its end, a prefix of the output was written, and the sink counted a fault; if
-- the sink reported its room, the room was too small for the complete output
pub record IsWriteFault (form : Form) (before now : Outside) : Type 0 where
  pub output : List ℕ
  pub has_output : HasOutput form output before.0 now.0
  pub front_written : HasWrittenFront output before.1 now.1
  pub counted : Rose before.1.faults now.1.faults
  pub full : IsShortOf (length output) before.1

-- any other status of a form's run: the status has its cause, and nothing was written
pub record IsRefused (form : Form) (status : Status) (before now : Outside) : Type 0 where
  pub cause : Cause (input_of form) before.0 now.0 status
  pub unwritten : NothingWritten before.1 now.1

-- how a form's run ends
abbrev pub Ends : Form → Outside → Outside → Status → Type 0
Ends form before now Done = IsDone form before now
Ends form before now WriteFault = IsWriteFault form before now
Ends form before now status = IsRefused form status before now

-- `words` selects a form of `program`, whose run ended with `status`
pub record RunsForm (program : Program) (words : List (List ℕ)) (before now : Outside) (status : Status) : Type 0 where
  pub form : Form
  pub is_of : IsWordsOf program words form
  pub ends : Ends form before now status

-- `Usage`: `words` selects no form of `program`, and nothing was read or written
pub record IsUsage (program : Program) (words : List (List ℕ)) (before now : Outside) : Type 0 where
  pub no_form : IsNoForm program words
  pub unread : NothingRead before.0 now.0
  pub unwritten : NothingWritten before.1 now.1

-- how a program's run ends: with `Usage` if the arguments select no form, otherwise as the selected form's run
abbrev pub Outcome : Program → List (List ℕ) → Outside → Outside → Status → Type 0
Outcome program words before now Usage = IsUsage program words before now
Outcome program words before now status = RunsForm program words before now status

-- ---- the answer that an input has

-- the answer to an input if no allocation, read or write fails: `Done` if the input is valid, `TooLong` if it is longer
-- than the limit and not refused, otherwise the input's refusal
abbrev pub IsAnswerTo : Input → List ℕ → Status → Type 0
IsAnswerTo input bytes Done = IsValid input bytes
IsAnswerTo input bytes TooLong = IsTooLong input bytes
IsAnswerTo input bytes status = Refuses input bytes status

-- a law: an input has at most one answer
abbrev pub HasOneAnswer : Type 0
HasOneAnswer = (input : Input) (bytes : List ℕ) (first second : Status) → IsAnswerTo input bytes first →
    IsAnswerTo input bytes second → first ≡ second

-- the answers that a run may give to an input: `OutOfMemory`, a fault that the source or the sink counted, or the
-- input's own answer
abbrev pub MayAnswer : Input → List ℕ → Outside → Outside → Status → Type 0
MayAnswer input bytes before now OutOfMemory = Unit {0}
MayAnswer input bytes before now ReadFault = Rose before.0.faults now.0.faults
MayAnswer input bytes before now WriteFault = IsValid input bytes × Rose before.1.faults now.1.faults
MayAnswer input bytes before now status = IsAnswerTo input bytes status

-- the source reports `bytes` as its remaining bytes; for a form without input `bytes` is empty
abbrev pub IsGiven : Input → List ℕ → SourceState → Type 0
IsGiven nothing bytes before = bytes ≡ []
IsGiven (recording form) bytes before = before.left ≡ Some bytes
IsGiven certificates bytes before = before.left ≡ Some bytes
IsGiven (description carrier) bytes before = before.left ≡ Some bytes

-- `words` selects `form` of `program`, and the source reports that `bytes` is the form's input
pub record IsAsked (program : Program) (words : List (List ℕ)) (before : Outside) (form : Form) (bytes : List ℕ) :
    Type 0 where
  pub is_of : IsWordsOf program words form
  pub given : IsGiven (input_of form) bytes before.0

-- `status` is an answer that the run may give to its input, if the source reports the input's bytes
abbrev pub IsAnswered : Program → List (List ℕ) → Outside → Outside → Status → Type 0
IsAnswered program words before now status = (form : Form) (bytes : List ℕ) →
    IsAsked program words before form bytes → MayAnswer (input_of form) bytes before now status

-- a valid input is answered with `Done` or `OutOfMemory` if neither the source nor the sink counted a fault
abbrev pub IsComplete : Program → List (List ℕ) → Outside → Outside → Status → Type 0
IsComplete program words before now status =
    (form : Form) (bytes : List ℕ) → IsAsked program words before form bytes → IsValid (input_of form) bytes →
    ¬ Rose before.0.faults now.0.faults → ¬ Rose before.1.faults now.1.faults → (status ≡ Done) ⊎ (status ≡ OutOfMemory)

-- if the sink reports room for the complete output, the answer is not `WriteFault`
abbrev pub HasRoom : Program → List (List ℕ) → Outside → Status → Type 0
HasRoom program words before status =
    (form : Form) (bytes output : List ℕ) (room : ℕ) → IsAsked program words before form bytes →
    before.1.room ≡ Some room → IsOutput form bytes output → length output ≤ room → status ≢ WriteFault

-- a run of `program` with the arguments `words`, from moment `before` to moment `now`, ended with `status`
pub record Runs (program : Program) (words : List (List ℕ)) (before now : Outside) (status : Status) : Type 0 where
  pub outcome : Outcome program words before now status
  pub answered : IsAnswered program words before now status
  pub complete : IsComplete program words before now status
  pub has_room : HasRoom program words before status
  pub read_faults_stay : before.0.faults ≤ now.0.faults
  pub write_faults_stay : before.1.faults ≤ now.1.faults
