-- How a process ends: the answer to its arguments, its exit code, and its line on standard error. (own)
use Rattle.std.specs.Prelude.{◌≡◌, ◌⊎◌, ℕ, List, ◌++◌, codes, drop, Option, Some, None, Result, Ok, Err}
use Rattle.std.specs.Process.{exit_status}
use Rattle.std.specs.declared.process.ExitCode.{ExitCode}
use Rattle.std.specs.declared.io.ErrorKind.{ErrorKind}
use Rattle.std.specs.declared.io.ErrorKind.TheVariants.{OutOfMemory as NoMemory}
use Rattle.cs_outside.specs.Outside.{Outside}
use Rattle.lte_args.specs.declared.form.Program.{Program}
use Rattle.lte_args.specs.Words.{name_of}
use Rattle.lte_top.specs.declared.status.Status.{Status}
use Rattle.lte_top.specs.declared.status.Status.TheVariants.{Done, OutOfMemory, Usage}
use Rattle.lte_top.specs.Answers.{code_of, text_of}
use Rattle.lte_top.specs.Run.{Runs}
use Rattle.lte_top.specs.declared.process.Line.{Line}

-- the answer if the arguments are unavailable: `OutOfMemory` if their allocation failed, otherwise `Usage`, as an
-- argument that is not UTF-8 text selects no form
abbrev pub refusal_of : ErrorKind → Status
refusal_of NoMemory = OutOfMemory
refusal_of kind = Usage

-- a process at its start: nothing is known about its input and output, and no call has failed
abbrev pub at_start : Outside
at_start = (record { left = None; faults = 0 }, record { taken = None; room = None; faults = 0 })

-- the answer to `arguments`: `program` ran with all but the first, which is its name, or an allocation for the
-- arguments failed
abbrev pub IsRun : Program → List (List ℕ) → Status → Type 0
IsRun program arguments status =
    ((now : Outside) × Runs program (drop 1 arguments) at_start now status) ⊎ (status ≡ OutOfMemory)

-- `status` answers the attempt to read the process's arguments: a run if they were read, otherwise a refusal
abbrev pub IsAnswerTo : Program → Result (List (List ℕ)) ErrorKind → Status → Type 0
IsAnswerTo program (Ok arguments) status = IsRun program arguments status
IsAnswerTo program (Err kind) status = status ≡ refusal_of kind

-- `exit` is the exit code of the answer to the process's arguments
pub record IsExit (program : Program) (exit : ExitCode) : Type 0 where
  pub arguments : Result (List (List ℕ)) ErrorKind
  pub answer : Status
  pub answered : IsAnswerTo program arguments answer
  pub code : exit_status exit ≡ code_of answer

-- the line on standard error for an answer; none for `Done`
abbrev pub line_of : Program → Status → Option Line
line_of program Done = None
line_of program status = Some (record { program = program; status = status })

-- the text of a line on standard error: the program's name and the answer's text
abbrev pub line_text : Line → List ℕ
line_text line = name_of line.program ++ codes ": " ++ text_of line.status
