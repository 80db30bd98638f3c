use Rattle.std.proofs.Common.{◌≡◌, ℕ, List, None, inl, subst, ap}
use Rattle.cs_outside.specs.Outside.{Outside, SourceState, SinkState}
use Rattle.lte_args.specs.declared.form.Program.{Program}
use Rattle.lte_top.specs.declared.status.Status.{Status}
use Rattle.lte_top.specs.Run.{Runs}
use Rattle.lte_top.specs.Exit.{at_start}
use Rattle.lte_top.proofs.process.answer.Goals as goal

-- a reader and a writer with this many failed calls
abbrev reader : ℕ → SourceState
reader faults = record { left = None; faults = faults }

abbrev writer : ℕ → SinkState
writer faults = record { taken = None; room = None; faults = faults }

-- if no call has failed before, a run starts as the process does
from_start : (program : Program) (words arguments : List (List ℕ)) (reads writes : ℕ) (now : Outside) (status : Status) →
    reads ≡ 0 → writes ≡ 0 → words ≡ arguments → Runs program words (reader reads, writer writes) now status → Runs program arguments at_start now status
from_start program words arguments reads writes now status r w a run =
    subst (λ l. Runs program l at_start now status) a
    (subst (λ n. Runs program words (reader 0, writer n) now status) w (subst (λ n. Runs program words (reader n, writer writes) now status) r run))

pub returns-in-Ok : goal.returns-in-Ok
returns-in-Ok g c = inl (
  _,
  from_start c.args.program c.in-Ok.words _ c.new.result.faults c.new-in-Ok.result.faults _ c.run_program.result
      (ap (λ s. s.faults) c.new.ensures) (ap (λ s. s.faults) c.new-in-Ok.ensures) c.in-Ok.ensures c.run_program.ensures,
)
