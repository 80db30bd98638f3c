-- Clean recordings of transmitted cells: each antenna port's samples times an integer gain, plus an error within a
-- stated bound. (own)
use Rattle.std.specs.Prelude.{ℕ, ◌+◌, ◌*◌, ◌<◌, ◌≤◌, List, length}
use Rattle.cs_num.specs.declared.Cpx.{Cpx}
use Rattle.cs_num.specs.declared.Sample.{Sample}
use Rattle.cs_num.specs.Complex.{square, sample_at, plus, times, IsWithin, minus}
use Rattle.cs_num.specs.Gain.{IsGain}
use Rattle.lte_types.specs.Timing.{IsOffset}
use Rattle.cell_plan.specs.declared.cell.CellPlan.{CellPlan}
use Rattle.cell_plan.specs.Gains.{AreGains, IsAllowed}
use Rattle.cell_grid.specs.Ports.{first_port, second_port}
use Rattle.cell_grid.specs.Grid.{port_element, element}
use Rattle.cell_tx.specs.Sent.{sent}

-- each component of sample `i` of the recording differs from `values i` by at most `eps`
abbrev pub AreNear : List Sample → (ℕ → Cpx) → ℕ → Type 0
AreNear recording values eps = (i : ℕ) → i < length recording → IsWithin eps (minus (sample_at recording i) (values i))

-- ---- one antenna port

-- The samples of a recording are the samples of a sequence from sample `offset`, times the gain. Each component is off
-- by at most `eps`, and `eps` is at most twice the gain's magnitude.
pub record IsCleanOf (sequence : ℕ → Cpx) (recording : List Sample) (offset : ℕ) (gain : Cpx) (eps : ℕ) : Type 0 where
  pub within : IsOffset offset
  pub range : IsGain gain
  pub bound : eps * eps ≤ 4 * square gain
  pub near : AreNear recording (λ i. times gain (sequence (i + offset))) eps

-- A recording is clean for the transmission of a cell with one antenna port, from frame `sfn`.
pub record IsClean (recording : List Sample) (plan : CellPlan) (sfn offset : ℕ) (gain : Cpx) (eps : ℕ) : Type 0 where
  pub number : sfn ≤ 1023
  pub samples : IsCleanOf (sent (element plan) sfn) recording offset gain eps

-- ---- two antenna ports

-- the sum of two sequences from sample `offset`, each times its complex gain
abbrev pub received_of_two : (ℕ → Cpx) → (ℕ → Cpx) → ℕ → Cpx → Cpx → ℕ → Cpx
received_of_two first second offset gain other i =
    plus (times gain (first (i + offset))) (times other (second (i + offset)))

-- The samples of a recording are the sum of both sequences, each times its gain. Each component is off by at most
-- `eps`, which the gains allow (`IsAllowed`).
pub record IsCleanOfTwo (first second : ℕ → Cpx) (recording : List Sample) (offset : ℕ) (gain other : Cpx) (eps : ℕ) :
    Type 0 where
  pub within : IsOffset offset
  pub gains : AreGains gain other
  pub bound : IsAllowed gain other eps
  pub near : AreNear recording (received_of_two first second offset gain other) eps

-- the sequence that port 0 of two transmits from frame `sfn`; `second_sequence` is port 1's sequence
abbrev pub first_sequence : CellPlan → ℕ → ℕ → Cpx
first_sequence plan sfn = sent (port_element first_port plan) sfn

abbrev pub second_sequence : CellPlan → ℕ → ℕ → Cpx
second_sequence plan sfn = sent (port_element second_port plan) sfn

-- A recording is clean for the transmission of a cell with two antenna ports, from frame `sfn`.
pub record IsCleanOfPorts (recording : List Sample) (plan : CellPlan) (sfn offset : ℕ) (gain other : Cpx) (eps : ℕ) :
    Type 0 where
  pub number : sfn ≤ 1023
  pub samples : IsCleanOfTwo (first_sequence plan sfn) (second_sequence plan sfn) recording offset gain other eps
