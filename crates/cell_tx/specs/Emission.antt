-- The emission of a cell: each antenna port's samples times the port's gain, with or without load. (own)
use Rattle.std.specs.Prelude.{ℕ, ◌+◌, ◌≤◌, nat_eq, if◌then◌else◌, Option, List}
use Rattle.finite.specs.Lists.{values_below}
use Rattle.cs_num.specs.declared.Cpx.{Cpx}
use Rattle.cs_num.specs.declared.Sample.{Sample}
use Rattle.cs_num.specs.Complex.{plus, times, value_at, sample_of}
use Rattle.lte_types.specs.Timing.{IsOffset}
use Rattle.lte_types.specs.declared.carrier.Carrier.{Carrier}
use Rattle.lte_types.specs.Carrier.{ports_of}
use Rattle.cell_grid.specs.declared.antenna.Port.{Port}
use Rattle.cell_plan.specs.declared.cell.CellPlan.{CellPlan}
use Rattle.cell_plan.specs.declared.emission.Emission.{Emission}
use Rattle.cell_grid.specs.Ports.{port_by, port_prefix}
use Rattle.cell_grid.specs.Load.{sent_element}
use Rattle.cell_tx.specs.Sent.{prefix_sent}
use Rattle.cell_plan.specs.Gains.{AreGainsOf, IsAllowedBy}
use Rattle.cell_tx.specs.Clean.{AreNear}

-- sample `i` of the sequence that a port transmits from frame `sfn`
abbrev pub sent_by : Option ℕ → Port → CellPlan → ℕ → ℕ → Cpx
sent_by load port plan sfn i = prefix_sent (port_prefix port) (sent_element load port plan) sfn i

-- the value received from port `number`: the port's value times its gain
abbrev pub part_of : Carrier → (Port → Cpx) → List Cpx → ℕ → Cpx
part_of carrier values gains number = times (value_at gains number) (values (port_by carrier number))

-- the sum of the values received from all of a transmission scheme's one, two or four ports
abbrev pub mixed : Carrier → (Port → Cpx) → List Cpx → Cpx
mixed carrier values gains =
    let part = part_of carrier values gains in
    if nat_eq (ports_of carrier) 1 then part 0
    else (if nat_eq (ports_of carrier) 2 then plus (part 0) (part 1)
    else plus (plus (part 0) (part 1)) (plus (part 2) (part 3)))

-- the value received at sample `i`: the sum, over all ports, of sample `i + offset` of the port's sequence times the
-- port's gain
abbrev pub received_by : Carrier → Option ℕ → CellPlan → ℕ → ℕ → List Cpx → ℕ → Cpx
received_by carrier load plan sfn offset gains i =
    mixed carrier (λ port. sent_by load port plan sfn (i + offset)) gains

-- sample `i` of an emission, received without errors; `emitted_samples` lists all samples with 16-bit components
abbrev pub emitted : Emission → ℕ → Cpx
emitted e i = received_by e.carrier e.load e.cell e.timing.sfn e.timing.offset e.gains i

abbrev pub emitted_samples : Emission → List Sample
emitted_samples e = values_below e.samples (λ i. sample_of (emitted e i))

-- A recording is clean for a cell of a transmission scheme: the samples are the received sum over all ports, and each
-- component is off by at most `eps`, which the gains allow (`IsAllowedBy`).
pub record IsCleanBy (carrier : Carrier) (load : Option ℕ) (recording : List Sample) (plan : CellPlan)
    (sfn offset : ℕ) (gains : List Cpx) (eps : ℕ) : Type 0 where
  pub number : sfn ≤ 1023
  pub within : IsOffset offset
  pub gains_are : AreGainsOf carrier gains
  pub bound : IsAllowedBy carrier gains eps
  pub near : AreNear recording (received_by carrier load plan sfn offset gains) eps
