use Rattle.std.proofs.Common.{take}
use Rattle.std.specs.Prelude.{All}
use Rattle.std.specs.List.{AllZip}
use Rattle.evidence.specs.declared.measured.Measured.{Measured}
use Rattle.evidence.specs.Evidence.{IsMeasuredFor, IsInRange}
use Rattle.evidence.proofs.listing.evidence_of_list.Given as goal

abbrev pub invariant-loop-i : goal.invariant-loop-i
invariant-loop-i g l = record {
  each : AllZip (IsMeasuredFor g.receiver l.recording) (take l.i l.entries) l.list.items;
  ranges : All (λ (measured : Measured). IsInRange measured.numbers) l.list.items;
}

abbrev pub ghost-measured_and_slot : goal.ghost-measured_and_slot
ghost-measured_and_slot g a = g.receiver
