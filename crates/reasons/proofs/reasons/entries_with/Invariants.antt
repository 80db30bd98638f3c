use Rattle.std.proofs.Common.{◌≡◌, map, take}
use Rattle.std.specs.Prelude.{filter}
use Rattle.reasons.specs.Reason.{has_identity, listed}
use Rattle.reasons.proofs.reasons.entries_with.Given as goal

abbrev pub invariant-loop-entry : goal.invariant-loop-entry
invariant-loop-entry l = l.reasons.items ≡ map listed (filter (has_identity l.id) (take l.entry-index l.list))
