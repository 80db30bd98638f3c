use Rattle.std.proofs.Common.{◌≡◌, filter, take}
use Rattle.frequency_offset.specs.Candidates.{is_far}
use Rattle.frequency_offset.proofs.taking.far_from.Given as goal

abbrev pub invariant-loop-candidate : goal.invariant-loop-candidate
invariant-loop-candidate l = l.far.items ≡ filter (is_far l.best) (take l.candidate-index l.candidates)
