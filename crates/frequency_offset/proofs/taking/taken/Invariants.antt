use Rattle.std.proofs.Common.{◌≡◌, ◌-◌, ◌++◌, ◌≤◌, All, vec_len}
use Rattle.frequency_offset.specs.Candidates.{first_taken}
use Rattle.frequency_offset.specs.Steps.{IsSmallCandidate}
use Rattle.frequency_offset.proofs.taking.taken.Given as goal

abbrev pub invariant-take : goal.invariant-take
invariant-take l = record {
  split : first_taken 4 l.fn.candidates.items ≡ l.taken.items ++ first_taken (4 - vec_len l.taken) l.rest.items;
  small : All IsSmallCandidate l.rest.items;
  few : vec_len l.taken ≤ 4;
}

abbrev pub decreases-take : goal.decreases-take
decreases-take l = 4 - vec_len l.taken
