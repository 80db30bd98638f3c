use Rattle.std.proofs.Common.{nat_eq}
use Rattle.crs.specs.Reference.{is_upper_reference}
use Rattle.crs.proofs.Spacing.{upper_apart}
use Rattle.crs.proofs.Values.{both_upper, upper_turns}
use Rattle.crs.proofs.upper.reference_places_of_upper.Goals as goal

pub returns-clause-both : goal.returns-clause-both
returns-clause-both c = both_upper

pub returns-clause-apart : goal.returns-clause-apart
unfolding is_upper_reference
returns-clause-apart c identity slot symbol k = upper_apart (nat_eq symbol 1) identity slot k

pub returns-clause-turns : goal.returns-clause-turns
returns-clause-turns c = upper_turns
