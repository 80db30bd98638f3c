use Rattle.std.proofs.Common.{nat_eq}
use Rattle.crs.specs.Reference.{port_0, has_pilots, first_subcarrier, is_reference, is_second_reference}
use Rattle.crs.proofs.Spacing.{lower_apart}
use Rattle.crs.proofs.Values.{both_ports}
use Rattle.crs.proofs.reference_places_of_two.Goals as goal

pub returns-clause-both : goal.returns-clause-both
returns-clause-both c = both_ports

pub returns-clause-apart : goal.returns-clause-apart
unfolding first_subcarrier is_reference is_second_reference
returns-clause-apart c identity symbol k = lower_apart (has_pilots port_0 symbol) (nat_eq symbol 0) identity k
