use Rattle.std.proofs.Common.{◌∙◌}
use Rattle.tail_cert.proofs.Breaks.{count_by_set}
use Rattle.tail_cert.proofs.reading.whole_length.Goals as goal

pub returns-clause-count : goal.returns-clause-count
returns-clause-count c = c.length_with.ensures ∙ count_by_set _ _ c.get_set.ensures.states
