use Rattle.lte_types.proofs.Timings.{timings_come_back, starts_come_back}
use Rattle.lte_types.proofs.timing.timings_come_back.Goals as goal

pub returns-clause-timings : goal.returns-clause-timings
returns-clause-timings c = timings_come_back

pub returns-clause-starts : goal.returns-clause-starts
returns-clause-starts c = starts_come_back
