use Rattle.turbo_convergence.proofs.ReceivedSums.{received_sums_allow, received_sums_convey, whole_sums_speak}
use Rattle.turbo_convergence.proofs.received.received_sums_convey.Goals as goal

pub returns-clause-allow : goal.returns-clause-allow
returns-clause-allow c = received_sums_allow

pub returns-clause-tell : goal.returns-clause-tell
returns-clause-tell c = received_sums_convey

pub returns-clause-whole : goal.returns-clause-whole
returns-clause-whole c = whole_sums_speak
