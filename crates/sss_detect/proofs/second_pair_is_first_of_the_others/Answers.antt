use Rattle.sss_detect.proofs.Seconds.{second_pair_is_second, only_one_is_second}
use Rattle.sss_detect.proofs.second_pair_is_first_of_the_others.Goals as goal

pub returns-clause-second : goal.returns-clause-second
returns-clause-second c = second_pair_is_second

pub returns-clause-only : goal.returns-clause-only
returns-clause-only c = only_one_is_second
