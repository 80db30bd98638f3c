use Rattle.std.proofs.Common.{refl}
use Rattle.tail_cert.proofs.Breaks.{count_least, first_more, long_enough}
use Rattle.tail_cert.proofs.reading.first_break_of_whole.Goals as goal

pub whole_length-requires : goal.whole_length-requires
whole_length-requires c = long_enough _ _ (c.in-None.ensures.none refl)

pub returns-in-Some-clause-some : goal.returns-in-Some-clause-some
returns-in-Some-clause-some c = first_more _ _ _ _ (count_least _) c.in-Some.ensures.some
