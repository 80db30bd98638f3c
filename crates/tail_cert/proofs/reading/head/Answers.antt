use Rattle.std.proofs.Common.{refl}
use Rattle.tail_cert.proofs.Breaks.{long_enough}
use Rattle.tail_cert.proofs.reading.head.Goals as goal

pub whole_length-requires : goal.whole_length-requires
whole_length-requires c = long_enough _ _ (c.in-None.ensures.none refl)

pub returns-in-Some-clause-unbroken : goal.returns-in-Some-clause-unbroken
returns-in-Some-clause-unbroken c = ((λ t. cc), λ h. absurd (h _ c.in-Some.ensures.some.here))

pub returns-in-None-clause-unbroken : goal.returns-in-None-clause-unbroken
returns-in-None-clause-unbroken c = ((λ t. c.in-None.ensures.none refl), λ h. refl)

pub returns-in-None-clause-refused : goal.returns-in-None-clause-refused
returns-in-None-clause-refused c = λ place. ((λ e. cc), λ first. absurd (c.in-None.ensures.none refl place first.here))
