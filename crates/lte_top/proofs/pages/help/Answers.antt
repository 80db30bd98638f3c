use Rattle.std.proofs.Common.{refl}
use Rattle.lte_top.proofs.pages.help.Goals as goal

pub returns-in-Receiver : goal.returns-in-Receiver
returns-in-Receiver c = rw c.in-Receiver.is refl

pub returns-in-Tuner : goal.returns-in-Tuner
returns-in-Tuner c = rw c.in-Tuner.is refl
