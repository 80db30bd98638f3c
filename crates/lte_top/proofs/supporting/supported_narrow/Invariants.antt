use Rattle.evidence.specs.Receivers.{receiver_of}
use Rattle.lte_top.proofs.supporting.supported_narrow.Given as goal

abbrev pub ghost-support_of_list : goal.ghost-support_of_list
ghost-support_of_list a = receiver_of a.carrier
