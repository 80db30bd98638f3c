use Rattle.evidence.specs.Receivers.{receiver_of}
use Rattle.lte_top.proofs.supporting.evidence_text.Given as goal

abbrev pub ghost-evidence_of_list : goal.ghost-evidence_of_list
ghost-evidence_of_list a = receiver_of a.carrier
