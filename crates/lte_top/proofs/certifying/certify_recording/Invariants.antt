use Rattle.evidence.specs.Receivers.{receiver_of}
use Rattle.lte_top.proofs.certifying.certify_recording.Given as goal

abbrev pub ghost-certify_list : goal.ghost-certify_list
ghost-certify_list g a = receiver_of a.carrier
