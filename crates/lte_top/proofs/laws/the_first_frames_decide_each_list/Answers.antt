use Rattle.lte_top.proofs.Deep.{first_frames_decide_deep}
use Rattle.lte_top.proofs.Fronts.{each_is_decided, looks, why_is_decided}
use Rattle.lte_top.proofs.laws.the_first_frames_decide_each_list.Goals as goal

pub returns : goal.returns
returns c = record { each = each_is_decided; deep = first_frames_decide_deep; receivers = looks; why = why_is_decided }
