use Rattle.accumulated_list.proofs.Ordered.{only_one_list, list_is_short}
use Rattle.accumulated_list.proofs.Agree.{covered_samples_decide_list}
use Rattle.accumulated_list.proofs.Apart.{cells_are_apart, cells_are_supported}
use Rattle.accumulated_list.proofs.list_is_right.Goals as goal

pub returns : goal.returns
returns c = record {
  only = only_one_list;
  covered = covered_samples_decide_list;
  apart = cells_are_apart;
  supported = cells_are_supported;
  few = list_is_short;
}
