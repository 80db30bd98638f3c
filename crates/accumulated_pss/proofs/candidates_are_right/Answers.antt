use Rattle.accumulated_pss.proofs.RightTest.{test_is_right}
use Rattle.accumulated_pss.proofs.Listed.{list_is_right, list_is_in_order, candidates_are_apart}
use Rattle.accumulated_pss.proofs.Short.{list_is_short}
use Rattle.accumulated_pss.proofs.candidates_are_right.Goals as goal

pub returns : goal.returns
returns c = record {
  test = test_is_right;
  list = list_is_right;
  order = list_is_in_order;
  apart = candidates_are_apart;
  few = list_is_short;
}
