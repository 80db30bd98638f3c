use Rattle.pss_search.proofs.RightTest.{right_test}
use Rattle.pss_search.proofs.Room.{list_is_short}
use Rattle.pss_search.proofs.Listed.{list_is_right, list_is_in_order}
use Rattle.pss_search.proofs.hits_are_right.Goals as goal

pub returns-clause-test : goal.returns-clause-test
returns-clause-test c = right_test

pub returns-clause-list : goal.returns-clause-list
returns-clause-list c = list_is_right

pub returns-clause-order : goal.returns-clause-order
returns-clause-order c = list_is_in_order

pub returns-clause-few : goal.returns-clause-few
returns-clause-few c = list_is_short
