use Rattle.std.proofs.Common.{arith}
use Rattle.std.proofs.lemmas.Bool.Decides.{nat_tests}
use Rattle.accumulated_pss.proofs.Circle.{stands_out_by_is}
use Rattle.accumulated_pss.proofs.choose.stands_out_by.Goals as goal

pub returns-then-after-own : goal.returns-then-after-own
returns-then-after-own c = let is = stands_out_by_is c.args.row.now c.args.i c.args.d in rw is (grind (arith, nat_tests))

pub returns-else-after-own : goal.returns-else-after-own
returns-else-after-own c = let is = stands_out_by_is c.args.row.now c.args.i c.args.d in rw is (grind (arith, nat_tests))
