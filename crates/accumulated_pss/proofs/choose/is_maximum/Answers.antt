use Rattle.std.proofs.Common.{◌≡◌, true, get_or, nat_lt, arith}
use Rattle.std.proofs.lemmas.Bool.{lt-ltb}
use Rattle.std.proofs.lemmas.Bool.Decides.{nat_tests}
use Rattle.accumulated_pss.proofs.Circle.{is_maximum_is}
use Rattle.accumulated_pss.proofs.choose.is_maximum.Goals as goal

pub returns-then-row-i-gt0 : goal.returns-then-row-i-gt0
returns-then-row-i-gt0 c =
    let is = is_maximum_is c.args.row.now c.args.i in
    let first : nat_lt 0 (get_or c.args.row.now c.args.i 0) ≡ true = lt-ltb 0 _ c.if-row-i-gt0.true in
    rw (is, first) c.stands_out.ensures

pub returns-else-row-i-gt0 : goal.returns-else-row-i-gt0
returns-else-row-i-gt0 c = let is = is_maximum_is c.args.row.now c.args.i in rw is (grind (arith, nat_tests))
