use Rattle.std.proofs.Common.{◌≡◌, nat_eq, true, false, arith}
use Rattle.std.proofs.lemmas.Bool.Decides.{nat_tests}
use Rattle.dci.specs.Sizes.{column_2, column_3}
use Rattle.dci.proofs.sizes.size.Goals as goal

pub returns-then-column-eq2 : goal.returns-then-column-eq2
unfolding column_2
returns-then-column-eq2 c = let e : nat_eq c.args.column 2 ≡ true = grind (arith, nat_tests) in rw e c.entry.ensures

pub returns-else-column-eq2 : goal.returns-else-column-eq2
unfolding column_3
returns-else-column-eq2 c = let e : nat_eq c.args.column 2 ≡ false = grind (arith, nat_tests) in rw e c.entry-else-column-eq2.ensures
