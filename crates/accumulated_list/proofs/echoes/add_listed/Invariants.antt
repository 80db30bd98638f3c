use Rattle.std.proofs.Common.{◌≡◌, ◌++◌, filter, take}
use Rattle.accumulated_pss.specs.Sums.{row_in}
use Rattle.accumulated_list.specs.Steps.{is_no_echo}
use Rattle.accumulated_list.proofs.echoes.add_listed.Given as goal

abbrev pub invariant-loop-k : goal.invariant-loop-k
invariant-loop-k l = l.list.items ≡ l.initial.list.items ++ filter (is_no_echo (row_in l.sums l.n2) l.cells) (take l.k l.cells)
