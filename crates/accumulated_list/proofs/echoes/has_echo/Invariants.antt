use Rattle.std.proofs.Common.{◌≡◌, false, take}
use Rattle.std.specs.List.{list_any}
use Rattle.accumulated_pss.specs.Sums.{row_in}
use Rattle.accumulated_list.specs.Steps.{is_echo}
use Rattle.accumulated_list.proofs.echoes.has_echo.Given as goal

abbrev pub invariant-loop-k : goal.invariant-loop-k
invariant-loop-k l = list_any (λ other. is_echo (row_in l.sums l.n2) other l.cell) (take l.k l.cells) ≡ false
