use Rattle.std.proofs.Common.{◌≤◌, nat_abs, pos, refl, arith}
use Rattle.std.proofs.lemmas.List.Elements.{All-replicate}
use Rattle.added_tests.proofs.masters.plain_values.Goals as goal

pub loop-i-init : goal.loop-i-init
loop-i-init c = record { whole = refl; small = All-replicate (λ z. nat_abs z ≤ 127) 480 (pos 0) (omega arith) }
