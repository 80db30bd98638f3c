use Rattle.std.proofs.Common.{arith}
use Rattle.pbch.proofs.Words.{none_by}
use Rattle.pbch.proofs.by_phase.master_of.Goals as goal

pub returns-in_err-ports : goal.returns-in_err-ports
returns-in_err-ports c =
    rw c.from_residual.ensures
    (none_by _ _ c.least-word.ensures.word (λ ports passes width. c.in_err-ports.ensures ports passes))

pub returns-in_err-mib : goal.returns-in_err-mib
returns-in_err-mib c =
    rw c.from_residual-in_err-mib.ensures
    (none_by _ _ c.least-word.ensures.word (λ ports passes width. let wide = c.in_err-mib.ensures in absurd (omega (arith, wide, width))))
