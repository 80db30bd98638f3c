use Rattle.std.proofs.Common.{sym}
use Rattle.std.proofs.lemmas.Bool.{ne_eqb}
use Rattle.wide_grid.proofs.Unused.{first_unused, later_unused}
use Rattle.wide_grid.proofs.phich.free_count.Goals as goal

pub returns-then-symbol-eq0-clause-value : goal.returns-then-symbol-eq0-clause-value
returns-then-symbol-eq0-clause-value c =
    rw (c.subcarriers.ensures.value, c.span.ensures.value)
    (sym (first_unused c.args.cell.now c.args.symbol c.span.ensures.valid c.if-symbol-eq0.true))

pub returns-else-symbol-eq0-clause-value : goal.returns-else-symbol-eq0-clause-value
returns-else-symbol-eq0-clause-value c =
    rw (c.subcarriers.ensures.value, c.span.ensures.value)
    (sym (later_unused c.args.cell.now c.args.symbol (ne_eqb _ _ c.if-symbol-eq0.false)))
