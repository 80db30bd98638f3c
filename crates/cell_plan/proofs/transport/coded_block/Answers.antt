use Rattle.std.proofs.Common.{◌≡◌, ◌+◌, List, Bool, ap, ap₂, sym, ◌∙◌}
use Rattle.turbo_code.specs.declared.rows.Row.{Row}
use Rattle.turbo_code.specs.Encoder.{coded}
use Rattle.cell_plan.specs.Transport.{row_with}
use Rattle.cell_plan.proofs.BlockRows.{row_with_is}
use Rattle.cell_plan.proofs.transport.coded_block.Goals as goal

pub returns-clause-d : goal.returns-clause-d
returns-clause-d c =
    let found = c.in-Some.ensures in
    let row : c.in-Some.row ≡ row_with (c.args.size + 24) = sym (ap row_with (sym found.1) ∙ row_with_is c.in-Some.row found.0) in
    c.encode.ensures.d ∙ ap₂ (λ (r : Row) (bits : List Bool). coded r bits) row c.checked_block.ensures
