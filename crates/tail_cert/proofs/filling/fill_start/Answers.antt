use Rattle.tail_cert.proofs.Accept.{table_from}
use Rattle.tail_cert.proofs.Rows.{rows_fit}
use Rattle.tail_cert.proofs.filling.fill_start.Goals as goal

pub returns-clause-bounds : goal.returns-clause-bounds
returns-clause-bounds c =
    table_from c.args.costs.now.values.now c.args.s _ _ c.requires.state c.args.costs.now.places (record { row = c.free_at.ensures.row }) c.fill_table.ensures.rows

pub returns-clause-whole : goal.returns-clause-whole
returns-clause-whole c = rows_fit c.args.costs.now.values.now _ _ c.fill_table.ensures.size c.fill_table.ensures.rows
