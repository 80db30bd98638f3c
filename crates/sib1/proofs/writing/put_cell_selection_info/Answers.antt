use Rattle.std.proofs.Common.{arith, rules, w8, FitsSigned, ◌∙◌}
use Rattle.std.proofs.lemmas.Int.{to_z-of_z}
use Rattle.sib1.proofs.Blocks.{selection_puts}
use Rattle.sib1.proofs.writing.put_cell_selection_info.Goals as goal

pub returns : goal.returns
returns c =
    let fits : FitsSigned w8 c.args.fields.now.q_rx = search rules in
    selection_puts c.args.fields.now c.is_some.result c.number_of_q_rx_lev_min.result c.args.sheet.now c.flag.new.self c.put.new.self c.put_q_rx_lev_min_offset.new.sheet c.is_some.ensures (c.number_of_q_rx_lev_min.ensures.is ∙ to_z-of_z w8 c.args.fields.now.q_rx fits)
    c.flag.ensures (c.put.ensures.puts 0 48 (omega arith) c.number_of_q_rx_lev_min.ensures.bound) c.put_q_rx_lev_min_offset.ensures
