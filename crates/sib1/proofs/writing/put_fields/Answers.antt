use Rattle.std.proofs.Common.{arith}
use Rattle.sib1.proofs.Blocks.{sib1_puts}
use Rattle.sib1.proofs.writing.put_fields.Goals as goal

pub returns : goal.returns
returns c =
    let band = c.requires.band.1 in
    sib1_puts c.args.fields.now c.slice.result.now c.is_some.result c.is_some-2.result c.args.sheet.now c.put.new.self c.put-2.new.self c.flag.new.self c.flag-2.new.self c.flag-3.new.self c.put_cell_access_related_info.new.sheet c.put_cell_selection_info.new.sheet c.put_p_max.new.sheet
    c.put-3.new.self c.put_scheduling_info_list.new.sheet c.put_tdd_config.new.sheet c.put-4.new.self c.put-5.new.self
    c.slice.ensures.items c.is_some.ensures c.is_some-2.ensures c.requires.band.0
    (c.put.ensures.puts 0 0 (omega arith) (omega arith)) (c.put-2.ensures.puts 1 1 (omega arith) (omega arith)) c.flag.ensures c.flag-2.ensures c.flag-3.ensures
    c.put_cell_access_related_info.ensures c.put_cell_selection_info.ensures c.put_p_max.ensures (c.put-3.ensures.puts 0 63 (omega arith) (omega (arith, band))) c.put_scheduling_info_list.ensures c.put_tdd_config.ensures
    (c.put-4.ensures.puts 0 6 (omega arith) c.requires.window) (c.put-5.ensures.puts 0 31 (omega arith) c.requires.tag)
