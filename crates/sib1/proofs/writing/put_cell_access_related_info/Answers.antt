use Rattle.std.proofs.Common.{arith}
use Rattle.sib1.proofs.Blocks.{access_puts}
use Rattle.sib1.proofs.writing.put_cell_access_related_info.Goals as goal

pub returns : goal.returns
returns c =
    let cell = c.requires.cell in
    access_puts c.args.fields.now c.slice.result.now c.is_some.result c.args.sheet.now c.flag.new.self c.put_plmn_identity_list.new.sheet c.put.new.self c.put-2.new.self c.flag-2.new.self c.flag-3.new.self c.flag-4.new.self c.put_csg_identity.new.sheet
    c.slice.ensures.items c.is_some.ensures c.flag.ensures c.put_plmn_identity_list.ensures (c.put.ensures.puts 0 65535 (omega arith) (omega arith)) (c.put-2.ensures.puts 0 268435455 (omega arith) (omega (arith, cell)))
    c.flag-2.ensures c.flag-3.ensures c.flag-4.ensures c.put_csg_identity.ensures
