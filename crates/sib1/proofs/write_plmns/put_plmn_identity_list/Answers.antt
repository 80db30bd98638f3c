use Rattle.sib1.proofs.Written.{plmns_puts, first_has, one_least}
use Rattle.sib1.proofs.write_plmns.put_plmn_identity_list.Goals as goal

pub returns-in-len1-up : goal.returns-in-len1-up
returns-in-len1-up c =
    plmns_puts c.args.list.now _ c.args.sheet.now c.put.new.self c.put_plmn_identity_info.new.sheet c.put_other_plmns.new.sheet c.requires.count.0 c.requires.count.1 c.put.ensures.puts
    (c.put_plmn_identity_info.ensures 1 (one_least _ (first_has c.args.list.now _ c.requires.first_mcc))) c.put_other_plmns.ensures
