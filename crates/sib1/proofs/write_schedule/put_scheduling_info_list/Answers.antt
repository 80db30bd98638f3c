use Rattle.std.proofs.Common.{arith}
use Rattle.sib1.proofs.Blocks.{schedule_puts}
use Rattle.sib1.proofs.write_schedule.put_scheduling_info_list.Goals as goal

pub returns : goal.returns
returns c =
    let few = c.requires.count.1 in
    schedule_puts c.args.list.now c.args.sheet.now c.put.new.self c.put_scheduling_infos.new.sheet c.requires.count.0 (c.put.ensures.puts 0 31 (omega arith) (omega (arith, few))) c.put_scheduling_infos.ensures
