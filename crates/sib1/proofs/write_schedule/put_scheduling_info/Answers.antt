use Rattle.std.proofs.Common.{length, ap, arith}
use Rattle.sib1.proofs.Blocks.{message_puts}
use Rattle.sib1.proofs.write_schedule.put_scheduling_info.Goals as goal

pub returns : goal.returns
returns c =
    let is = c.slice-codes.ensures.items in
    let count = c.slice-codes.ensures.count in
    let size = ap length is in
    message_puts c.args.item.now c.slice-codes.result.now c.args.sheet.now c.put.new.self c.put-2.new.self c.put_sib_types.new.sheet is
    (c.put.ensures.puts 0 6 (omega arith) c.requires.period) (c.put-2.ensures.puts 0 31 (omega arith) (omega (arith, size, count))) c.put_sib_types.ensures
