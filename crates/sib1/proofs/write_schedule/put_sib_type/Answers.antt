use Rattle.std.proofs.Common.{arith}
use Rattle.sib1.proofs.Blocks.{sib_long, sib_short}
use Rattle.sib1.proofs.write_schedule.put_sib_type.Goals as goal

pub returns-then-code-ge16 : goal.returns-then-code-ge16
returns-then-code-ge16 c =
    let far = c.if-code-ge16.true in
    let small = c.requires in
    sib_long c.args.code c.args.sheet.now c.flag.new.self c.put.new.self c.put-then-code-ge16.new.self far c.flag.ensures (c.put.ensures.puts 0 0 (omega arith) (omega arith)) (c.put-then-code-ge16.ensures.puts 0 63 (omega arith) (omega (arith, small)))

pub returns-else-code-ge16 : goal.returns-else-code-ge16
returns-else-code-ge16 c =
    let near = c.if-code-ge16.false in
    sib_short c.args.code c.args.sheet.now c.flag-else-code-ge16.new.self c.put-else-code-ge16.new.self c.flag-else-code-ge16.ensures (c.put-else-code-ge16.ensures.puts 0 15 (omega arith) (omega (arith, near)))
