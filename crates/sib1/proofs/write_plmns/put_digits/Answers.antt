use Rattle.std.proofs.Common.{arith}
use Rattle.sib1.specs.Layout.{digit}
use Rattle.uper.proofs.Putting.{puts_none}
use Rattle.uper.proofs.Putting.{each_puts}
use Rattle.sib1.proofs.write_plmns.put_digits.Goals as goal

pub loop-digit-init : goal.loop-digit-init
loop-digit-init c = puts_none digit c.args.sheet.now

pub loop-digit-preserved : goal.loop-digit-preserved
loop-digit-preserved c =
    each_puts digit c.args.digits.now c.loop-digit.digit-index 0 c.args.sheet.now c.loop-digit.sheet c.put.new.self c.loop-digit-test.true c.loop-digit.invariant
    (c.put.ensures.puts 0 9 (omega arith) (c.requires c.loop-digit.digit-index 0 c.loop-digit-test.true))
