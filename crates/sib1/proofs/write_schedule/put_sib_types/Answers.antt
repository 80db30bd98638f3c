use Rattle.sib1.specs.Layout.{sib_type}
use Rattle.uper.proofs.Putting.{puts_none}
use Rattle.uper.proofs.Putting.{each_puts}
use Rattle.sib1.proofs.write_schedule.put_sib_types.Goals as goal

pub loop-code-init : goal.loop-code-init
loop-code-init c = puts_none sib_type c.args.sheet.now

pub loop-code-preserved : goal.loop-code-preserved
loop-code-preserved c =
    each_puts sib_type c.args.codes.now c.loop-code.code-index 0 c.args.sheet.now c.loop-code.sheet c.put_sib_type.new.sheet c.loop-code-test.true c.loop-code.invariant c.put_sib_type.ensures
