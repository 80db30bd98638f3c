use Rattle.std.proofs.Common.{arith}
use Rattle.sib1.specs.Layout.{plmn_identity_info}
use Rattle.uper.proofs.Putting.{puts_none}
use Rattle.uper.proofs.Putting.{each_puts}
use Rattle.sib1.proofs.write_plmns.put_other_plmns.Goals as goal

pub loop-other-init : goal.loop-other-init
loop-other-init c = puts_none (plmn_identity_info 0) c.args.sheet.now

pub loop-other-preserved : goal.loop-other-preserved
loop-other-preserved c =
    each_puts (plmn_identity_info 0) c.args.others.now c.loop-other.other-index _ c.args.sheet.now c.loop-other.sheet c.put_plmn_identity_info.new.sheet c.loop-other-test.true c.loop-other.invariant (c.put_plmn_identity_info.ensures 0 (omega arith))
