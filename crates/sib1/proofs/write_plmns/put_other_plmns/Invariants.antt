use Rattle.std.proofs.Common.{take}
use Rattle.uper.specs.Grammar.{times}
use Rattle.sib1.specs.Layout.{plmn_identity_info}
use Rattle.uper.specs.Sheet.{Puts}
use Rattle.sib1.proofs.write_plmns.put_other_plmns.Given as goal

abbrev pub invariant-loop-other : goal.invariant-loop-other
invariant-loop-other l = Puts (times l.other-index (plmn_identity_info 0)) (take l.other-index l.others) l.fn.sheet l.sheet
