use Rattle.std.proofs.Common.{take}
use Rattle.uper.specs.Grammar.{times}
use Rattle.sib1.specs.Layout.{digit}
use Rattle.uper.specs.Sheet.{Puts}
use Rattle.sib1.proofs.write_plmns.put_digits.Given as goal

abbrev pub invariant-loop-digit : goal.invariant-loop-digit
invariant-loop-digit l = Puts (times l.digit-index digit) (take l.digit-index l.digits) l.fn.sheet l.sheet
