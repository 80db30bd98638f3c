use Rattle.std.proofs.Common.{take}
use Rattle.uper.specs.Grammar.{times}
use Rattle.sib1.specs.Layout.{sib_type}
use Rattle.uper.specs.Sheet.{Puts}
use Rattle.sib1.proofs.write_schedule.put_sib_types.Given as goal

abbrev pub invariant-loop-code : goal.invariant-loop-code
invariant-loop-code l = Puts (times l.code-index sib_type) (take l.code-index l.codes) l.fn.sheet l.sheet
