use Rattle.std.proofs.Common.{take}
use Rattle.std.specs.List.{AllWithin}
use Rattle.wide_list.specs.First.{HasNone}
use Rattle.wide_list.specs.Frames.{HasFields, IsReason}
use Rattle.wide_list.proofs.alone.answer_alone.Given as goal

-- no offer so far has fields, and the reason is that of the first
abbrev pub invariant-loop-at : goal.invariant-loop-at
invariant-loop-at l = record {
  none : AllWithin (HasNone HasFields) l.frame.offers 0 l.at;
  first : IsReason l.frame.elements (take l.at l.frame.offers) l.reason;
}
