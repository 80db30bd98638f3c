use Rattle.std.specs.List.{AllWithin}
use Rattle.wide_list.specs.First.{HasNone}
use Rattle.wide_list.specs.Together.{HasFieldsWith}
use Rattle.wide_list.proofs.together.together_in.Given as goal

abbrev pub invariant-loop-offer : goal.invariant-loop-offer
invariant-loop-offer l = AllWithin (HasNone (HasFieldsWith l.frames l.frame.period)) l.frame.offers 0 l.offer-index
