use Rattle.std.proofs.Common.{◌≡◌, take}
use Rattle.capture_make.proofs.recipe.message.Given as goal

abbrev pub invariant-loop-code : goal.invariant-loop-code
invariant-loop-code l = l.sibs ≡ take l.code-index l.codes
