use Rattle.turbo_code.proofs.Walking.{at_start}
use Rattle.turbo_code.proofs.matching.Walk.new.Goals as goal

pub invariant_of-result : goal.invariant_of-result
invariant_of-result c = at_start c.args.k c.args.rv c.requires.size c.requires.version
