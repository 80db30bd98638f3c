use Rattle.pss_search.proofs.Stronger.{next_is_strongest, best_remains}
use Rattle.pss_search.proofs.strongest.stronger.Goals as goal

pub returns-then-is_stronger : goal.returns-then-is_stronger
returns-then-is_stronger c recording n2 so_far measured =
    next_is_strongest recording n2 c.args.best c.args.next so_far measured (c.is_stronger.ensures.stronger c.if-is_stronger.true)

pub returns-else-is_stronger : goal.returns-else-is_stronger
returns-else-is_stronger c recording n2 so_far measured =
    best_remains recording n2 c.args.best c.args.next so_far measured (c.is_stronger.ensures.weaker c.if-is_stronger.false)
