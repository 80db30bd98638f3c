use Rattle.std.proofs.Common.{◌∙◌, ◌+◌, sym, ap}
use Rattle.pss_search.specs.Steps.{so_far}
use Rattle.pss_search.proofs.Room.{so_far_none, hits_before_more}
use Rattle.pss_search.proofs.NoHit.{list_stays}
use Rattle.pss_search.proofs.list.add_hits.Goals as goal

pub add_of-requires-clause-before : goal.add_of-requires-clause-before
add_of-requires-clause-before c =
    c.requires.before ∙ sym (so_far_none c.args.recent.now.recording c.args.i) ∙ ap (so_far c.args.recent.now.recording c.args.i) (sym c.new.ensures)

pub returns-then-may_be_hit-clause-list : goal.returns-then-may_be_hit-clause-list
returns-then-may_be_hit-clause-list c =
    c.add_of-then-may_be_hit-2.ensures.list
    ∙ ap (λ n. so_far c.args.recent.now.recording c.args.i (n + 1)) c.new-then-may_be_hit-2.ensures
    ∙ sym (hits_before_more c.args.recent.now.recording c.args.i)

pub returns-else-may_be_hit-clause-list : goal.returns-else-may_be_hit-clause-list
returns-else-may_be_hit-clause-list c =
    c.requires.before ∙ sym (list_stays c.args.recent.now.recording c.args.i (c.may_be_hit.ensures c.if-may_be_hit.false))
