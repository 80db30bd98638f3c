use Rattle.std.proofs.Common.{arith, ◌∙◌, ◌+◌, ◌++◌, ◌∷◌, [], sym, ap, append-nil}
use Rattle.pss_search.specs.Steps.{so_far}
use Rattle.pss_search.proofs.Room.{room, so_far_more, one_is_hit}
use Rattle.pss_search.proofs.list.add_of.Goals as goal

pub add-requires : goal.add-requires
add-requires c =
    let r = room c.args.recent.now.recording c.args.i c.args.root.now.n2 c.requires.i (omega (arith, c.args.root.now.known))
    (one_is_hit c.args.recent.now.recording (137 + c.args.i) c.args.root.now.n2 c.in-Some.hit c.in-Some.ensures.value) in
    rw c.requires.before r

pub returns-in-Some-clause-list : goal.returns-in-Some-clause-list
returns-in-Some-clause-list c =
    c.add.ensures ∙ ap (λ l. l ++ c.in-Some.hit ∷ []) c.requires.before
    ∙ ap (λ l. so_far c.args.recent.now.recording c.args.i c.args.root.now.n2 ++ l) c.in-Some.ensures.value
    ∙ sym (so_far_more c.args.recent.now.recording c.args.i c.args.root.now.n2)

pub returns-in-None-clause-list : goal.returns-in-None-clause-list
returns-in-None-clause-list c =
    c.requires.before ∙ sym (append-nil (so_far c.args.recent.now.recording c.args.i c.args.root.now.n2))
    ∙ ap (λ l. so_far c.args.recent.now.recording c.args.i c.args.root.now.n2 ++ l) c.in-None.ensures.value
    ∙ sym (so_far_more c.args.recent.now.recording c.args.i c.args.root.now.n2)
