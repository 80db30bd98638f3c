use Rattle.std.proofs.Common.{◌∙◌, refl}
use Rattle.trellis.proofs.Rounds.{ends_in_same}
use Rattle.tailbite.proofs.Keys.{pass_bound, pass_key_or_far}
use Rattle.tailbite.proofs.search.key_from.Goals as goal

pub returns-clause-bound : goal.returns-clause-bound
returns-clause-bound c =
    rw (c.key_of.ensures, c.walk-word.ensures.word)
    (pass_bound _ _ _ _ _ c.requires.costs c.pass.ensures.pass c.requires.low c.requires.high c.requires.start
    (c.free_at.ensures.row c.args.start c.requires.start ∙ ends_in_same 1073741824 c.args.start c.args.start refl))

pub returns-clause-reached : goal.returns-clause-reached
returns-clause-reached c =
    rw (c.key_of.ensures, c.walk-word.ensures.word)
    (pass_key_or_far _ _ _ _ _ c.requires.costs c.pass.ensures.pass c.requires.low c.requires.start c.free_at.ensures.row)
