use Rattle.explain.proofs.Valid.{starts_early}
use Rattle.successive_cancel.proofs.Taking.{answer_if, not_taken}
use Rattle.successive_cancel.proofs.making.taken_off.Goals as goal

pub subtract_from-requires-clause-start : goal.subtract_from-requires-clause-start
subtract_from-requires-clause-start c = starts_early c.args.recording.now c.args.entry.now c.requires.entry

pub returns-in-Some : goal.returns-in-Some
returns-in-Some c = answer_if c.args.recording.now c.args.entry.now c.in-Some.cell c.subtract_from.result c.in-Some.ensures.plan c.subtract_from.ensures

pub returns-in-None : goal.returns-in-None
returns-in-None c = not_taken c.args.recording.now c.args.entry.now c.in-None.ensures.plan
