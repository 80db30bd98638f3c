use Rattle.std.proofs.Common.{take, ap, ◌∙◌}
use Rattle.std.proofs.lemmas.List.{take_min}
use Rattle.wide_block.proofs.values.front_of.Goals as goal

pub returns-clause-front : goal.returns-clause-front
returns-clause-front c = ap (λ n. take n c.args.places.now) c.min.ensures ∙ take_min 2880 c.args.places.now
