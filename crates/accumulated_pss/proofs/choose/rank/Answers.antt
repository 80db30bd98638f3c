use Rattle.std.proofs.Common.{◌∙◌, ap, arith, filter, length, take_all}
use Rattle.accumulated_pss.specs.Maxima.{precedes}
use Rattle.accumulated_pss.proofs.choose.rank.Goals as goal

pub returns : goal.returns
returns c =
    let maxima = c.args.maxima.now in
    c.loop-k.invariant.count ∙ ap (λ us. length (filter (λ u. precedes c.args.row.now u c.args.t) us)) (take_all c.loop-k.k maxima (omega arith))
