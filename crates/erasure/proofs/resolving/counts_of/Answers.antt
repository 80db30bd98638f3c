use Rattle.std.proofs.Common.{arith, pos, take, replicate, ◌∙◌}
use Rattle.std.proofs.lemmas.List.{get_or-take, get_or-replicate, length-take-le, length-replicate}
use Rattle.erasure.proofs.Counts.{counts_are}
use Rattle.erasure.proofs.resolving.counts_of.Goals as goal

pub returns : goal.returns
returns c =
    let sent = c.args.sent in
    let long = length-replicate 5760 (pos 1) in
    counts_are c.args.row c.args.rv sent c.combine.result.d (take sent (replicate 5760 (pos 1))) c.requires.row
    (length-take-le sent (replicate 5760 (pos 1)) (omega (arith, long, c.requires.sent)))
    (λ i below. get_or-take sent (replicate 5760 (pos 1)) i (pos 0) below ∙ get_or-replicate 5760 i (pos 1) (pos 0) (omega (arith, below, c.requires.sent)))
    c.combine.ensures.d
