use Rattle.halving.proofs.wide.copied.Goals as goal

pub returns : goal.returns
returns c = c.in_ok-copy.ensures.items_if_clones_equal (λ x y same. same)
