use Rattle.successive_cancel.proofs.making.+rounds_on.Given as goal

abbrev pub decreases-rounds_on : goal.decreases-rounds_on
decreases-rounds_on l = l.most
