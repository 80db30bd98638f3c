use Rattle.std.proofs.Common.{sym, subst}
use Rattle.finite.specs.Sizes.{AllWithin}
use Rattle.pss_search.proofs.SignalTables.{re_25, im_25, re_29, im_29}
use Rattle.pss_search.proofs.Symmetry.{part_is, wave_part-small}
use Rattle.pss_search.proofs.signals.part_of.Goals as goal

pub returns-clause-value : goal.returns-clause-value
unfolding re_25 im_25 re_29 im_29
returns-clause-value c = part_is c.args.part c.requires

pub returns-clause-small : goal.returns-clause-small
unfolding re_25 im_25 re_29 im_29
returns-clause-small c = subst (AllWithin 255) (sym (part_is c.args.part c.requires)) (wave_part-small c.args.part)
