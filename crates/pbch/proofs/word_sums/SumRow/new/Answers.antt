use Rattle.std.proofs.Common.{sym, subst}
use Rattle.finite.specs.Sizes.{AllWithin}
use Rattle.pbch.proofs.Rows.{place_cut}
use Rattle.pbch.proofs.word_sums.SumRow.new.Goals as goal

pub invariant_of-result : goal.invariant_of-result
invariant_of-result c = subst (AllWithin 2032) (sym (place_cut c.args.place.now c.told-place c.requires)) c.requires

pub returns : goal.returns
returns c = place_cut c.args.place.now c.told-place c.requires
