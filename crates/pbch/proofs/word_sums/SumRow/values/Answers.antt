use Rattle.std.proofs.Common.{◌∙◌, sym, subst}
use Rattle.finite.specs.Sizes.{AllWithin}
use Rattle.pbch.proofs.Rows.{place_wide}
use Rattle.pbch.proofs.word_sums.SumRow.values.Goals as goal

pub returns-clause-values : goal.returns-clause-values
returns-clause-values c = place_wide c.self.inside.sums c.self.told c.self.invariant ∙ c.self.view_is

pub returns-clause-magnitudes : goal.returns-clause-magnitudes
returns-clause-magnitudes c = subst (AllWithin 2032) (sym (place_wide c.self.inside.sums c.self.told c.self.invariant)) c.self.invariant
