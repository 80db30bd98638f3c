use Rattle.std.proofs.Common.{refl}
use Rattle.std.proofs.lemmas.Bool.{ne_eqb}
use Rattle.crs.specs.Reference.{is_upper_reference}
use Rattle.wide_grid.proofs.pdsch.has_upper_of.Goals as goal

pub returns-then-place-eq1 : goal.returns-then-place-eq1
unfolding is_upper_reference
returns-then-place-eq1 c = rw (c.if-place-eq1.true, c.first_of_upper.ensures.value, c.id.ensures.value) refl

pub returns-else-place-eq1 : goal.returns-else-place-eq1
unfolding is_upper_reference
returns-else-place-eq1 c = rw (ne_eqb _ _ c.if-place-eq1.false) refl
