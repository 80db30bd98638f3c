use Rattle.std.proofs.Common.{arith, ℤ, pos, to_z, of_z, w64, ◌≡◌, ◌≤◌, ◌∙◌, ap}
use Rattle.std.specs.Prelude.{nat_abs}
use Rattle.std.proofs.lemmas.Int.{ints}
use Rattle.finite.proofs.Lists.{values_below_at}
use Rattle.fold128.specs.Tables.{quarter, cosine}
use Rattle.fold128.proofs.Entries.{cosine_small}
use Rattle.fold128.proofs.tables.cosine_of.Goals as goal

kept : (x : ℤ) → nat_abs x ≤ 16384 → to_z w64 (of_z w64 x) ≡ x
kept x h = omega (arith, ints)

-- by computation: the table lists C below 224
pub returns : goal.returns
unfolding quarter cosine
returns c =
    ap (λ (x : ℤ). to_z w64 (of_z w64 x)) (values_below_at cosine 224 c.args.m (pos 0) c.requires)
    ∙ kept (cosine c.args.m) (cosine_small c.args.m)
