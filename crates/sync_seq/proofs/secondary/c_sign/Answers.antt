use Rattle.std.proofs.Common.{◌≡◌, ℤ, pos, to_z, of_z, ◌∙◌, ap, sym, subst}
use Rattle.std.specs.Prelude.{nat_abs}
use Rattle.std.specs.Int.{w8}
use Rattle.finite.proofs.Lists.{values_below_at}
use Rattle.sync_seq.specs.Secondary.{C, extended, period_bits, sign_at}
use Rattle.sync_seq.proofs.SecondaryValues.{kept_sign, sign-size}
use Rattle.sync_seq.proofs.secondary.c_sign.Goals as goal

-- by computation: the table lists the signs below 62
pub returns-clause-value : goal.returns-clause-value
unfolding period_bits extended
returns-clause-value c =
    ap (λ (x : ℤ). to_z w8 (of_z w8 x)) (values_below_at (sign_at (period_bits C)) 62 c.args.n (pos 0) c.requires)
    ∙ kept_sign (sign_at (period_bits C) c.args.n) (sign-size (period_bits C) c.args.n)

pub returns-clause-small : goal.returns-clause-small
returns-clause-small c = subst (λ x. nat_abs x ≡ 1) (sym (returns-clause-value c)) (sign-size (period_bits C) c.args.n)
