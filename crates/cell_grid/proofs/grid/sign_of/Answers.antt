use Rattle.std.proofs.Common.{◌≡◌, ℕ, ◌<◌, ◌/◌, ◌%◌, List, get_or, ℤ, pos, false, nat_eq, arith, refl, ap, ◌∙◌}
use Rattle.std.proofs.lemmas.Bool.Decides.{nat_tests}
use Rattle.finite.proofs.Lists.{values_below_at}
use Rattle.lte_types.specs.declared.frame.Half.{Half}
use Rattle.lte_types.specs.declared.frame.Half.TheVariants.{Zero, Five}
use Rattle.sync_seq.specs.Secondary.{sss_at, sss_list}
use Rattle.sync_seq.proofs.SecondaryValues.{kept_sign, sss-size}
use Rattle.cell_grid.proofs.grid.sign_of.Goals as goal

sign_at_list : (signs : List ℤ) (n1 n2 : ℕ) (half : Half) (n : ℕ) → signs ≡ sss_list n1 n2 half → n < 62 → get_or signs n (pos 0) ≡ sss_at n1 n2 half n
unfolding sss_list
sign_at_list signs n1 n2 half n is inside = ap (λ list. get_or list n (pos 0)) is ∙ values_below_at (sss_at n1 n2 half) 62 n (pos 0) inside

pub returns-then-subframe-eq0 : goal.returns-then-subframe-eq0
returns-then-subframe-eq0 c =
    let identity : ℕ = c.args.signals.now.cell.now.identity in
    let e = sign_at_list c.args.signals.now.layout.now.zero (identity / 3) (identity % 3) Zero c.args.n c.args.signals.now.layout_is.zero c.requires in
    let kept = kept_sign (sss_at (identity / 3) (identity % 3) Zero c.args.n) (sss-size (identity / 3) (identity % 3) Zero c.args.n) in
    rw (e, kept, c.if-subframe-eq0.true) (record { value = refl; magnitude = sss-size (identity / 3) (identity % 3) Zero c.args.n })

pub returns-else-subframe-eq0 : goal.returns-else-subframe-eq0
returns-else-subframe-eq0 c =
    let identity : ℕ = c.args.signals.now.cell.now.identity in
    let e = sign_at_list c.args.signals.now.layout.now.five (identity / 3) (identity % 3) Five c.args.n c.args.signals.now.layout_is.five c.requires in
    let kept = kept_sign (sss_at (identity / 3) (identity % 3) Five c.args.n) (sss-size (identity / 3) (identity % 3) Five c.args.n) in
    let other : nat_eq c.args.subframe 0 ≡ false = grind (arith, nat_tests) in
    rw (e, kept, other) (record { value = refl; magnitude = sss-size (identity / 3) (identity % 3) Five c.args.n })
