use Rattle.std.proofs.Common.{rules, ◌≡◌, ℤ, ◌+◌, ◌≤◌, ◌∙◌, ap₂, sym, subst, arith, pos, length, nat_abs, slice_index_or, ◌*ℤ◌, to_z, of_z, w16, w32, FitsSigned}
use Rattle.std.specs.Int.Signed.{nat_abs-le}
use Rattle.std.proofs.lemmas.Int.{to_z-of_z, fits_signed_from_abs}
use Rattle.std.proofs.lemmas.List.Elements.{All-get_or}
use Rattle.finite.proofs.Integers.{product_within}
use Rattle.pss_search.proofs.products.product.Goals as goal

pub returns-clause-small : goal.returns-clause-small
returns-clause-small c =
    let x : ℤ = slice_index_or c.args.values.now (c.args.o + c.args.n) (pos 0) in
    let y : ℤ = slice_index_or c.args.signal.now c.args.n (pos 0) in
    let long : length c.args.signal.now ≡ 128 = search rules in
    let first : FitsSigned w16 (slice_index_or c.args.values.now (c.args.o + c.args.n) (pos 0)) = search rules in
    let second : FitsSigned w16 (slice_index_or c.args.signal.now c.args.n (pos 0)) = search rules in
    let a : nat_abs x ≤ 32768 = nat_abs-le x first.sfits in
    let b : nat_abs y ≤ 255 = All-get_or (λ z. nat_abs z ≤ 255) c.args.signal.now c.args.n (pos 0) (omega (arith, long, c.requires.n)) c.requires.signal in
    let p = product_within x y 32768 255 8355840 a b (omega arith) in
    let wide : FitsSigned w32 x = fits_signed_from_abs w32 x (omega (arith, a)) in
    let narrow : FitsSigned w32 y = fits_signed_from_abs w32 y (omega (arith, b)) in
    let fits : FitsSigned w32 (x *ℤ y) = fits_signed_from_abs w32 (x *ℤ y) (omega (arith, p)) in
    let same =
    ap₂ (λ (u v : ℤ). to_z w32 (of_z w32 (to_z w32 (of_z w32 u) *ℤ to_z w32 (of_z w32 v)))) (to_z-of_z w16 x first) (to_z-of_z w16 y second)
    ∙ ap₂ (λ (u v : ℤ). to_z w32 (of_z w32 (u *ℤ v))) (to_z-of_z w32 x wide) (to_z-of_z w32 y narrow)
    ∙ to_z-of_z w32 (x *ℤ y) fits in
    subst (λ z. nat_abs z ≤ 8355840) (sym same) p
