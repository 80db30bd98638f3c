use Rattle.std.proofs.Common.{◌≡◌, ℕ, ℤ, ◌≤◌, ◌+ℤ◌, ◌∙◌, ap, ap₂, sym, subst, arith, nat_abs, to_z, of_z, w32, FitsSigned}
use Rattle.std.proofs.lemmas.Int.{to_z-of_z, fits_signed_from_abs}
use Rattle.finite.proofs.Integers.{abs-sum}
use Rattle.pss_search.specs.Products.{product_at, dot_of}
use Rattle.pss_search.proofs.Rows.{four_rows, four-small}
use Rattle.pss_search.proofs.products.dot.Goals as goal

module _ (c : goal.After-row_sum-4) where
  abbrev a : ℤ
  a = c.row_sum.result

  abbrev b : ℤ
  b = c.row_sum-2.result

  abbrev d : ℤ
  d = c.row_sum-3.result

  abbrev e : ℤ
  e = c.row_sum-4.result

  sum_kept : to_z w32 (of_z w32 (to_z w32 (of_z w32 (to_z w32 (of_z w32 (to_z w32 (of_z w32 a) +ℤ to_z w32 (of_z w32 b))) +ℤ to_z w32 (of_z w32 d))) +ℤ to_z w32 (of_z w32 e))) ≡ a +ℤ b +ℤ d +ℤ e
  sum_kept =
      let sa = c.row_sum.ensures.small in
      let sb = c.row_sum-2.ensures.small in
      let sd = c.row_sum-3.ensures.small in
      let se = c.row_sum-4.ensures.small in
      let ab = abs-sum a b in
      let abd = abs-sum (a +ℤ b) d in
      let fa : FitsSigned w32 a = fits_signed_from_abs w32 a (omega (arith, sa)) in
      let fb : FitsSigned w32 b = fits_signed_from_abs w32 b (omega (arith, sb)) in
      let fd : FitsSigned w32 d = fits_signed_from_abs w32 d (omega (arith, sd)) in
      let fe : FitsSigned w32 e = fits_signed_from_abs w32 e (omega (arith, se)) in
      let fab : FitsSigned w32 (a +ℤ b) = fits_signed_from_abs w32 _ (omega (arith, sa, sb, ab)) in
      let fabd : FitsSigned w32 (a +ℤ b +ℤ d) = fits_signed_from_abs w32 _ (omega (arith, sa, sb, sd, ab, abd)) in
      let all : FitsSigned w32 (a +ℤ b +ℤ d +ℤ e) = fits_signed_from_abs w32 _ (omega (arith, four-small a b d e sa sb sd se)) in
      simp to_z-of_z

pub returns-clause-value : goal.returns-clause-value
unfolding dot_of
returns-clause-value c =
    let f : ℕ → ℤ = product_at c.args.values.now c.args.o c.part_of-signal.result.now in
    sum_kept c
    ∙ ap₂ ◌+ℤ◌ (ap₂ ◌+ℤ◌ (ap₂ ◌+ℤ◌ c.row_sum.ensures.value c.row_sum-2.ensures.value) c.row_sum-3.ensures.value) c.row_sum-4.ensures.value
    ∙ four_rows f ∙ ap (dot_of c.args.values.now c.args.o) c.part_of-signal.ensures.value

pub returns-clause-small : goal.returns-clause-small
returns-clause-small c =
    subst (λ z. nat_abs z ≤ 1069547520) (sym (sum_kept c))
    (four-small (a c) (b c) (d c) (e c) c.row_sum.ensures.small c.row_sum-2.ensures.small c.row_sum-3.ensures.small c.row_sum-4.ensures.small)
