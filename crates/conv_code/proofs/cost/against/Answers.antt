use Rattle.std.proofs.Common.{◌≡◌, ℕ, pos, get_or, ap, ◌∙◌, arith, false}
use mir.Val.{to_z, of_z}
use mir.Syntax.{w32}
use Rattle.std.proofs.lemmas.Int.{to_z-of_z, fits_signed_from_abs}
use Rattle.finite.proofs.Items.{item-within}
use Rattle.cs_bits.specs.Signs.{disagreement}
use Rattle.conv_code.proofs.Costs.{triple_cost-le}
use Rattle.conv_code.proofs.cost.against.Goals as goal

pub returns-clause-bound : goal.returns-clause-bound
returns-clause-bound c n small =
    let values = c.args.values.now in
    let bits = c.args.bits.now in
    let kept : (t : ℕ) → to_z w32 (of_z w32 (get_or values t (pos 0))) ≡ get_or values t (pos 0) =
    λ t. to_z-of_z w32 (get_or values t (pos 0)) (fits_signed_from_abs w32 _ (let few = item-within 1048576 values t c.requires in omega (arith, few))) in
    let h = triple_cost-le n values (get_or bits 0 false) (get_or bits 1 false) (get_or bits 2 false) small in
    let first = c.disagreement_of.ensures ∙ ap (λ z. disagreement z (get_or bits 0 false)) (kept 0) in
    let second = c.disagreement_of-2.ensures ∙ ap (λ z. disagreement z (get_or bits 1 false)) (kept 1) in
    let third = c.disagreement_of-3.ensures ∙ ap (λ z. disagreement z (get_or bits 2 false)) (kept 2) in
    omega (arith, h, first, second, third)
