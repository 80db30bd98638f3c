use Rattle.std.proofs.Common.{arith, ◌∙◌, ◌*◌, ◌≤◌, List, ℤ, ap, sym, subst, length}
use Rattle.finite.specs.Sizes.{AllWithin}
use Rattle.wide_cell.specs.Cell.{Cell}
use Rattle.wide_slot.proofs.Magnitudes.{placed-small, placed-few, placed_single, placed_pairs}
use Rattle.wide_slot.proofs.places.soft_values.Goals as goal

pub returns-in_ok-values-clause-values : goal.returns-in_ok-values-clause-values
returns-in_ok-values-clause-values c =
    let ports = c.ports.ensures.value ∙ ap (λ (cell : Cell). cell.ports) c.cell.ensures in
    c.in_ok-values.ensures ∙ placed_single c.args.first.now c.args.second.now c.args.places.now (omega (arith, ports))

pub returns-in_ok-values-clause-magnitudes : goal.returns-in_ok-values-clause-magnitudes
returns-in_ok-values-clause-magnitudes c =
    subst (AllWithin 127) (sym (returns-in_ok-values-clause-values c)) (placed-small c.args.first.now c.args.second.now c.args.places.now)

pub returns-in_ok-values-clause-few : goal.returns-in_ok-values-clause-few
returns-in_ok-values-clause-few c =
    subst (λ (values : List ℤ). length values ≤ 2 * length c.args.places.now) (sym (returns-in_ok-values-clause-values c))
    (placed-few c.args.first.now c.args.second.now c.args.places.now)

pub returns-in_ok-values-2-clause-values : goal.returns-in_ok-values-2-clause-values
returns-in_ok-values-2-clause-values c =
    let ports = c.ports.ensures.value ∙ ap (λ (cell : Cell). cell.ports) c.cell.ensures in
    c.in_ok-values-2.ensures ∙ placed_pairs c.args.first.now c.args.second.now c.args.places.now (λ one. absurd (omega (arith, ports, one)))

pub returns-in_ok-values-2-clause-magnitudes : goal.returns-in_ok-values-2-clause-magnitudes
returns-in_ok-values-2-clause-magnitudes c =
    subst (AllWithin 127) (sym (returns-in_ok-values-2-clause-values c)) (placed-small c.args.first.now c.args.second.now c.args.places.now)

pub returns-in_ok-values-2-clause-few : goal.returns-in_ok-values-2-clause-few
returns-in_ok-values-2-clause-few c =
    subst (λ (values : List ℤ). length values ≤ 2 * length c.args.places.now) (sym (returns-in_ok-values-2-clause-values c))
    (placed-few c.args.first.now c.args.second.now c.args.places.now)
