use Rattle.std.proofs.Common.{◌≡◌, ℕ, List, Bool, refl, ◌∙◌}
use Rattle.finite.proofs.Lists.{values_below_same}
use Rattle.turbo_code.specs.Reading.{bit_of, item_of}
use Rattle.cell_plan.specs.declared.cell.CellPlan.{CellPlan}
use Rattle.cell_plan.specs.Transport.{checked_size, shared_coded}
use Rattle.cell_grid.specs.Control.{version_of}
use Rattle.cell_grid.specs.Shared.{shared_bit}
use Rattle.cell_grid.proofs.shared.shared_bits.Goals as goal

bit_is : (plan : CellPlan) (sfn i k version : ℕ) (d : List (List Bool)) → d ≡ shared_coded plan → k ≡ checked_size plan → version ≡ version_of sfn → bit_of d (item_of k version i) ≡ shared_bit plan sfn i
bit_is plan sfn i k version d e f g = rw (e, f, g) refl

pub returns : goal.returns
returns c =
    c.match_all.ensures
    ∙ values_below_same 1224 _ (shared_bit c.args.cell.now c.args.sfn)
    (λ i inside. bit_is c.args.cell.now c.args.sfn i _ _ _ c.coded.ensures.d c.coded.ensures.k c.version_of.ensures.value)
