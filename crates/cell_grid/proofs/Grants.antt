-- The system information grant in a plan that can be sent.
use Rattle.std.proofs.Common.{ℕ, zero, suc, ◌/◌, ◌%◌, ◌<◌, [], ◌∷◌, arith}
use Rattle.std.specs.Prelude.{slice_index_or}
use Rattle.dci.specs.Format1A.{IsGrant}
use Rattle.cell_plan.specs.declared.cell.CellPlan.{CellPlan}
use Rattle.cell_plan.specs.Transport.{block_size}
use Rattle.cell_plan.specs.Plan.{IsSendableWith}
use Rattle.cell_plan.proofs.BlockRows.{mcs_small}
use Rattle.cell_plan.proofs.SystemWords.{sized}
use Rattle.cell_grid.specs.Control.{version_of, grant_of}

turn : (n : ℕ) → n < 4 → slice_index_or (0 ∷ 2 ∷ 3 ∷ 1 ∷ []) n 0 < 4
turn zero l = omega arith
turn (suc zero) l = omega arith
turn (suc (suc zero)) l = omega arith
turn (suc (suc (suc zero))) l = omega arith
turn (suc (suc (suc (suc n)))) l = absurd (omega (arith, l))

-- there are four redundancy versions
pub version-fits : (number : ℕ) → version_of number < 4
version-fits number = turn (number % 8 / 2) (omega arith)

-- a plan that can be sent, for any condition on its block's transmitted bits
module _ {Enough : Type 0} (plan : CellPlan) (sendable : IsSendableWith Enough plan) where
  -- the grant is valid in each frame
  pub grant_is : (number : ℕ) → IsGrant (grant_of plan number)
  grant_is number = record {
    blocks = sendable.assignment;
    mcs_valid = mcs_small plan.mcs plan.column (block_size plan) (sized plan sendable);
    rv_valid = let fits = version-fits number in omega (arith, fits);
    column_valid = sendable.column;
    size_is = sized plan sendable;
  }
