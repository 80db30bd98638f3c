-- Plans that a cell with two antenna ports can send: the definitions for any transmission scheme, with two ports. (own)
use Rattle.std.specs.Prelude.{Option}
use Rattle.lte_types.specs.declared.carrier.Carrier.TheVariants.{TwoPorts}
use Rattle.cell_plan.specs.declared.cell.CellPlan.{CellPlan}
use Rattle.cell_plan.specs.declared.error.CellError.{CellError}
use Rattle.cell_plan.specs.Plan.{IsSendableBy, refusal_of}

-- the plan can be sent with two antenna ports
abbrev pub IsSendableOfTwo : CellPlan → Type 0
IsSendableOfTwo plan = IsSendableBy TwoPorts plan

-- the first failed condition of a plan for two antenna ports, or `None` if the plan can be sent
abbrev pub refusal_of_two : CellPlan → Option CellError
refusal_of_two plan = refusal_of TwoPorts plan
