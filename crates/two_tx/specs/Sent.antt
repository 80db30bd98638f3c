-- The transmission at each of two antenna ports. (own)
use Rattle.std.specs.Prelude.{ℕ}
use Rattle.cs_num.specs.declared.Cpx.{Cpx}
use Rattle.lte_types.specs.declared.carrier.Carrier.TheVariants.{TwoPorts}
use Rattle.cell_plan.specs.declared.cell.CellPlan.{CellPlan}
use Rattle.cell_grid.specs.Ports.{port_by}
use Rattle.cell_grid.specs.Grid.{port_element}
use Rattle.cell_tx.specs.Sent.{sent}

-- sample `i` that port 0 or 1 transmits, from frame `sfn`
abbrev pub sent_at_port : ℕ → CellPlan → ℕ → ℕ → Cpx
sent_at_port port plan sfn i = sent (port_element (port_by TwoPorts port) plan) sfn i
