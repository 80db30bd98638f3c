-- The antenna ports that transmit simultaneously, and the sum that is received from them. (own)
use Rattle.std.specs.Prelude.{◌≤◌, List}
use Rattle.std.proofs.Props.{props}
use Rattle.cs_num.specs.declared.Cpx.{Cpx}
use Rattle.cs_num.specs.Complex.{square, times, value_at}
use Rattle.lte_types.specs.declared.carrier.Carrier.{Carrier}
use Rattle.cell_plan.specs.Gains.{AreGainsOf, are_gains_prop}
use Rattle.cell_grid.specs.declared.antenna.Port.{Port}
use Rattle.cell_tx.specs.declared.source.Ports.{Ports}
use Rattle.cell_tx.specs.declared.source.Ports.TheVariants.{Alone, All}
use Rattle.cell_tx.specs.Emission.{mixed}

-- the transmission scheme of the ports
abbrev pub carrier_by : Ports → Carrier
carrier_by (Alone port) = port.carrier
carrier_by (All carrier) = carrier

-- the sum of the ports' values, each times its complex gain
abbrev pub mixed_by : Ports → (Port → Cpx) → List Cpx → Cpx
mixed_by (Alone port) values gains = times (value_at gains 0) (values port)
mixed_by (All carrier) values gains = mixed carrier values gains

-- gains for which the received sum fits 16 bits: a power of at most 784 for a single port, and `AreGainsOf` for all
-- ports
abbrev pub AreGainsBy : Ports → List Cpx → Type 0
AreGainsBy (Alone port) gains = square (value_at gains 0) ≤ 784
AreGainsBy (All carrier) gains = AreGainsOf carrier gains

-- a law: `AreGainsBy` is a proposition (any two proofs are equal)
pub gains_by_prop : (ports : Ports) (gains : List Cpx) → IsProp (AreGainsBy ports gains)
gains_by_prop (Alone port) gains = hlevel props
gains_by_prop (All carrier) gains = are_gains_prop carrier gains
