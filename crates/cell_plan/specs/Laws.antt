-- Laws on the plans that can be sent, and on gains.
use Rattle.std.specs.Prelude.{◌≡◌, ◌↔◌, ◌/◌, ◌≤◌, true, List, None, IsSome}
use Rattle.cs_num.specs.declared.Cpx.{Cpx}
use Rattle.cs_num.specs.Complex.{square, value_at}
use Rattle.lte_types.specs.declared.carrier.Carrier.{Carrier}
use Rattle.lte_types.specs.Carrier.{ports_of}
use Rattle.lte_types.specs.Ranges.{IsValid}
use Rattle.dci.specs.Sizes.{size_of}
use Rattle.cell_plan.specs.declared.cell.CellPlan.{CellPlan}
use Rattle.cell_plan.specs.Transport.{is_whole, is_resolvable}
use Rattle.cell_plan.specs.Gains.{AreGainsOf, power_of}
use Rattle.cell_plan.specs.Plan.{IsSendable, IsSendableBy, refusal_of}

-- a law: a transmission scheme can send exactly the plans that have a valid SIB1 and fail no condition
abbrev pub AcceptedAreSendable : Type 0
AcceptedAreSendable =
    (carrier : Carrier) (plan : CellPlan) →
    (IsValid plan.sib1 × (refusal_of carrier plan ≡ None)) ↔ IsSendableBy carrier plan

-- a law: a plan that any transmission scheme can send can also be sent with one antenna port
abbrev pub OnePortSendsAll : Type 0
OnePortSendsAll = (carrier : Carrier) (plan : CellPlan) → IsSendableBy carrier plan → IsSendable plan

-- a law: a transport block is resolved if each of its coded bits is sent, whatever SIB1 it carries
abbrev pub WholeBlocksAreResolvable : Type 0
WholeBlocksAreResolvable =
    (plan : CellPlan) → IsSome (size_of plan.mcs plan.column) → is_whole plan ≡ true → is_resolvable plan ≡ true

-- a law: for any port count, gains are a clean recording's exactly if port 0's gain is not 0 and the power is at most
-- 784 divided by the port count
abbrev pub GainsAreTogether : Type 0
GainsAreTogether =
    (carrier : Carrier) (gains : List Cpx) →
    AreGainsOf carrier gains ↔
    ((1 ≤ square (value_at gains 0)) × (power_of carrier gains ≤ 784 / ports_of carrier))
