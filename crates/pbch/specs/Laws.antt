-- Laws of MIB decoding.
use Rattle.std.specs.Prelude.{◌≡◌, List, ℤ}
use Rattle.pbch.specs.declared.master.Master.{Master}
use Rattle.pbch.specs.Master.{DecodesMaster}

-- two decoded MIBs have equal antenna port counts, costs and fields
pub record IsSame (a b : Master) : Type 0 where
  pub ports : a.ports ≡ b.ports
  pub cost : a.cost ≡ b.cost
  pub bandwidth : a.mib.bandwidth ≡ b.mib.bandwidth
  pub duration : a.mib.duration ≡ b.mib.duration
  pub resource : a.mib.resource ≡ b.mib.resource
  pub upper : a.mib.upper ≡ b.mib.upper
  pub spare : a.mib.spare ≡ b.mib.spare

-- any combined soft values decode to at most one MIB
abbrev pub IsOneMaster : Type 0
IsOneMaster = (values : List (List ℤ)) (a b : Master) → DecodesMaster values a → DecodesMaster values b → IsSame a b
