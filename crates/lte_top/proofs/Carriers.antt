-- The receiver for each transmission scheme, and the cells that its list holds.
use Rattle.std.proofs.Common.{◌≡◌, ℕ, Option, List, refl, sym, subst}
use Rattle.cs_num.specs.declared.Cpx.{Cpx}
use Rattle.cs_num.specs.declared.Sample.{Sample}
use Rattle.lte_types.specs.declared.carrier.Carrier.{Carrier}
use Rattle.lte_types.specs.declared.carrier.Carrier.TheVariants.{OnePort, TwoPorts, LongPrefix, FourPorts}
use Rattle.lte_types.specs.declared.entry.Entry.{Entry}
use Rattle.lte_types.specs.Timing.{start_of, number_at_start}
use Rattle.halving.specs.Wide.{Wide, narrowed}
use Rattle.wide_list.specs.List.{IsWideListFor}
use Rattle.sample_file.specs.Recording.{IsRecording}
use Rattle.explain.specs.Entries.{IsListFor}
use Rattle.cell_plan.specs.declared.cell.CellPlan.{CellPlan}
use Rattle.cell_tx.specs.Emission.{IsCleanBy}
use Rattle.cell_plan.specs.Plan.{IsSendableBy}
use Rattle.clean_air.specs.Clean.{HoldsCleanBy, HoldsCellBy, HoldsCells}
use Rattle.clean_air.proofs.Held.{is_list_by, sendable_is_known}
use Rattle.clean_air.proofs.HeldCells.{holds_cells as holds_of_one}
use Rattle.two_ports.proofs.HeldCells.{holds_cells as holds_of_two}
use Rattle.long_prefix.proofs.HeldLong.{holds_cells as holds_of_long}
use Rattle.four_ports.proofs.HeldCells.{holds_cells as holds_of_four}
use Rattle.evidence.specs.Receivers.{receiver_of}
use Rattle.lte_top.specs.Searching.{IsListOf, IsWideListOf}

-- the receiver's transmission scheme is the one it was chosen for
pub of_carrier : (carrier : Carrier) → carrier ≡ (receiver_of carrier).carrier
of_carrier OnePort = refl
of_carrier TwoPorts = refl
of_carrier LongPrefix = refl
of_carrier FourPorts = refl

holds_cells : (carrier : Carrier) → HoldsCells (receiver_of carrier)
holds_cells OnePort = holds_of_one
holds_cells TwoPorts = holds_of_two
holds_cells LongPrefix = holds_of_long
holds_cells FourPorts = holds_of_four

-- the receiver's list holds every cell that the recording carries faithfully or clean
pub list_holds : (carrier : Carrier) (samples : List Sample) (list : List Entry) → IsRecording samples → IsListFor (receiver_of carrier) samples list → IsListOf carrier samples list
list_holds carrier samples list valid explained = is_list_by (receiver_of carrier) (holds_cells carrier) samples list valid.least explained

-- the list of a wide recording, with all that holds for the list of its samples at 1.92 million per second
pub wide_list_holds : (carrier : Carrier) (wide : Wide) (list : List Entry) → IsRecording (narrowed wide) → IsWideListFor (receiver_of carrier) wide list → IsWideListOf carrier wide list
wide_list_holds carrier wide list valid is = record { is_list = is; narrow = list_holds carrier (narrowed wide) is.narrow valid is.listed }

-- the list holds a clean cell that the transmission scheme can send
pub held : (carrier : Carrier) (load : Option ℕ) (plan : CellPlan) (sfn offset : ℕ) (gains : List Cpx) (eps : ℕ) (samples : List Sample) (list : List Entry) → IsSendableBy carrier plan →
    IsCleanBy carrier load samples plan sfn offset gains eps → IsListOf carrier samples list → HoldsCellBy carrier list plan (start_of offset) (number_at_start sfn offset)
held carrier load plan sfn offset gains eps samples list sendable clean l =
    subst (λ c. HoldsCleanBy c samples list) (sym (of_carrier carrier)) l.holds load plan sfn offset gains eps (sendable_is_known carrier plan sendable) clean
