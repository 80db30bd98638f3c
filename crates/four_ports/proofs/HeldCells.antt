-- A receiver of four antenna ports hears each cell to which the recording is faithful, whatever else its ports send.
use Rattle.std.proofs.Common.{ℕ, ◌*◌, ◌%◌, ◌≤◌, List, Bool, true, inl, arith, refl, subst}
use Rattle.cs_num.specs.Complex.{value_at}
use Rattle.lte_types.specs.Timing.{number_at_start}
use Rattle.cell_grid.specs.Ports.{port_of_four}
use Rattle.clean_air.specs.Carried.{SpeakOfWord}
use Rattle.clean_air.specs.Clean.{HoldsCells}
use Rattle.clean_air.specs.Heard.{sent_place}
use Rattle.clean_air.specs.HeardLaws.{FaithfulIsHeard}
use Rattle.clean_air.proofs.Held.{HearsCells, number_fits, heard_are_held}
use Rattle.clean_air.proofs.HeldCells.{faithful_master_is_heard}
use Rattle.clean_air.proofs.SentBlock.{same_word}
use Rattle.two_ports.proofs.Master.{word_speaks}
use Rattle.two_ports.proofs.Slots.{faithful_pairs_speak}
use Rattle.four_ports.specs.Entries.{four_ports_receiver}
use Rattle.four_ports.proofs.Values.{received_pair_speaks}

pub faithful_cell_is_heard : FaithfulIsHeard four_ports_receiver
faithful_cell_is_heard recording plan grids sfn offset gains known faithful =
    let number : ℕ = number_at_start sfn offset in
    let fits : number ≤ 1023 = number_fits sfn offset faithful.number faithful.within in
    record {
      master = faithful_master_is_heard four_ports_receiver recording plan grids sfn offset gains known.identity faithful
          (subst (λ (word : List Bool). SpeakOfWord plan.identity (480 * (number % 4)) word (four_ports_receiver.broadcast recording (sent_place plan.identity offset) 0))
          (same_word (port_of_four 0) plan number)
          (word_speaks true recording plan grids sfn offset faithful.carries
          (faithful_pairs_speak true recording plan grids sfn offset gains faithful (received_pair_speaks (value_at gains) faithful.gains_are.paired) 0 1 (omega arith) (λ l start. inl (omega arith, refl)))
          fits known.spare));
      system = tt;
    }

hears_cells : HearsCells four_ports_receiver
hears_cells = record {
  single = omega arith;
  taken = refl;
  answer = λ recording plan place number long early known read. refl;
  heard = λ recording plan sfn offset known heard. tt;
  nearest = λ recording plan place number known near. tt;
  through = λ recording plan grids sfn offset known through. absurd through;
  faithful = faithful_cell_is_heard;
}

-- the list contains each such cell
pub holds_cells : HoldsCells four_ports_receiver
holds_cells = heard_are_held four_ports_receiver hears_cells
