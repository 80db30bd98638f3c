-- A receiver of two antenna ports hears each cell to which the recording is faithful, whatever else its ports send.
use Rattle.std.proofs.Common.{ℕ, ◌*◌, ◌%◌, ◌≤◌, List, Bool, false, inl, inr, arith, refl, subst}
use Rattle.cs_num.specs.Complex.{value_at}
use Rattle.lte_types.specs.declared.carrier.Carrier.TheVariants.{TwoPorts}
use Rattle.lte_types.specs.Timing.{number_at_start}
use Rattle.grid_map.specs.Scrambling.{pbch_c_init}
use Rattle.cell_grid.specs.Ports.{first_port}
use Rattle.explain.specs.System.{even_frame}
use Rattle.soft_bits.specs.Pairs.{over_two, paired_by}
use Rattle.clean_air.specs.Carried.{SpeakOfWord}
use Rattle.clean_air.specs.Clean.{HoldsCells}
use Rattle.clean_air.specs.Heard.{sent_place}
use Rattle.clean_air.specs.HeardLaws.{FaithfulIsHeard}
use Rattle.clean_air.proofs.Held.{HearsCells, number_fits, heard_are_held}
use Rattle.clean_air.proofs.HeldCells.{faithful_master_is_heard}
use Rattle.clean_air.proofs.SentBlock.{same_word}
use Rattle.clean_air.proofs.NearestWords.{nearest_system_is_read}
use Rattle.clean_air.proofs.SpokenSystem.{heard_system_is_read, read_system_is_answer}
use Rattle.two_ports.specs.Entries.{two_ports_receiver}
use Rattle.two_ports.proofs.Master.{word_speaks}
use Rattle.two_ports.proofs.ReceivedPairs.{received_pair_speaks}
use Rattle.two_ports.proofs.SentSystem.{system_heard}
use Rattle.two_ports.proofs.Slots.{faithful_pairs_speak}

pub faithful_cell_is_heard : FaithfulIsHeard two_ports_receiver
faithful_cell_is_heard recording plan grids sfn offset gains sendable faithful =
    let number : ℕ = number_at_start sfn offset in
    let fits : number ≤ 1023 = number_fits sfn offset faithful.number faithful.within in
    let speak = faithful_pairs_speak false recording plan grids sfn offset gains faithful (received_pair_speaks (value_at gains)) in
    record {
      master = faithful_master_is_heard two_ports_receiver recording plan grids sfn offset gains sendable.identity faithful
          (subst (λ (word : List Bool). SpeakOfWord (pbch_c_init plan.identity) (480 * (number % 4)) word (two_ports_receiver.broadcast recording (sent_place plan.identity offset) 0))
          (same_word first_port plan number)
          (word_speaks false recording plan grids sfn offset faithful.carries (speak 0 1 (omega arith) (λ l start. inl (omega arith, refl))) fits sendable.spare));
      system = system_heard recording plan grids sfn offset sendable faithful.carries
          (λ s half. speak (even_frame (number_at_start sfn offset) 0) s (omega (arith, half)) (λ l start. inr (inl (omega arith, half))));
    }

hears_cells : HearsCells two_ports_receiver
hears_cells = record {
  single = omega arith;
  taken = refl;
  answer = read_system_is_answer TwoPorts (paired_by over_two);
  heard = heard_system_is_read TwoPorts refl (paired_by over_two);
  nearest = nearest_system_is_read TwoPorts (paired_by over_two);
  through = λ recording plan grids sfn offset sendable through. absurd through;
  faithful = faithful_cell_is_heard;
}

-- the list contains each such cell
pub holds_cells : HoldsCells two_ports_receiver
holds_cells = heard_are_held two_ports_receiver hears_cells
