-- A recording that is faithful to a cell shows it to a receiver for the extended cyclic prefix.
use Rattle.std.proofs.Common.{◌≡◌, ℕ, ◌*◌, ◌%◌, arith, refl, sym, subst, Bool, List, [], ◌∷◌, get_or, None, Err}
use Rattle.std.specs.Prelude.{All}
use Rattle.std.proofs.lemmas.List.Elements.{Contains-get_or}
use Rattle.cs_num.specs.declared.Cpx.{Cpx}
use Rattle.cs_num.specs.declared.Sample.{Sample}
use Rattle.lte_types.specs.declared.carrier.Carrier.TheVariants.{LongPrefix as LongCarrier}
use Rattle.lte_types.specs.declared.entry.Entry.{Entry}
use Rattle.lte_types.specs.declared.sib1_reason.Sib1Reason.TheVariants.{LongPrefix}
use Rattle.lte_types.specs.Numerology.{extended, useful_start}
use Rattle.lte_types.specs.Timing.{start_of, number_at_start}
use Rattle.grid_map.specs.Scrambling.{pbch_c_init}
use Rattle.crs.specs.Reference.{long_prefix}
use Rattle.soft_bits.specs.Soft.{SeenSlot}
use Rattle.budget.proofs.Seen.{amplitude_is_seen_in_recording}
use Rattle.cell_grid.specs.Ports.{long_port}
use Rattle.cell_grid.specs.Block.{port_word, port_bit, port_point}
use Rattle.cell_tx.specs.Clean.{IsCleanOf}
use Rattle.capture_make.specs.Recipe.{plan as plan_of_number}
use Rattle.explain.specs.Frame.{frame_at}
use Rattle.explain.proofs.Listed.{is_sound}
use Rattle.explain.proofs.OneFrame.{one_frame_alone}
use Rattle.clean_air.specs.Clean.{HoldsCleanBy, HoldsCells}
use Rattle.clean_air.specs.Carried.{SpeakOfWord}
use Rattle.clean_air.specs.HeardLaws.{FaithfulIsHeard}
use Rattle.clean_air.proofs.Held.{HearsCells, number_fits, heard_are_held}
use Rattle.clean_air.proofs.HeldCells.{faithful_master_is_heard}
use Rattle.clean_air.proofs.SoftValues.{pattern_place_seen, pattern_pilots_seen}
use Rattle.clean_air.proofs.SentBlock.{is_block, same_word}
use Rattle.clean_air.proofs.Speaking.{heard_bits_speak}
use Rattle.long_prefix.specs.Entries.{long_slot, long_values, long_prefix_receiver, IsExplainedOfLong}
use Rattle.long_prefix.specs.Clean.{HoldsPlans}
use Rattle.long_prefix.proofs.SentPlan.{same_sent, cell_with, has_plan}
use Rattle.long_prefix.proofs.SentSignals.{slot_row, points_stand, slot_received}
use Rattle.long_prefix.proofs.Decoded.{values_heard}

pub faithful_cell_is_heard : FaithfulIsHeard long_prefix_receiver
unfolding long_slot port_point port_bit
faithful_cell_is_heard recording plan grids sfn offset gains known faithful =
    let number : ℕ = number_at_start sfn offset in
    -- the slot of the cell's first frame that carries the broadcast channel
    let slot : SeenSlot = long_slot recording plan.identity (start_of offset) 0 in
    let size = (is_block long_port plan number known.spare (number_fits sfn offset faithful.number faithful.within)).size in
    let starts : ℕ → ℕ = useful_start extended (frame_at (start_of offset) 0) 1 in
    let rows : ℕ → ℕ → Cpx = slot_row (grids long_port) number in
    let received = slot_received recording plan grids sfn offset gains faithful in
    record {
      master = faithful_master_is_heard long_prefix_receiver recording plan grids sfn offset gains known.identity faithful
          (subst (λ (word : List Bool). SpeakOfWord (pbch_c_init plan.identity) (432 * (number % 4)) word (long_values slot)) (same_word long_port plan number)
          (heard_bits_speak 1 432 (pbch_c_init plan.identity) (432 * (number % 4)) (port_word long_port plan number) (long_values slot) (omega arith) (omega (arith, size))
          (values_heard received.gain rows slot (pattern_pilots_seen 1800 2316 amplitude_is_seen_in_recording long_prefix 6 recording starts rows slot received (omega arith))
          (pattern_place_seen 1800 2316 amplitude_is_seen_in_recording long_prefix 6 recording starts rows slot received) (port_bit long_port plan number)
          (points_stand plan (grids long_port) (faithful.carries long_port (refl, omega arith)) number))));
      system = tt;
    }

hears_cells : HearsCells long_prefix_receiver
hears_cells = record {
  single = omega arith;
  taken = refl;
  answer = λ recording plan place number long early known read. refl;
  heard = λ recording plan sfn offset known heard. tt;
  nearest = λ recording plan place number known near. tt;
  through = λ recording plan grids sfn offset known through. absurd through;
  faithful = faithful_cell_is_heard;
}

-- the list contains each such cell
pub holds_cells : HoldsCells long_prefix_receiver
holds_cells = heard_are_held long_prefix_receiver hears_cells

-- the list contains each plan for which the recording is clean
pub holds_plans : (recording : List Sample) (list : List Entry) → HoldsCleanBy LongCarrier recording list → HoldsPlans recording list
holds_plans recording list holds plan sfn offset gain eps known clean =
    let cell = cell_with plan in
    let samples = subst (λ (sequence : ℕ → Cpx). IsCleanOf sequence recording offset gain eps) (sym (same_sent cell plan (has_plan (plan_of_number 0) plan) sfn)) clean.samples in
    holds None cell sfn offset (gain ∷ []) eps (record { identity = known.identity; spare = known.spare })
    (record { number = clean.number; within = samples.within; gains_are = samples.range; bound = samples.bound; near = samples.near })

-- each entry in the list was read from one frame
pub frames_are_single : (recording : List Sample) (list : List Entry) → IsExplainedOfLong recording list → All (λ entry. entry.frames ≡ 1) list
frames_are_single recording list explained k d inside =
    let entry = get_or list k d in
    let known = is_sound long_prefix_receiver recording list entry explained (Contains-get_or list k d inside) in
    (one_frame_alone long_prefix_receiver recording known.hit entry refl known.is_of).one

-- each entry in the list has the reason `LongPrefix`
pub reasons_are_long : (recording : List Sample) (list : List Entry) → IsExplainedOfLong recording list → All (λ entry. entry.sib1 ≡ Err LongPrefix) list
reasons_are_long recording list explained k d inside =
    (is_sound long_prefix_receiver recording list (get_or list k d) explained (Contains-get_or list k d inside)).is_of.sib1
