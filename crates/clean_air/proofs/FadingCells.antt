-- A cell with a slowly varying gain is received through channels: each slot that is read, through its symbols' gains.
use Rattle.std.proofs.Common.{◌≡◌, ℕ, ◌+◌, ◌-◌, ◌*◌, ◌/◌, ◌%◌, ◌<◌, ◌≤◌, List, [], ◌∷◌, inl, inr, arith, refl, ℤ, pos, ◌-ℤ◌}
use Rattle.std.proofs.lemmas.Int.{ints}
use Rattle.cs_num.specs.declared.Cpx.{Cpx}
use Rattle.cs_num.specs.declared.Sample.{Sample}
use Rattle.cs_num.specs.Complex.{square, minus, value_at}
use Rattle.lte_types.specs.declared.carrier.Carrier.TheVariants.{OnePort}
use Rattle.lte_types.specs.declared.frame.Half.{Half}
use Rattle.lte_types.specs.Numerology.{normal, useful_start, symbol_step, subframe_of}
use Rattle.lte_types.specs.Timing.{start_of, number_at_start}
use Rattle.pss_search.specs.Correlation.{pss_grid}
use Rattle.explain.specs.Frame.{frame_at, seen_slot}
use Rattle.explain.specs.System.{even_frame}
use Rattle.budget.specs.Received.{IsReceived, samples_from}
use Rattle.budget.specs.Peak.{IsPrimaryAt}
use Rattle.budget.specs.Score.{sss_grid, AreSignals}
use Rattle.budget.proofs.SignalPaths.{signals_are_through}
use Rattle.cell_grid.specs.declared.antenna.Port.{Port}
use Rattle.cell_grid.specs.Ports.{only_port}
use Rattle.cell_plan.specs.declared.cell.CellPlan.{CellPlan}
use Rattle.cell_grid.specs.Grid.{Elements}
use Rattle.clean_air.specs.Faithful.{first_frame_of}
use Rattle.clean_air.specs.Through.{ShowsSignals, IsFrameSlotThrough}
use Rattle.clean_air.specs.Fading.{IsSlotFading, fading_bounds, by_symbol, LeaveFadingRoom, IsRead, IsFadingBy, FadingIsThrough, FaithfulIsFading}
use Rattle.clean_air.proofs.SentSymbols.{prefix_known, IsTruePlace}
use Rattle.clean_air.proofs.SentSlots.{slot_grid, references_stand, frame_is, symbol_with_errors, symbol_shown}
use Rattle.clean_air.proofs.Signals.{primary_is, secondary_is, received_with, is_primary, is_secondary, signal_rows, slot_few, clean_primary_stands}
use Rattle.clean_air.proofs.SlowGains.{fading_slot_is_through}

module _ (quota bend : ℕ) (recording : List Sample) (plan : CellPlan) (grids : Port → Elements) (sfn offset : ℕ) (gains : ℕ → ℕ → ℕ → Cpx) (signal_gains : ℕ → ℕ → Cpx)
    (fading : IsFadingBy quota bend recording plan grids sfn offset gains signal_gains) where
  -- ---- slots

  -- the symbols of a slot that is read are received, each with its own gain
  slot_fading : (j slot : ℕ) → slot < 20 → IsRead sfn offset (first_frame_of offset + j) slot →
      IsSlotFading quota bend recording (useful_start normal (frame_at (start_of offset) j) slot) (gains (first_frame_of offset + j) slot)
      (slot_grid (grids only_port) ((number_at_start sfn offset + j) % 1024) slot) (seen_slot recording (frame_at (start_of offset) j) slot plan.identity)
  unfolding seen_slot
  slot_fading j slot few read =
      let n : ℕ = first_frame_of offset + j in
      let number : ℕ = (number_at_start sfn offset + j) % 1024 in
      let carries = fading.carries only_port (refl, omega arith) in
      let frame = frame_is sfn offset j fading.number fading.within in
      record {
        shown = λ l inside. symbol_shown recording plan.identity (frame_at (start_of offset) j) slot l inside;
        amplitudes = λ l inside. carries.small number (slot / 2) (7 * (slot % 2) + l);
        received = λ l inside. symbol_with_errors quota recording grids sfn offset (gains n slot l ∷ []) fading.number fading.within (fading.sounds n slot l) j slot l few inside
            (fading.near n slot l (useful_start normal (frame_at (start_of offset) j) slot l) few inside (omega (arith, frame.place)) read);
        references = λ i inside. references_stand plan (grids only_port) carries number slot i;
        slow = fading.slow n slot read;
      }

  slot_through : LeaveFadingRoom quota bend → (j slot : ℕ) → slot < 20 → IsRead sfn offset (first_frame_of offset + j) slot →
      IsFrameSlotThrough recording plan.identity (grids only_port) sfn offset j slot
  slot_through leave j slot few read =
      let through = fading_slot_is_through quota bend leave recording (useful_start normal (frame_at (start_of offset) j) slot) (gains (first_frame_of offset + j) slot)
      (slot_grid (grids only_port) ((number_at_start sfn offset + j) % 1024) slot) (seen_slot recording (frame_at (start_of offset) j) slot plan.identity) (slot_fading j slot few read) in
      record {
        bounds = fading_bounds leave.most bend;
        square = square (gains (first_frame_of offset + j) slot through.weakest);
        channel = by_symbol (gains (first_frame_of offset + j) slot);
        through = through.through;
      }

  -- ---- the synchronisation signals

  module _ (t : ℕ) (half : Half) (at : IsTruePlace offset t half) where
    abbrev slot : ℕ
    slot = 2 * subframe_of half

    abbrev gain : Cpx
    gain = signal_gains at.frame slot

    primary_received : symbol_step normal ≤ t + 9 → t ≤ 19345 → IsReceived 1800 gain (pss_grid (plan.identity % 3)) (samples_from recording t)
    primary_received low high =
        let place = (signal_rows half normal (prefix_known OnePort)).primary in
        received_with OnePort recording grids sfn offset (gain ∷ []) t (pss_grid (plan.identity % 3)) (fading.signals_sound at.frame slot)
        (primary_is OnePort plan grids fading.carries sfn offset (gain ∷ []) t half at)
        (fading.signals_near at.frame slot 6 t (slot_few half) (omega arith) (omega (arith, at.place, place)) (inl (is_primary OnePort half t low high)))

    secondary_received : 9737 ≤ t → t ≤ 19336 → IsReceived 1800 gain (sss_grid (plan.identity / 3) (plan.identity % 3) half) (samples_from recording (t - symbol_step normal))
    secondary_received low high =
        let rows = signal_rows half normal (prefix_known OnePort) in
        let place = rows.secondary in
        let step = rows.step in
        received_with OnePort recording grids sfn offset (gain ∷ []) (t - symbol_step normal) (sss_grid (plan.identity / 3) (plan.identity % 3) half) (fading.signals_sound at.frame slot)
        (secondary_is OnePort plan grids fading.carries sfn offset (gain ∷ []) t half at (omega (arith, low, step)))
        (fading.signals_near at.frame slot 5 (t - symbol_step normal) (slot_few half) (omega arith) (omega (arith, at.place, place, low, step)) (inr (is_secondary OnePort half t low high)))

    primary_at : symbol_step normal ≤ t + 9 → t ≤ 19345 → IsPrimaryAt recording t (plan.identity % 3)
    primary_at low high = record { gain = gain; root = omega arith; received = primary_received low high }

    signals_at : 9737 ≤ t → t ≤ 19336 → plan.identity ≤ 503 → AreSignals normal recording t (plan.identity / 3) (plan.identity % 3) half
    signals_at low high known = record {
      group = omega (arith, known);
      root = omega arith;
      gain = gain;
      primary = primary_received (omega (arith, low)) (omega (arith, high));
      secondary = secondary_received low high;
    }

  signals_stand : plan.identity ≤ 503 → ShowsSignals OnePort recording plan.identity offset
  signals_stand known = record {
    primary = λ t half at low high. clean_primary_stands recording t (plan.identity % 3) (primary_at t half at low high);
    both = λ t half at middle high. signals_are_through normal recording t (plan.identity / 3) (plan.identity % 3) half (signals_at t half at (omega (arith, middle)) high known);
  }

pub fading_is_through : FadingIsThrough
fading_is_through quota bend recording plan grids sfn offset gains signal_gains leave known fading = record {
  number = fading.number;
  within = fading.within;
  carries = fading.carries only_port (refl, omega arith);
  signals = signals_stand quota bend recording plan grids sfn offset gains signal_gains fading known;
  master = slot_through quota bend recording plan grids sfn offset gains signal_gains fading leave 0 1 (omega arith) (inl (omega arith, refl));
  system = λ slot five. slot_through quota bend recording plan grids sfn offset gains signal_gains fading leave (even_frame (number_at_start sfn offset) 0) slot (omega (arith, five)) (inr (omega arith, five));
}

-- ---- one gain

itself : (bend : ℕ) (z : Cpx) → 1000000 * square (minus z z) ≤ bend * bend * square z
itself bend z = rw (nought z.re, nought z.im) (omega arith)
  where
    nought : (a : ℤ) → a -ℤ a ≡ pos 0
    nought a = omega (arith, ints)

pub faithful_is_fading : FaithfulIsFading
faithful_is_fading recording plan grids sfn offset gains faithful = record {
  number = faithful.number;
  within = faithful.within;
  carries = faithful.carries;
  sounds = λ frame slot symbol. faithful.gains_are.sounds;
  signals_sound = λ frame slot. faithful.gains_are.sounds;
  slow = λ frame slot read l m few inside. itself 0 (value_at gains 0);
  near = λ frame slot symbol start few inside place read. faithful.near frame slot symbol start few inside place (elim read [ inl master ↦ inl master | inr system ↦ inr (inl system) ]);
  signals_near = λ frame slot symbol start few inside place signal. faithful.near frame slot symbol start few inside place (inr (inr signal));
}
