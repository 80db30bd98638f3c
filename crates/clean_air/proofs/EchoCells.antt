-- A cell that arrives over several paths is received through their channel if the later paths are faint: each symbol
-- with its cyclic prefix is received over these paths.
use Rattle.std.proofs.Common.{◌≡◌, ℕ, ◌+◌, ◌-◌, ◌*◌, ◌^◌, ◌/◌, ◌%◌, ◌<◌, ◌≤◌, List, [], ◌∷◌, inl, inr, arith, refl, ap, ap₂, sym, subst, ◌∙◌}
use Rattle.finite.specs.Sums.{sum_below, total_below}
use Rattle.std.proofs.Math.Path.{fun_ext}
use Rattle.std.proofs.lemmas.Bool.Decides.{nat_tests}
use Rattle.cs_num.specs.declared.Cpx.{Cpx}
use Rattle.cs_num.specs.declared.Sample.{Sample}
use Rattle.cs_num.specs.Complex.{times, square, minus}
use Rattle.norms.proofs.Algebra.{plus-nothing_right}
use Rattle.norms.proofs.Cauchy.{energy_same}
use Rattle.fold128.specs.Symbol.{useful_at}
use Rattle.crs.specs.Reference.{port_0}
use Rattle.lte_types.specs.declared.carrier.Carrier.TheVariants.{OnePort}
use Rattle.lte_types.specs.declared.frame.Half.{Half}
use Rattle.lte_types.specs.Numerology.{normal, prefix_length, useful_start, symbol_step, subframe_of}
use Rattle.lte_types.specs.Timing.{start_of, number_at_start}
use Rattle.soft_bits.specs.Soft.{seen_at}
use Rattle.pss_search.specs.Correlation.{pss_grid}
use Rattle.explain.specs.Frame.{frame_at, seen_slot}
use Rattle.explain.specs.System.{even_frame}
use Rattle.budget.specs.Received.{in_parts, off_by, samples_from, IsSeenNear}
use Rattle.budget.specs.Score.{sss_grid}
use Rattle.budget.specs.Paths.{Paths, HasPrefix, only_path, arriving, over, path_bounds, channel_over, IsReceivedOver, IsSlotReceivedOver}
use Rattle.budget.specs.SignalPaths.{AreSignalsOver}
use Rattle.budget.proofs.Parts.{square_in_parts}
use Rattle.budget.proofs.SeenOver.{arriving_is_received}
use Rattle.budget.proofs.BendsOver.{paths_leave_room, paths_are_through, paths_are_read, place-seen, pilot-seen}
use Rattle.budget.proofs.Peaks.{primary_stands_by_rule}
use Rattle.budget.proofs.SignalPaths.{signals_over_are_through, primary_over_is_within}
use Rattle.cell_grid.specs.declared.antenna.Port.{Port}
use Rattle.cell_grid.specs.Ports.{only_port}
use Rattle.cell_plan.specs.declared.cell.CellPlan.{CellPlan}
use Rattle.cell_grid.specs.Grid.{Elements}
use Rattle.cell_tx.specs.Sent.{sent}
use Rattle.cell_tx.proofs.Symbols.{frames_follow, prefixes_repeat}
use Rattle.clean_air.specs.Faithful.{IsLookedAt, first_frame_of}
use Rattle.clean_air.specs.Through.{ShowsSignals, IsFrameSlotThrough}
use Rattle.clean_air.specs.Fading.{IsRead}
use Rattle.clean_air.specs.Echo.{SlotOverIsThrough, IsEchoedBy, EchoesAreThrough, LoadedIsEchoed}
use Rattle.clean_air.specs.Load.{received_from}
use Rattle.clean_air.proofs.Carrying.{of_primary_symbol, of_secondary_symbol}
use Rattle.clean_air.proofs.LoadedErrors.{looked_inside, loaded_has_little_errors}
use Rattle.clean_air.proofs.SentSymbols.{prefix_sent_symbol, prefix_known, IsTruePlace}
use Rattle.clean_air.proofs.SentSlots.{slot_grid, references_stand, frame_is, symbol_shown}
use Rattle.clean_air.proofs.Signals.{primary_symbol, secondary_symbol, whole_slot, first_slot, is_primary, is_secondary, signal_rows, slot_few}

-- ---- a slot

pub slot_over_is_through : SlotOverIsThrough
slot_over_is_through magnitudes paths recording starts grids slot faint is =
    let sounds = (is.received 0 (omega arith)).sounds in
    record {
      room = paths_leave_room;
      pilots = paths_are_through magnitudes paths port_0 slot faint sounds (pilot-seen magnitudes paths port_0 7 recording starts grids slot faint (omega arith) is);
      read = λ symbol k first second few inside same. paths_are_read magnitudes paths port_0 slot symbol k faint sounds inside;
      seen = λ symbol k first second few inside same.
          subst (λ (z : Cpx). IsSeenNear 1880 (square paths.first) (times (channel_over paths k) z) (seen_at slot symbol k)) same
          (place-seen magnitudes paths port_0 7 recording starts grids slot faint (omega arith) is symbol k few inside);
    }

-- ---- a symbol

-- the last 9 samples of a symbol's useful part precede it as part of the cyclic prefix
has_prefix : (grid : Elements) (sfn frame slot symbol : ℕ) → slot < 20 → symbol < 7 →
    HasPrefix (useful_at (slot_grid grid ((sfn + frame) % 1024) slot symbol)) (19200 * frame + (useful_start normal 0 slot symbol - 9)) (λ i. sent grid sfn i)
has_prefix grid sfn frame slot symbol few row =
    let long : 9 ≤ prefix_length normal symbol = grind (arith, nat_tests) in
    record {
      before = λ n l.
          ap (sent grid sfn) (let e : 19200 * frame + (useful_start normal 0 slot symbol - 9) + n ≡ 19200 * frame + (useful_start normal 0 slot symbol - (9 - n)) = omega (arith, l) in e)
          ∙ frames_follow normal grid sfn frame (useful_start normal 0 slot symbol - (9 - n)) (omega (arith, few, row))
          ∙ prefixes_repeat normal grid ((sfn + frame) % 1024) slot symbol (9 - n) (inl refl) row (omega (arith, l)) (omega (arith, long))
          ∙ ap (useful_at (slot_grid grid ((sfn + frame) % 1024) slot symbol)) (let e : 128 - (9 - n) ≡ 119 + n = omega (arith, l) in e);
      useful = λ n l.
          ap (sent grid sfn) (let e : 19200 * frame + (useful_start normal 0 slot symbol - 9) + 9 + n ≡ 19200 * frame + (useful_start normal 0 slot symbol + n) = omega arith in e)
          ∙ prefix_sent_symbol normal grid sfn frame slot symbol n (inl refl) few row l;
    }

module _ (magnitudes : ℕ → ℕ) (paths : Paths) (recording : List Sample) (plan : CellPlan) (grids : Port → Elements) (sfn offset : ℕ) (echoed : IsEchoedBy magnitudes paths recording plan grids sfn offset) where
  abbrev grid : Elements
  grid = grids only_port

  symbol_over : (frame slot symbol start : ℕ) → slot < 20 → symbol < 7 → start + offset ≡ 19200 * frame + useful_start normal 0 slot symbol → IsLookedAt OnePort sfn offset frame slot symbol start →
      IsReceivedOver 1024 paths (slot_grid grid ((sfn + frame) % 1024) slot symbol) (samples_from recording start)
  symbol_over frame slot symbol start few row place looked =
      arriving_is_received 1024 paths (slot_grid grid ((sfn + frame) % 1024) slot symbol) (λ i. sent grid sfn i) (samples_from recording start) first echoed.faint.near
      (has_prefix grid sfn frame slot symbol few row) echoed.sounds
      (subst (λ (e : ℕ). e ≤ 1024 * square paths.first)
      (energy_same 128 (off_by (samples_from recording start) (λ n. arriving paths (λ i. sent grid sfn i) (start + n + offset)))
      (off_by (samples_from recording start) (λ n. arriving paths (λ i. sent grid sfn i) (first + 9 + n)))
      (λ n l. ap (λ (i : ℕ). minus (in_parts (samples_from recording start n)) (arriving paths (λ i. sent grid sfn i) i)) (there n)))
      (echoed.near frame slot symbol start few row place looked))
    where
      first : ℕ
      first = 19200 * frame + (useful_start normal 0 slot symbol - 9)

      there : (n : ℕ) → start + n + offset ≡ first + 9 + n
      there n = omega (arith, place)

  -- ---- the slots that are read

  slot_over : (j slot : ℕ) → slot < 20 → IsRead sfn offset (first_frame_of offset + j) slot →
      IsSlotReceivedOver paths port_0 7 recording (useful_start normal (frame_at (start_of offset) j) slot) (slot_grid grid ((number_at_start sfn offset + j) % 1024) slot)
      (seen_slot recording (frame_at (start_of offset) j) slot plan.identity)
  unfolding seen_slot
  slot_over j slot few read =
      let n : ℕ = first_frame_of offset + j in
      let number : ℕ = (number_at_start sfn offset + j) % 1024 in
      let frame = frame_is sfn offset j echoed.number echoed.within in
      record {
        seen = λ l inside. symbol_shown recording plan.identity (frame_at (start_of offset) j) slot l inside;
        amplitudes = λ l inside. echoed.carries.small number (slot / 2) (7 * (slot % 2) + l);
        received = λ l inside.
            subst (λ m. IsReceivedOver 1024 paths (slot_grid grid m slot l) (samples_from recording (useful_start normal (frame_at (start_of offset) j) slot l))) frame.number
            (symbol_over n slot l (useful_start normal (frame_at (start_of offset) j) slot l) few inside (omega (arith, frame.place)) (elim read [ inl master ↦ inl master | inr system ↦ inr (inl system) ]));
        references = λ i inside. references_stand plan grid echoed.carries number slot i;
      }

  slot_through : (j slot : ℕ) → slot < 20 → IsRead sfn offset (first_frame_of offset + j) slot → IsFrameSlotThrough recording plan.identity grid sfn offset j slot
  slot_through j slot few read = record {
    bounds = path_bounds;
    square = square paths.first;
    channel = over paths;
    through = slot_over_is_through magnitudes paths recording (useful_start normal (frame_at (start_of offset) j) slot) (slot_grid grid ((number_at_start sfn offset + j) % 1024) slot)
        (seen_slot recording (frame_at (start_of offset) j) slot plan.identity) echoed.faint (slot_over j slot few read);
  }

  -- ---- the synchronisation signals

  module _ (t : ℕ) (half : Half) (at : IsTruePlace offset t half) where
    abbrev slot : ℕ
    slot = 2 * subframe_of half

    abbrev number : ℕ
    number = (sfn + at.frame) % 1024

    primary_is : (k : ℕ) → slot_grid grid number slot 6 k ≡ pss_grid (plan.identity % 3) k
    primary_is k =
        ap₂ (λ (subframe symbol : ℕ). grid number subframe symbol k) (whole_slot (subframe_of half)) (first_slot (subframe_of half) 7 6)
        ∙ of_primary_symbol only_port plan grid echoed.carries half number k ∙ primary_symbol only_port plan number k half

    secondary_is : (k : ℕ) → slot_grid grid number slot 5 k ≡ sss_grid (plan.identity / 3) (plan.identity % 3) half k
    secondary_is k =
        ap₂ (λ (subframe symbol : ℕ). grid number subframe symbol k) (whole_slot (subframe_of half)) (first_slot (subframe_of half) 7 5)
        ∙ of_secondary_symbol only_port plan grid echoed.carries half number k ∙ secondary_symbol only_port plan number k half

    primary_over : symbol_step normal ≤ t + 9 → t ≤ 19345 → IsReceivedOver 1024 paths (pss_grid (plan.identity % 3)) (samples_from recording t)
    primary_over low high =
        let place = (signal_rows half normal (prefix_known OnePort)).primary in
        subst (λ (row : ℕ → Cpx). IsReceivedOver 1024 paths row (samples_from recording t)) (fun_ext (λ (k : ℕ). primary_is k))
        (symbol_over at.frame slot 6 t (slot_few half) (omega arith) (omega (arith, at.place, place)) (inr (inr (inl (is_primary OnePort half t low high)))))

    secondary_over : 9737 ≤ t → t ≤ 19336 → IsReceivedOver 1024 paths (sss_grid (plan.identity / 3) (plan.identity % 3) half) (samples_from recording (t - symbol_step normal))
    secondary_over low high =
        let rows = signal_rows half normal (prefix_known OnePort) in
        let place = rows.secondary in
        let step = rows.step in
        subst (λ (row : ℕ → Cpx). IsReceivedOver 1024 paths row (samples_from recording (t - symbol_step normal))) (fun_ext (λ (k : ℕ). secondary_is k))
        (symbol_over at.frame slot 5 (t - symbol_step normal) (slot_few half) (omega arith) (omega (arith, at.place, place, low, step)) (inr (inr (inr (is_secondary OnePort half t low high)))))

    signals_over : 9737 ≤ t → t ≤ 19336 → plan.identity ≤ 503 → AreSignalsOver paths normal recording t (plan.identity / 3) (plan.identity % 3) half
    signals_over low high known = record {
      group = omega (arith, known);
      root = omega arith;
      primary = primary_over (omega (arith, low)) (omega (arith, high));
      secondary = secondary_over low high;
    }

  signals_stand : plan.identity ≤ 503 → ShowsSignals OnePort recording plan.identity offset
  signals_stand known = record {
    primary = λ t half at low high.
        primary_stands_by_rule recording t (plan.identity % 3) (primary_over_is_within magnitudes paths recording t (plan.identity % 3) echoed.faint (omega arith) (primary_over t half at low high));
    both = λ t half at middle high.
        signals_over_are_through magnitudes paths normal recording t (plan.identity / 3) (plan.identity % 3) half echoed.faint (signals_over t half at (omega (arith, middle)) high known);
  }

pub echoes_are_through : EchoesAreThrough
echoes_are_through magnitudes paths recording plan grids sfn offset known echoed = record {
  number = echoed.number;
  within = echoed.within;
  carries = echoed.carries;
  signals = signals_stand magnitudes paths recording plan grids sfn offset echoed known;
  master = slot_through magnitudes paths recording plan grids sfn offset echoed 0 1 (omega arith) (inl (omega arith, refl));
  system = λ slot five. slot_through magnitudes paths recording plan grids sfn offset echoed (even_frame (number_at_start sfn offset) 0) slot (omega (arith, five)) (inr (omega arith, five));
}

-- ---- one path

pub loaded_is_echoed : LoadedIsEchoed
unfolding sum_below total_below
loaded_is_echoed recording plan grid sfn offset gain eps long clean = record {
  number = clean.number;
  within = clean.within;
  carries = clean.carries only_port (refl, omega arith);
  sounds = some (square gain) (square (in_parts gain)) (square_in_parts gain) clean.gains_are.least;
  faint = record { late = λ path l. absurd (omega (arith, l)); near = λ path l. omega arith; bounded = λ path l. absurd (omega (arith, l)); faint = omega arith };
  near = λ frame slot symbol start few row place looked.
      let inside = looked_inside OnePort sfn offset frame slot symbol start few row place looked in
      quiet (square gain) (square (in_parts gain)) (eps * eps) _ (square_in_parts gain) clean.bound
      (subst (λ (e : ℕ). e ≤ 2 ^ 36 * (eps * eps))
      (energy_same 128 (off_by (samples_from recording start) (λ n. received_from OnePort (λ port. grid) sfn offset (in_parts gain ∷ []) (start + n)))
      (off_by (samples_from recording start) (λ n. arriving (only_path (in_parts gain)) (λ i. sent grid sfn i) (start + n + offset)))
      (λ n l. ap (minus (in_parts (samples_from recording start n))) (sym (plus-nothing_right (times (in_parts gain) (sent grid sfn (start + n + offset)))))))
      (loaded_has_little_errors OnePort recording plan (λ port. grid) sfn offset (gain ∷ []) eps start clean (omega (arith, long, inside))));
}
  where
    some : (n p : ℕ) → p ≡ 268435456 * n → 1 ≤ n → 2 ^ 28 ≤ p
    some n p same least = omega (arith, same, least)

    quiet : (n p q energy : ℕ) → p ≡ 268435456 * n → q ≤ 4 * n → energy ≤ 2 ^ 36 * q → energy ≤ 1024 * p
    quiet n p q energy same bound small = omega (arith, same, bound, small)
