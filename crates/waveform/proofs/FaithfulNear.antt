-- A recording that is faithful to a cell is near its waveform: the rounding of the transmitted samples has little energy.
use Rattle.std.proofs.Common.{◌≡◌, ℕ, ◌+◌, ◌-◌, ◌*◌, ◌^◌, ◌/◌, ◌%◌, ◌<◌, ◌≤◌, ◌⊎◌, false, true, arith, inl, inr, ap, sym, subst, ◌∙◌, List}
use Rattle.std.proofs.Math.Path.{fun_ext}
use Rattle.cs_num.specs.declared.Cpx.{Cpx}
use Rattle.cs_num.specs.declared.Sample.{Sample}
use Rattle.cs_num.specs.Complex.{times, square, value_at}
use Rattle.cs_num.proofs.Sums.{complex_sum_below_same}
use Rattle.norms.specs.Magnitudes.{energy_below}
use Rattle.fold128.specs.Symbol.{useful_at}
use Rattle.lte_types.specs.declared.carrier.Carrier.{Carrier}
use Rattle.lte_types.specs.declared.carrier.Carrier.TheVariants.{OnePort, TwoPorts, LongPrefix, FourPorts}
use Rattle.lte_types.specs.declared.frame.Half.{Half}
use Rattle.lte_types.specs.declared.numerology.Prefix.{Prefix}
use Rattle.lte_types.specs.Carrier.{prefix_of, ports_of}
use Rattle.lte_types.specs.Numerology.{symbols_of_slot, symbol_step, useful_start, subframe_of}
use Rattle.pss_search.specs.Correlation.{pss_grid}
use Rattle.budget.specs.Received.{IsReceived, off_by, received_of, samples_from}
use Rattle.budget.specs.Score.{sss_grid}
use Rattle.cell_grid.specs.declared.antenna.Port.{Port}
use Rattle.cell_grid.specs.Grid.{Elements}
use Rattle.cell_grid.specs.Ports.{port_by}
use Rattle.cell_plan.specs.declared.cell.CellPlan.{CellPlan}
use Rattle.cell_tx.specs.Emission.{mixed}
use Rattle.clean_air.specs.Faithful.{IsLittle, IsOfMaster, IsOfSystem, IsOfPrimary, IsOfSecondary, IsFaithfulBy}
use Rattle.clean_air.proofs.SentSymbols.{prefix_known, symbol_off}
use Rattle.clean_air.proofs.Signals.{primary_sent, secondary_sent, signal_rows, primary_received, secondary_received}
use Rattle.two_ports.proofs.Senders.{quiet, all}
use Rattle.waveform.specs.Waveform.{error_energy, IsWithinQuota, slot_quota, symbol_elements, errors_at}
use Rattle.waveform.specs.WaveformLaws.{FaithfulIsNearWaveform}
use Rattle.waveform.proofs.Sums.{received_of_one, energy_of_one}
use Rattle.waveform.proofs.Rounded.{waveform_from_off, waveform_from_rounding}
use Rattle.waveform.proofs.NearSignals.{AreOfFirst, energy_of_first, sent_by_first}
use Rattle.waveform.proofs.NearCells.{sender_is}

-- ---- slots

-- the received sum over all ports, in the ports' order
mixed_is : (carrier : Carrier) (values : Port → Cpx) (gains : List Cpx) → mixed carrier values gains ≡ received_of (ports_of carrier) (value_at gains) (λ p. values (port_by carrier p))
mixed_is OnePort values gains = sym (received_of_one (value_at gains) (λ p. values (port_by OnePort p)))
mixed_is LongPrefix values gains = sym (received_of_one (value_at gains) (λ p. values (port_by LongPrefix p)))
mixed_is TwoPorts values gains =
    all false values gains ∙ complex_sum_below_same 2 _ (λ p. times (value_at gains p) (values (port_by TwoPorts p))) (λ p l. ap (λ (port : Port). times (value_at gains p) (values port)) (sym (sender_is false p l)))
mixed_is FourPorts values gains =
    all true values gains ∙ complex_sum_below_same 4 _ (λ p. times (value_at gains p) (values (port_by FourPorts p))) (λ p l. ap (λ (port : Port). times (value_at gains p) (values port)) (sym (sender_is true p l)))

-- one port: 6 * 1800 + 30 * 64 is below 5 * 2555
of_one : (gains : ℕ → Cpx) (grids : ℕ → ℕ → Cpx) (samples : ℕ → Cpx) →
    energy_below 128 (off_by samples (λ n. received_of 1 gains (λ p. useful_at (grids p) n))) ≤ 1800 * square (gains 0) → IsWithinQuota 2555 (energy_below 1 gains) (error_energy 1 gains grids samples)
of_one gains grids samples few = less _ _ _ _ (waveform_from_off 1 gains grids samples 5) (energy_of_one gains) few
  where
    less : (e o n m : ℕ) → 5 * e ≤ 6 * (2 ^ 34 * o) + 5 * 6 * (2 ^ 40 * (1 * n)) → n ≡ m → o ≤ 1800 * m → e ≤ 2 ^ 34 * (2555 * n)
    less e o n m h same few = omega (arith, h, same, few)

-- two ports: 3 * 400 + 6 * 128 is below 2 * 992; four ports: 7 * 256 + 42 * 7 is below 6 * 350
still_small : (carrier : Carrier) (gains : List Cpx) (grids : ℕ → ℕ → Cpx) (samples : ℕ → Cpx) →
    IsLittle carrier gains (energy_below 128 (off_by samples (λ n. received_of (ports_of carrier) (value_at gains) (λ p. useful_at (grids p) n)))) →
    IsWithinQuota (slot_quota (ports_of carrier)) (energy_below (ports_of carrier) (value_at gains)) (error_energy (ports_of carrier) (value_at gains) grids samples)
still_small OnePort gains grids samples little = of_one (value_at gains) grids samples little
still_small LongPrefix gains grids samples little = of_one (value_at gains) grids samples little
still_small TwoPorts gains grids samples little = less _ _ _ (waveform_from_off 2 (value_at gains) grids samples 2) (quiet false gains _ little)
  where
    less : (e o n : ℕ) → 2 * e ≤ 3 * (2 ^ 34 * o) + 2 * 3 * (2 ^ 40 * (2 * n)) → o ≤ 400 * n → e ≤ 2 ^ 34 * (992 * n)
    less e o n h few = omega (arith, h, few)
still_small FourPorts gains grids samples little = less _ _ _ (waveform_from_rounding 4 (value_at gains) grids samples 6) (quiet true gains _ little)
  where
    less : (e o n : ℕ) → 6 * e ≤ 7 * (2 ^ 40 * (4 * n)) + 6 * 7 * (2 ^ 34 * o) → o ≤ 7 * n → e ≤ 2 ^ 34 * (350 * n)
    less e o n h few = omega (arith, h, few)

-- ---- signals

-- a signal that is received from port 0 with small errors relative to its rounded samples
signal_small : (ports : ℕ) (gains : ℕ → Cpx) (grids : ℕ → ℕ → Cpx) (signal samples : ℕ → Cpx) → AreOfFirst ports grids signal → IsReceived 1800 (gains 0) signal samples →
    IsWithinQuota 5300 (square (gains 0)) (error_energy ports gains grids samples)
signal_small ports gains grids signal samples are received =
    subst (λ (energy : ℕ). IsWithinQuota 5300 (square (gains 0)) energy) (sym (energy_of_first ports gains grids signal samples are))
    (more _ _ _ (energy_of_one gains) (of_one gains (λ p. signal) samples (subst (λ (f : ℕ → Cpx). energy_below 128 (off_by samples f) ≤ 1800 * square (gains 0))
    (sym (fun_ext (λ (n : ℕ). received_of_one gains (λ p. useful_at signal n)))) received.quiet)))
  where
    more : (n m e : ℕ) → n ≡ m → e ≤ 2 ^ 34 * (2555 * n) → e ≤ 2 ^ 34 * (5300 * m)
    more n m e same few = omega (arith, same, few)

module _ (carrier : Carrier) (recording : List Sample) (plan : CellPlan) (grids : Port → Elements) (sfn offset : ℕ) (gains : List Cpx) (faithful : IsFaithfulBy carrier recording plan grids sfn offset gains)
    (frame start : ℕ) where
  abbrev prefix : Prefix
  prefix = prefix_of carrier

  abbrev number : ℕ
  number = (sfn + frame) % 1024

  abbrev IsPlace : ℕ → ℕ → Type 0
  IsPlace slot symbol = start + offset ≡ 19200 * frame + useful_start prefix 0 slot symbol

  abbrev IsSmallSignal : ℕ → ℕ → Type 0
  IsSmallSignal slot symbol = IsWithinQuota 5300 (square (value_at gains 0)) (errors_at carrier recording grids gains number slot symbol start)

  slot_small : (slot symbol : ℕ) → slot < 20 → symbol < symbols_of_slot prefix → IsPlace slot symbol → IsOfMaster offset frame slot ⊎ IsOfSystem carrier sfn offset frame slot →
      IsWithinQuota (slot_quota (ports_of carrier)) (energy_below (ports_of carrier) (value_at gains)) (errors_at carrier recording grids gains number slot symbol start)
  slot_small slot symbol few row place read =
      still_small carrier gains (λ p. symbol_elements prefix (grids (port_by carrier p)) number slot symbol) (samples_from recording start)
      (subst (λ (sent : ℕ → Cpx). IsLittle carrier gains (energy_below 128 (off_by (samples_from recording start) sent)))
      (fun_ext (λ (n : ℕ). mixed_is carrier (λ port. useful_at (symbol_elements prefix (grids port) number slot symbol) n) gains))
      (symbol_off carrier recording plan grids sfn offset gains faithful frame slot symbol start few row place (elim read [ inl master ↦ inl master | inr system ↦ inr (inl system) ])))

  -- the signals, at their own slot and symbol
  primary_small : (half : Half) → IsPlace (2 * subframe_of half) (symbols_of_slot prefix - 1) → symbol_step prefix ≤ start + 9 → start ≤ 19345 →
      IsSmallSignal (2 * subframe_of half) (symbols_of_slot prefix - 1)
  primary_small half place low high =
      let here = (signal_rows half prefix (prefix_known carrier)).primary in
      signal_small (ports_of carrier) (value_at gains) (λ p. symbol_elements prefix (grids (port_by carrier p)) number (2 * subframe_of half) (symbols_of_slot prefix - 1)) (pss_grid (plan.identity % 3))
      (samples_from recording start)
      (sent_by_first carrier (λ port. symbol_elements prefix (grids port) number (2 * subframe_of half) (symbols_of_slot prefix - 1)) (pss_grid (plan.identity % 3)) (primary_sent carrier plan grids faithful.carries number half))
      (primary_received carrier recording plan grids sfn offset gains faithful start half (record { frame = frame; place = omega (arith, place, here) }) low high)

  secondary_small : (half : Half) → IsPlace (2 * subframe_of half) (symbols_of_slot prefix - 2) → 9737 ≤ start + symbol_step prefix → start + symbol_step prefix ≤ 19336 →
      IsSmallSignal (2 * subframe_of half) (symbols_of_slot prefix - 2)
  secondary_small half place low high =
      let here = (signal_rows half prefix (prefix_known carrier)).secondary in
      let signal : ℕ → Cpx = sss_grid (plan.identity / 3) (plan.identity % 3) half in
      signal_small (ports_of carrier) (value_at gains) (λ p. symbol_elements prefix (grids (port_by carrier p)) number (2 * subframe_of half) (symbols_of_slot prefix - 2)) signal (samples_from recording start)
      (sent_by_first carrier (λ port. symbol_elements prefix (grids port) number (2 * subframe_of half) (symbols_of_slot prefix - 2)) signal (secondary_sent carrier plan grids faithful.carries number half))
      (subst (λ (from : ℕ). IsReceived 1800 (value_at gains 0) signal (samples_from recording from)) (let same : start + symbol_step prefix - symbol_step prefix ≡ start = omega arith in same)
      (secondary_received carrier recording plan grids sfn offset gains faithful (start + symbol_step prefix) half (record { frame = frame; place = omega (arith, place, here) }) low high))

  -- the same for a symbol with these numbers
  at_place : (slot symbol s l : ℕ) → slot ≡ s → symbol ≡ l → (IsPlace s l → IsSmallSignal s l) → IsPlace slot symbol → IsSmallSignal slot symbol
  at_place slot symbol s l same equal small =
      subst (λ n. IsPlace n symbol → IsSmallSignal n symbol) (sym same) (subst (λ n. IsPlace s n → IsSmallSignal s n) (sym equal) small)

  signal_of_either : (slot symbol : ℕ) → IsPlace slot symbol → IsOfPrimary carrier slot symbol start ⊎ IsOfSecondary carrier slot symbol start → IsSmallSignal slot symbol
  signal_of_either slot symbol place (inl one) =
      let last = one.last in
      at_place slot symbol (2 * subframe_of one.half) (symbols_of_slot prefix - 1) one.slot_is (omega (arith, last)) (λ here. primary_small one.half here one.from_first one.to_last) place
  signal_of_either slot symbol place (inr one) =
      let before = one.before in
      let middle = one.from_middle in
      at_place slot symbol (2 * subframe_of one.half) (symbols_of_slot prefix - 2) one.slot_is (omega (arith, before)) (λ here. secondary_small one.half here (omega (arith, middle)) one.to_last) place

pub faithful_is_near : (carrier : Carrier) → FaithfulIsNearWaveform carrier
faithful_is_near carrier recording plan grids sfn offset gains faithful = record {
  number = faithful.number;
  within = faithful.within;
  carries = faithful.carries;
  gains_are = faithful.gains_are;
  slots = λ frame slot symbol start few row place read. slot_small carrier recording plan grids sfn offset gains faithful frame start slot symbol few row place read;
  signals = λ frame slot symbol start few row place read. signal_of_either carrier recording plan grids sfn offset gains faithful frame start slot symbol place read;
}
