-- The synchronisation signals of a cell near whose waveform a recording is: the primary ones stand out, and both are
-- demodulated with the gain of port 0.
use Rattle.std.proofs.Common.{◌≡◌, ℕ, zero, suc, ◌+◌, ◌-◌, ◌*◌, ◌^◌, ◌/◌, ◌%◌, ◌<◌, ◌≤◌, Bool, false, nat_eq, arith, inl, inr, refl, ap, sym, subst, ◌∙◌, List}
use Rattle.std.specs.Prelude.{if◌then◌else◌}
use Rattle.std.proofs.lemmas.Bool.Decides.{nat_tests}
use Rattle.std.proofs.Math.Path.{fun_ext}
use Rattle.cs_num.specs.declared.Cpx.{Cpx}
use Rattle.cs_num.specs.declared.Sample.{Sample}
use Rattle.cs_num.specs.Complex.{nothing, times, square, minus, multiple, value_at}
use Rattle.cs_num.proofs.Complex.{times-commutes}
use Rattle.cs_num.proofs.Sums.{complex_sum_below_same}
use Rattle.norms.specs.Magnitudes.{energy_below}
use Rattle.norms.proofs.Algebra.{times-nothing, sum_zero}
use Rattle.norms.proofs.Cauchy.{energy_same}
use Rattle.fold128.specs.Tables.{w_at}
use Rattle.fold128.specs.Symbol.{frequency, useful_term, useful_at}
use Rattle.lte_types.specs.declared.carrier.Carrier.{Carrier}
use Rattle.lte_types.specs.declared.carrier.Carrier.TheVariants.{OnePort, TwoPorts, LongPrefix, FourPorts}
use Rattle.lte_types.specs.declared.frame.Half.{Half}
use Rattle.lte_types.specs.declared.numerology.Prefix.{Prefix}
use Rattle.lte_types.specs.Carrier.{prefix_of, ports_of}
use Rattle.lte_types.specs.Numerology.{subframe_of, symbols_of_slot, symbol_step}
use Rattle.observe.specs.Seen.{seen}
use Rattle.pss_search.specs.Correlation.{pss_grid}
use Rattle.budget.specs.Received.{AreAmplitudes, IsReceived, IsSeenAs, IsSeenBy, off_by, received_of, samples_from}
use Rattle.budget.specs.Budget.{unrounded, seen_in}
use Rattle.budget.specs.Score.{sss_grid}
use Rattle.budget.specs.SignalPaths.{AreSignalsThrough}
use Rattle.budget.proofs.Peaks.{primary_stands_by_rule}
use Rattle.budget.proofs.Scores.{pss_amplitudes, sss_amplitudes, pss_in_grid, sss_in_grid}
use Rattle.cell_grid.specs.declared.antenna.Port.{Port}
use Rattle.cell_grid.specs.Grid.{Elements}
use Rattle.cell_grid.specs.Ports.{IsPortOf, port_by, sent_signal}
use Rattle.cell_plan.specs.declared.cell.CellPlan.{CellPlan}
use Rattle.clean_air.specs.Through.{ShowsSignals, IsPrimaryPlace}
use Rattle.clean_air.proofs.SentSymbols.{prefix_known}
use Rattle.clean_air.proofs.Signals.{primary_sent, secondary_sent, signal_rows, slot_few, is_primary, is_secondary}
use Rattle.waveform.specs.Waveform.{waveform, error_energy, IsWithinQuota, symbol_elements, IsNearWaveform}
use Rattle.waveform.proofs.Sums.{received_from_first, received_of_one, energy_of_one}
use Rattle.waveform.proofs.SeenWaves.{waveform_of_signal_is_seen}
use Rattle.waveform.proofs.Rounded.{off_from_waveform}

-- ---- a signal's waveform is that of port 0 alone

unrounded-none : (grid : ℕ → Cpx) (n : ℕ) → ((k : ℕ) → k < 72 → grid k ≡ nothing) → unrounded grid n ≡ nothing
unrounded-none grid n silent =
    sum_zero 72 (useful_term grid n)
    (λ k l. ap (λ (z : Cpx). times z (w_at (frequency k * n))) (silent k l) ∙ times-commutes nothing (w_at (frequency k * n)) ∙ times-nothing (w_at (frequency k * n)))

unrounded-same : (grid other : ℕ → Cpx) (n : ℕ) → ((k : ℕ) → k < 72 → grid k ≡ other k) → unrounded grid n ≡ unrounded other n
unrounded-same grid other n same = complex_sum_below_same 72 (useful_term grid n) (useful_term other n) (λ k l. ap (λ (z : Cpx). times z (w_at (frequency k * n))) (same k l))

-- the elements of a symbol in which port 0 alone sends a signal
pub record AreOfFirst (ports : ℕ) (grids : ℕ → ℕ → Cpx) (signal : ℕ → Cpx) : Type 0 where
  pub some : 1 ≤ ports
  pub first : (k : ℕ) → grids 0 k ≡ signal k
  pub silent : (p k : ℕ) → suc p < ports → grids (suc p) k ≡ nothing

waveform_of_first : (ports : ℕ) (gains : ℕ → Cpx) (grids : ℕ → ℕ → Cpx) (signal : ℕ → Cpx) → AreOfFirst ports grids signal → (n : ℕ) → waveform ports gains grids n ≡ waveform 1 gains (λ p. signal) n
waveform_of_first zero gains grids signal are n = absurd (let some = are.some in omega (arith, some))
waveform_of_first (suc others) gains grids signal are n =
    received_from_first others gains (λ p. unrounded (grids p) n) (λ p l. unrounded-none (grids (suc p)) n (λ k few. are.silent p k (omega (arith, l))))
    ∙ ap (λ (z : Cpx). received_of 1 gains (λ p. z)) (unrounded-same (grids 0) signal n (λ k l. are.first k))

pub energy_of_first : (ports : ℕ) (gains : ℕ → Cpx) (grids : ℕ → ℕ → Cpx) (signal samples : ℕ → Cpx) → AreOfFirst ports grids signal → error_energy ports gains grids samples ≡ error_energy 1 gains (λ p. signal) samples
energy_of_first ports gains grids signal samples are =
    energy_same 128 (λ n. minus (multiple (2 ^ 31) (samples n)) (waveform ports gains grids n)) (λ n. minus (multiple (2 ^ 31) (samples n)) (waveform 1 gains (λ p. signal) n))
    (λ n l. ap (minus (multiple (2 ^ 31) (samples n))) (waveform_of_first ports gains grids signal are n))

ports-some : (carrier : Carrier) → 1 ≤ ports_of carrier
ports-some OnePort = omega arith
ports-some TwoPorts = omega arith
ports-some LongPrefix = omega arith
ports-some FourPorts = omega arith

-- port 0 alone sends a synchronisation signal
pub sent_by_first : (carrier : Carrier) (grids : Port → ℕ → Cpx) (signal : ℕ → Cpx) → ((port : Port) → IsPortOf carrier port → (k : ℕ) → grids port k ≡ sent_signal port (signal k)) →
    AreOfFirst (ports_of carrier) (λ p. grids (port_by carrier p)) signal
sent_by_first carrier grids signal sends = record {
  some = ports-some carrier;
  first = λ k. sends (port_by carrier 0) (refl, ports-some carrier) k;
  silent = λ p k l. subst (λ (b : Bool). grids (port_by carrier (suc p)) k ≡ (if b then signal k else nothing)) (later p) (sends (port_by carrier (suc p)) (refl, l) k);
}
  where
    later : (p : ℕ) → nat_eq (suc p) 0 ≡ false
    later p = grind (arith, nat_tests)

-- ---- one signal, demodulated and relative to its rounded samples

module _ (gains : ℕ → Cpx) (signal samples : ℕ → Cpx) (sounds : 2 ^ 28 ≤ square (gains 0)) (few : IsWithinQuota 5300 (square (gains 0)) (error_energy 1 gains (λ p. signal) samples)) where
  signal_seen : AreAmplitudes signal → (k : ℕ) → k < 72 → IsSeenAs 3340 (gains 0) (signal k) (seen_in samples k)
  signal_seen amplitudes k inside =
      record {
        off = bound (waveform_of_signal_is_seen gains (λ p. signal) samples k (λ p l. amplitudes) (subst (λ (n : ℕ). 2 ^ 28 ≤ n) (sym (energy_of_one gains)) sounds)
            (subst (λ (n : ℕ). IsWithinQuota 5300 n (error_energy 1 gains (λ p. signal) samples)) (sym (energy_of_one gains)) few) inside);
      }
    where
      bound : IsSeenBy 1 3340 gains (λ p. signal k) (seen_in samples k) → square (minus (multiple 16384 (seen_in samples k)) (multiple 64 (times (gains 0) (signal k)))) ≤ 3340 * 3340 * square (gains 0)
      bound is =
          subst (λ (n : ℕ). square (minus (multiple 16384 (seen_in samples k)) (multiple 64 (times (gains 0) (signal k)))) ≤ 3340 * 3340 * n) (energy_of_one gains)
          (subst (λ (z : Cpx). square (minus (multiple 16384 (seen_in samples k)) (multiple 64 z)) ≤ 3340 * 3340 * energy_below 1 gains) (received_of_one gains (λ p. signal k)) is.off)

  signal_received : IsReceived 14000 (gains 0) signal samples
  signal_received = record {
    sounds = sounds;
    quiet = subst (λ (f : ℕ → Cpx). energy_below 128 (off_by samples f) ≤ 14000 * square (gains 0)) (fun_ext (λ (n : ℕ). received_of_one gains (λ p. useful_at signal n)))
        (less (square (gains 0)) (energy_below 1 gains) _ _ (energy_of_one gains) (off_from_waveform 1 gains (λ p. signal) samples) few);
  }
    where
      less : (n m o e : ℕ) → m ≡ n → 2 ^ 34 * o ≤ 2 * e + 2 ^ 41 * (1 * m) → e ≤ 2 ^ 34 * (5300 * n) → o ≤ 14000 * n
      less n m o e same h all = omega (arith, same, h, all)

-- ---- the signals of a cell

module _ (carrier : Carrier) (recording : List Sample) (plan : CellPlan) (grids : Port → Elements) (sfn offset : ℕ) (gains : List Cpx)
    (near : IsNearWaveform carrier recording plan grids sfn offset gains) (t : ℕ) (half : Half) (at : IsPrimaryPlace offset t half) where
  abbrev prefix : Prefix
  prefix = prefix_of carrier

  abbrev slot : ℕ
  slot = 2 * subframe_of half

  abbrev number : ℕ
  number = (sfn + at.frame) % 1024

  -- the elements of a port in a symbol of the signals' slot
  abbrev elements : ℕ → ℕ → ℕ → Cpx
  elements symbol p = symbol_elements prefix (grids (port_by carrier p)) number slot symbol

  -- the errors of a signal's symbol, relative to the signal that port 0 sends
  signal_near : (symbol start : ℕ) (signal : ℕ → Cpx) → ((port : Port) → IsPortOf carrier port → (k : ℕ) → symbol_elements prefix (grids port) number slot symbol k ≡ sent_signal port (signal k)) →
      IsWithinQuota 5300 (square (value_at gains 0)) (error_energy (ports_of carrier) (value_at gains) (elements symbol) (samples_from recording start)) →
      IsWithinQuota 5300 (square (value_at gains 0)) (error_energy 1 (value_at gains) (λ p. signal) (samples_from recording start))
  signal_near symbol start signal sends few =
      subst (λ (energy : ℕ). IsWithinQuota 5300 (square (value_at gains 0)) energy) (energy_of_first (ports_of carrier) (value_at gains) (elements symbol) signal (samples_from recording start) (sent_by_first carrier (λ port. symbol_elements prefix (grids port) number slot symbol) signal sends)) few

  primary_near : symbol_step prefix ≤ t + 9 → t ≤ 19345 → IsWithinQuota 5300 (square (value_at gains 0)) (error_energy 1 (value_at gains) (λ p. pss_grid (plan.identity % 3)) (samples_from recording t))
  primary_near low high =
      let rows = signal_rows half prefix (prefix_known carrier) in
      let place = rows.primary in
      signal_near (symbols_of_slot prefix - 1) t (pss_grid (plan.identity % 3)) (primary_sent carrier plan grids near.carries number half)
      (near.signals at.frame slot (symbols_of_slot prefix - 1) t (slot_few half) rows.last (omega (arith, at.place, place)) (inl (is_primary carrier half t low high)))

  secondary_near : 9737 ≤ t → t ≤ 19336 →
      IsWithinQuota 5300 (square (value_at gains 0)) (error_energy 1 (value_at gains) (λ p. sss_grid (plan.identity / 3) (plan.identity % 3) half) (samples_from recording (t - symbol_step prefix)))
  secondary_near low high =
      let rows = signal_rows half prefix (prefix_known carrier) in
      let place = rows.secondary in
      let step = rows.step in
      signal_near (symbols_of_slot prefix - 2) (t - symbol_step prefix) (sss_grid (plan.identity / 3) (plan.identity % 3) half) (secondary_sent carrier plan grids near.carries number half)
      (near.signals at.frame slot (symbols_of_slot prefix - 2) (t - symbol_step prefix) (slot_few half) rows.before (omega (arith, at.place, place, low, step)) (inr (is_secondary carrier half t low high)))

  -- both signals are demodulated with the gain of port 0
  signals_through : plan.identity ≤ 503 → 9737 ≤ t → t ≤ 19336 → AreSignalsThrough prefix recording t (plan.identity / 3) (plan.identity % 3) half
  unfolding seen
  signals_through known low high =
      let gain : Cpx = value_at gains 0 in
      let before : ℕ = t - symbol_step prefix in
      let step = (signal_rows half prefix (prefix_known carrier)).step in
      let n1 : ℕ = plan.identity / 3 in
      let n2 : ℕ = plan.identity % 3 in
      let sounds = near.gains_are.sounds in
      record {
        most = 3340;
        least = 1000;
        square = square gain;
        channel = λ k. gain;
        room = omega arith;
        through = record {
          group = omega (arith, known);
          root = omega arith;
          sounds = omega (arith, sounds);
          reads = λ k l. omega arith;
          primary = λ k l. subst (λ (z : Cpx). IsSeenAs 3340 gain z (seen recording t (k + 5))) (pss_in_grid n2 k l)
              (signal_seen (value_at gains) (pss_grid n2) (samples_from recording t) sounds (primary_near (omega (arith, low, step)) (omega (arith, high))) (pss_amplitudes n2) (k + 5) (omega (arith, l)));
          secondary = λ k l. subst (λ (z : Cpx). IsSeenAs 3340 gain z (seen recording before (k + 5))) (sss_in_grid n1 n2 half k l)
              (signal_seen (value_at gains) (sss_grid n1 n2 half) (samples_from recording before) sounds (secondary_near low high) (sss_amplitudes n1 n2 half) (k + 5) (omega (arith, l)));
        };
      }

-- the recording contains the synchronisation signals where the receiver reads them
pub near_signals_shown : (carrier : Carrier) (recording : List Sample) (plan : CellPlan) (grids : Port → Elements) (sfn offset : ℕ) (gains : List Cpx) →
    IsNearWaveform carrier recording plan grids sfn offset gains → plan.identity ≤ 503 → ShowsSignals carrier recording plan.identity offset
near_signals_shown carrier recording plan grids sfn offset gains near known = record {
  primary = λ t half at low high. primary_stands_by_rule recording t (plan.identity % 3) (record {
    gain = value_at gains 0;
    root = omega arith;
    received = signal_received (value_at gains) (pss_grid (plan.identity % 3)) (samples_from recording t) near.gains_are.sounds
        (primary_near carrier recording plan grids sfn offset gains near t half at low high);
  });
  both = λ t half at middle high. signals_through carrier recording plan grids sfn offset gains near t half at known (omega (arith, middle)) high;
}
