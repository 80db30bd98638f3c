-- The synchronisation signals of a cell of any scheme, whatever else its ports send: they are received as from the
-- first port alone, with small errors in a recording that is faithful to the cell.
use Rattle.std.proofs.Common.{◌≡◌, ℕ, ◌+◌, ◌-◌, ◌*◌, ◌^◌, ◌/◌, ◌%◌, ◌<◌, ◌≤◌, Bool, true, false, ◌⊎◌, inl, inr, None, nat_eq, nat_le, nat_lt, arith, refl, ap, ap₂, sym, subst, ◌∙◌, List}
use Rattle.std.specs.Prelude.{if◌then◌else◌, ◌&&◌, MatchBool}
use Rattle.std.proofs.lemmas.Bool.Decides.{nat_tests}
use Rattle.cs_num.specs.declared.Cpx.{Cpx}
use Rattle.cs_num.specs.declared.Sample.{Sample}
use Rattle.cs_num.specs.Complex.{nothing, plus, times, minus, square, value_at}
use Rattle.cs_num.specs.Rounding.{rounded}
use Rattle.cs_num.proofs.Complex.{times-commutes}
use Rattle.norms.proofs.Algebra.{plus-nothing_right, times-nothing, sum_zero}
use Rattle.norms.proofs.Cauchy.{energy_same}
use Rattle.fold128.specs.Tables.{w_at}
use Rattle.fold128.specs.Symbol.{useful_at, useful_term, frequency}
use Rattle.fold128.proofs.Samples.{useful_same}
use Rattle.lte_types.specs.declared.carrier.Carrier.{Carrier}
use Rattle.lte_types.specs.declared.carrier.Carrier.TheVariants.{OnePort, TwoPorts, LongPrefix, FourPorts}
use Rattle.lte_types.specs.declared.frame.Half.{Half}
use Rattle.lte_types.specs.declared.frame.Half.TheVariants.{Zero, Five}
use Rattle.lte_types.specs.declared.numerology.Prefix.{Prefix}
use Rattle.lte_types.specs.Carrier.{prefix_of, ports_of}
use Rattle.lte_types.specs.Numerology.{IsPrefix, symbols_of_slot, symbol_step, useful_start, subframe_of, primary_start}
use Rattle.pss_search.specs.Correlation.{pss_grid}
use Rattle.cell_grid.specs.declared.antenna.Port.{Port}
use Rattle.cell_plan.specs.declared.cell.CellPlan.{CellPlan}
use Rattle.cell_grid.specs.Ports.{port_by, IsPortOf, port_symbols, port_slot, first_pattern, sent_signal}
use Rattle.cell_grid.specs.Grid.{port_element, is_primary as holds_primary, is_secondary as holds_secondary, primary_value, secondary_value, port_channel_value}
use Rattle.cell_grid.specs.Rows.{port_reference_if}
use Rattle.cell_grid.specs.Grid.{Elements}
use Rattle.cell_tx.specs.Emission.{mixed}
use Rattle.cell_grid.proofs.Elements.{no_port_reference, element_elsewhere}
use Rattle.cell_grid.proofs.SignalSymbols.{no_channel}
use Rattle.cell_grid.proofs.Prefixes.{with_prefix}
use Rattle.budget.specs.Received.{in_parts, off_by, IsReceived, samples_from}
use Rattle.budget.specs.Score.{sss_grid, AreSignals}
use Rattle.budget.specs.Peak.{IsPrimaryAt, StandsOutBy}
use Rattle.budget.proofs.Parts.{is_received_by_more}
use Rattle.budget.proofs.Peaks.{primary_stands_by_rule}
use Rattle.budget.proofs.SignalPaths.{signals_are_through}
use Rattle.clean_air.specs.Load.{CarriesPlan, received_from}
use Rattle.clean_air.specs.Faithful.{IsLittle, IsOfPrimary, IsOfSecondary, IsLookedAt, IsFaithfulBy, errors_from}
use Rattle.clean_air.specs.Through.{ShowsSignals}
use Rattle.clean_air.proofs.Carrying.{of_primary_symbol, of_secondary_symbol}
use Rattle.clean_air.proofs.SentSymbols.{mixed_same, prefix_known, symbol_received, IsTruePlace}

-- ---- a signal is received from the first port alone

beside_silence : (a g : Cpx) → plus a (times g nothing) ≡ a
beside_silence a g = ap (plus a) (times-nothing g) ∙ plus-nothing_right a

mixed_signal : (carrier : Carrier) (z : Cpx) (gains : List Cpx) → mixed carrier (λ port. sent_signal port z) gains ≡ times (value_at gains 0) z
mixed_signal OnePort z gains = refl
mixed_signal TwoPorts z gains = beside_silence (times (value_at gains 0) z) (value_at gains 1)
mixed_signal LongPrefix z gains = refl
mixed_signal FourPorts z gains =
    ap₂ plus (beside_silence (times (value_at gains 0) z) (value_at gains 1)) (beside_silence (times (value_at gains 2) nothing) (value_at gains 3) ∙ times-nothing (value_at gains 2))
    ∙ plus-nothing_right (times (value_at gains 0) z)

times-nothing_left : (a : Cpx) → times nothing a ≡ nothing
times-nothing_left a = times-commutes nothing a ∙ times-nothing a

nothing_sent : (n : ℕ) → useful_at (λ k. nothing) n ≡ nothing
unfolding useful_at
nothing_sent n = ap (λ (z : Cpx). rounded z 17) (sum_zero 72 (useful_term (λ k. nothing) n) (λ k l. times-nothing_left (w_at (frequency k * n))))

signal_sent : (port : Port) (signal : ℕ → Cpx) (n : ℕ) → useful_at (λ k. sent_signal port (signal k)) n ≡ sent_signal port (useful_at signal n)
signal_sent port signal n = by (nat_eq port.number 0)
  where
    by : (first : Bool) → useful_at (λ k. if first then signal k else nothing) n ≡ (if first then useful_at signal n else nothing)
    by true = refl
    by false = nothing_sent n

-- a symbol in which the ports send a synchronisation signal is received as from the first port alone
signal_received : (carrier : Carrier) (grids : Port → Elements) (sfn offset : ℕ) (gains : List Cpx) (t j slot l : ℕ) (signal : ℕ → Cpx) → slot < 20 → l < symbols_of_slot (prefix_of carrier) →
    t + offset ≡ 19200 * j + useful_start (prefix_of carrier) 0 slot l →
    ((port : Port) → IsPortOf carrier port → (k : ℕ) → grids port ((sfn + j) % 1024) (slot / 2) (symbols_of_slot (prefix_of carrier) * (slot % 2) + l) k ≡ sent_signal port (signal k)) →
    (n : ℕ) → n < 128 → received_from carrier grids sfn offset gains (t + n) ≡ times (value_at gains 0) (useful_at signal n)
signal_received carrier grids sfn offset gains t j slot l signal few row place sends n c =
    symbol_received carrier grids sfn offset gains j slot l t few row place n c
    ∙ mixed_same carrier (λ port. useful_at (grids port ((sfn + j) % 1024) (slot / 2) (symbols_of_slot (prefix_of carrier) * (slot % 2) + l)) n) (λ port. sent_signal port (useful_at signal n)) gains
    (λ port same. useful_same (grids port ((sfn + j) % 1024) (slot / 2) (symbols_of_slot (prefix_of carrier) * (slot % 2) + l)) (λ k. sent_signal port (signal k)) n (λ k low. sends port same k) ∙ signal_sent port signal n)
    ∙ mixed_signal carrier (useful_at signal n) gains

last_of : (P Q : Type 0) (alone : Bool) → MatchBool alone Q (P × Q) → Q
last_of P Q true q = q
last_of P Q false both = both.1

-- errors that are small are small compared with the first port's gain
little_beside : (carrier : Carrier) (gains : List Cpx) (energy : ℕ) → IsLittle carrier gains energy → energy ≤ 1800 * square (value_at gains 0)
little_beside carrier gains energy little = last_of _ _ (nat_eq (ports_of carrier) 1) little

-- ---- the synchronisation signals that a port sends

middle : (k : ℕ) (a b : Cpx) → (if nat_le 5 k && nat_lt k 67 then a else b) ≡ (if nat_lt k 5 then b else if nat_lt k 67 then a else b)
middle k a b = grind (arith, nat_tests)

either : (b : Bool) → (if b then nothing else nothing) ≡ nothing
either true = refl
either false = refl

-- the port sends a synchronisation signal in the middle of the symbol, or nothing
in_signal : (port : Port) (k : ℕ) (z : Cpx) → (if nat_le 5 k && nat_lt k 67 then sent_signal port z else nothing) ≡ sent_signal port (if nat_lt k 5 then nothing else if nat_lt k 67 then z else nothing)
in_signal port k z = by (nat_eq port.number 0)
  where
    by : (first : Bool) → (if nat_le 5 k && nat_lt k 67 then (if first then z else nothing) else nothing) ≡ (if first then (if nat_lt k 5 then nothing else if nat_lt k 67 then z else nothing) else nothing)
    by true = middle k z nothing
    by false = either (nat_le 5 k && nat_lt k 67)

-- a symbol without reference signals and with one of the plan's synchronisation signals holds it in the middle
in_row : (port : Port) (plan : CellPlan) (sfn subframe symbol k : ℕ) (z : Cpx) → nat_eq symbol 0 ≡ false → nat_eq symbol 1 ≡ false → nat_eq symbol (first_pattern port).later ≡ false →
    symbol % port_symbols port ≡ symbol → (symbol ≡ port_symbols port - 2) ⊎ (symbol ≡ port_symbols port - 1) →
    (if holds_primary port subframe symbol k then sent_signal port (primary_value plan k)
    else (if holds_secondary port subframe symbol k then sent_signal port (secondary_value plan subframe k)
    else port_channel_value port plan sfn subframe symbol k))
    ≡ (if nat_le 5 k && nat_lt k 67 then sent_signal port z else port_channel_value port plan sfn subframe symbol k) →
    port_element port plan sfn subframe symbol k ≡ sent_signal port (if nat_lt k 5 then nothing else if nat_lt k 67 then z else nothing)
in_row port plan sfn subframe symbol k z first second later first_slot row alone =
    element_elsewhere port plan sfn subframe symbol k
    (subst (λ l. port_reference_if port plan.identity (port_slot port subframe symbol) l k ≡ None) (sym first_slot) (no_port_reference port plan.identity (port_slot port subframe symbol) symbol k first second later))
    ∙ alone ∙ rw (no_channel port plan sfn subframe symbol k row) (in_signal port k z)

-- the last symbol of slots 0 and 10 holds only the primary signal
primary_by : (carrier : Carrier) (number : ℕ) (plan : CellPlan) (sfn k : ℕ) (half : Half) →
    port_element (port_by carrier number) plan sfn (subframe_of half) (symbols_of_slot (prefix_of carrier) - 1) k ≡ sent_signal (port_by carrier number) (pss_grid (plan.identity % 3) k)
primary_by OnePort number plan sfn k Zero = in_row (port_by OnePort number) plan sfn 0 6 k (primary_value plan k) refl refl refl refl (inr refl) refl
primary_by OnePort number plan sfn k Five = in_row (port_by OnePort number) plan sfn 5 6 k (primary_value plan k) refl refl refl refl (inr refl) refl
primary_by TwoPorts number plan sfn k Zero = in_row (port_by TwoPorts number) plan sfn 0 6 k (primary_value plan k) refl refl refl refl (inr refl) refl
primary_by TwoPorts number plan sfn k Five = in_row (port_by TwoPorts number) plan sfn 5 6 k (primary_value plan k) refl refl refl refl (inr refl) refl
primary_by LongPrefix number plan sfn k Zero = in_row (port_by LongPrefix number) plan sfn 0 5 k (primary_value plan k) refl refl refl refl (inr refl) refl
primary_by LongPrefix number plan sfn k Five = in_row (port_by LongPrefix number) plan sfn 5 5 k (primary_value plan k) refl refl refl refl (inr refl) refl
primary_by FourPorts number plan sfn k Zero = in_row (port_by FourPorts number) plan sfn 0 6 k (primary_value plan k) refl refl refl refl (inr refl) refl
primary_by FourPorts number plan sfn k Five = in_row (port_by FourPorts number) plan sfn 5 6 k (primary_value plan k) refl refl refl refl (inr refl) refl

pub primary_symbol : (port : Port) (plan : CellPlan) (sfn k : ℕ) (half : Half) → port_element port plan sfn (subframe_of half) (port_symbols port - 1) k ≡ sent_signal port (pss_grid (plan.identity % 3) k)
primary_symbol port plan sfn k half = primary_by port.carrier port.number plan sfn k half

-- the symbol before the primary signal's holds only the secondary signal
secondary_by : (carrier : Carrier) (number : ℕ) (plan : CellPlan) (sfn k : ℕ) (half : Half) →
    port_element (port_by carrier number) plan sfn (subframe_of half) (symbols_of_slot (prefix_of carrier) - 2) k ≡ sent_signal (port_by carrier number) (sss_grid (plan.identity / 3) (plan.identity % 3) half k)
secondary_by OnePort number plan sfn k Zero = in_row (port_by OnePort number) plan sfn 0 5 k (secondary_value plan 0 k) refl refl refl refl (inl refl) refl
secondary_by OnePort number plan sfn k Five = in_row (port_by OnePort number) plan sfn 5 5 k (secondary_value plan 5 k) refl refl refl refl (inl refl) refl
secondary_by TwoPorts number plan sfn k Zero = in_row (port_by TwoPorts number) plan sfn 0 5 k (secondary_value plan 0 k) refl refl refl refl (inl refl) refl
secondary_by TwoPorts number plan sfn k Five = in_row (port_by TwoPorts number) plan sfn 5 5 k (secondary_value plan 5 k) refl refl refl refl (inl refl) refl
secondary_by LongPrefix number plan sfn k Zero = in_row (port_by LongPrefix number) plan sfn 0 4 k (secondary_value plan 0 k) refl refl refl refl (inl refl) refl
secondary_by LongPrefix number plan sfn k Five = in_row (port_by LongPrefix number) plan sfn 5 4 k (secondary_value plan 5 k) refl refl refl refl (inl refl) refl
secondary_by FourPorts number plan sfn k Zero = in_row (port_by FourPorts number) plan sfn 0 5 k (secondary_value plan 0 k) refl refl refl refl (inl refl) refl
secondary_by FourPorts number plan sfn k Five = in_row (port_by FourPorts number) plan sfn 5 5 k (secondary_value plan 5 k) refl refl refl refl (inl refl) refl

pub secondary_symbol : (port : Port) (plan : CellPlan) (sfn k : ℕ) (half : Half) →
    port_element port plan sfn (subframe_of half) (port_symbols port - 2) k ≡ sent_signal port (sss_grid (plan.identity / 3) (plan.identity % 3) half k)
secondary_symbol port plan sfn k half = secondary_by port.carrier port.number plan sfn k half

-- ---- the synchronisation signals

-- positions of the two symbols in a frame
pub record AreSignalRows (prefix : Prefix) (half : Half) : Type 0 where
  pub step : symbol_step prefix ≤ 160
  pub many : 2 ≤ symbols_of_slot prefix
  pub last : symbols_of_slot prefix - 1 < symbols_of_slot prefix
  pub before : symbols_of_slot prefix - 2 < symbols_of_slot prefix
  pub primary : useful_start prefix 0 (2 * subframe_of half) (symbols_of_slot prefix - 1) ≡ primary_start half
  pub secondary : useful_start prefix 0 (2 * subframe_of half) (symbols_of_slot prefix - 2) + symbol_step prefix ≡ primary_start half

pub signal_rows : (half : Half) (prefix : Prefix) → IsPrefix prefix → AreSignalRows prefix half
signal_rows half =
    with_prefix (λ p. AreSignalRows p half)
    (record { step = omega arith; many = omega arith; last = omega arith; before = omega arith; primary = omega arith; secondary = omega arith })
    (record { step = omega arith; many = omega arith; last = omega arith; before = omega arith; primary = omega arith; secondary = omega arith })

pub slot_few : (half : Half) → 2 * subframe_of half < 20
slot_few Zero = omega arith
slot_few Five = omega arith

pub whole_slot : (s : ℕ) → 2 * s / 2 ≡ s
whole_slot s = omega arith

pub first_slot : (s m l : ℕ) → m * (2 * s % 2) + l ≡ l
first_slot s m l = let even : 2 * s % 2 ≡ 0 = omega arith in rw even (omega arith)

module _ (carrier : Carrier) (plan : CellPlan) (grids : Port → Elements) (carries : (port : Port) → IsPortOf carrier port → CarriesPlan port plan (grids port))
    (number : ℕ) (half : Half) (port : Port) (same : IsPortOf carrier port) (k : ℕ) where
  -- the element that a port sends in the symbol of a primary signal
  pub primary_sent : grids port number (2 * subframe_of half / 2) (symbols_of_slot (prefix_of carrier) * (2 * subframe_of half % 2) + (symbols_of_slot (prefix_of carrier) - 1)) k
      ≡ sent_signal port (pss_grid (plan.identity % 3) k)
  primary_sent =
      ap₂ (λ (subframe symbol : ℕ). grids port number subframe symbol k) (whole_slot (subframe_of half))
      (first_slot (subframe_of half) (symbols_of_slot (prefix_of carrier)) (symbols_of_slot (prefix_of carrier) - 1))
      ∙ subst (λ (c : Carrier). grids port number (subframe_of half) (symbols_of_slot (prefix_of c) - 1) k ≡ sent_signal port (pss_grid (plan.identity % 3) k)) same.0
      (of_primary_symbol port plan (grids port) (carries port same) half number k ∙ primary_symbol port plan number k half)

  -- the element that a port sends in the symbol of a secondary signal
  pub secondary_sent : grids port number (2 * subframe_of half / 2) (symbols_of_slot (prefix_of carrier) * (2 * subframe_of half % 2) + (symbols_of_slot (prefix_of carrier) - 2)) k
      ≡ sent_signal port (sss_grid (plan.identity / 3) (plan.identity % 3) half k)
  secondary_sent =
      ap₂ (λ (subframe symbol : ℕ). grids port number subframe symbol k) (whole_slot (subframe_of half))
      (first_slot (subframe_of half) (symbols_of_slot (prefix_of carrier)) (symbols_of_slot (prefix_of carrier) - 2))
      ∙ subst (λ (c : Carrier). grids port number (subframe_of half) (symbols_of_slot (prefix_of c) - 2) k ≡ sent_signal port (sss_grid (plan.identity / 3) (plan.identity % 3) half k)) same.0
      (of_secondary_symbol port plan (grids port) (carries port same) half number k ∙ secondary_symbol port plan number k half)

module _ (carrier : Carrier) (plan : CellPlan) (grids : Port → Elements) (carries : (port : Port) → IsPortOf carrier port → CarriesPlan port plan (grids port))
    (sfn offset : ℕ) (gains : List Cpx) (t : ℕ) where
  abbrev prefix : Prefix
  prefix = prefix_of carrier

  -- the received samples at the start of a primary signal
  pub primary_is : (half : Half) → IsTruePlace offset t half → (n : ℕ) → n < 128 → received_from carrier grids sfn offset gains (t + n) ≡ times (value_at gains 0) (useful_at (pss_grid (plan.identity % 3)) n)
  primary_is half at =
      let rows = signal_rows half prefix (prefix_known carrier) in
      let place = rows.primary in
      signal_received carrier grids sfn offset gains t at.frame (2 * subframe_of half) (symbols_of_slot prefix - 1) (pss_grid (plan.identity % 3)) (slot_few half) rows.last
      (omega (arith, at.place, place)) (primary_sent carrier plan grids carries ((sfn + at.frame) % 1024) half)

  -- the received samples one symbol earlier
  pub secondary_is : (half : Half) → IsTruePlace offset t half → symbol_step prefix ≤ t → (n : ℕ) → n < 128 →
      received_from carrier grids sfn offset gains (t - symbol_step prefix + n) ≡ times (value_at gains 0) (useful_at (sss_grid (plan.identity / 3) (plan.identity % 3) half) n)
  secondary_is half at first =
      let rows = signal_rows half prefix (prefix_known carrier) in
      let place = rows.secondary in
      signal_received carrier grids sfn offset gains (t - symbol_step prefix) at.frame (2 * subframe_of half) (symbols_of_slot prefix - 2)
      (sss_grid (plan.identity / 3) (plan.identity % 3) half) (slot_few half) rows.before (omega (arith, at.place, place, first))
      (secondary_sent carrier plan grids carries ((sfn + at.frame) % 1024) half)

-- a received symbol with errors of at most this ratio
pub received_with : (carrier : Carrier) (recording : List Sample) (grids : Port → Elements) (sfn offset : ℕ) (gains : List Cpx) (start : ℕ) (grid : ℕ → Cpx) → 2 ^ 28 ≤ square (value_at gains 0) →
    ((n : ℕ) → n < 128 → received_from carrier grids sfn offset gains (start + n) ≡ times (value_at gains 0) (useful_at grid n)) →
    errors_from carrier recording grids sfn offset gains start ≤ 1800 * square (value_at gains 0) → IsReceived 1800 (value_at gains 0) grid (samples_from recording start)
received_with carrier recording grids sfn offset gains start grid sounds is quiet = record {
  sounds = sounds;
  quiet = subst (λ (energy : ℕ). energy ≤ 1800 * square (value_at gains 0))
      (energy_same 128 (off_by (samples_from recording start) (λ n. received_from carrier grids sfn offset gains (start + n))) (off_by (samples_from recording start) (λ n. times (value_at gains 0) (useful_at grid n)))
      (λ n c. ap (minus (in_parts (samples_from recording start n))) (is n c)))
      quiet;
}

-- the receiver reads a primary signal near the PSS search range
pub is_primary : (carrier : Carrier) (half : Half) (t : ℕ) → symbol_step (prefix_of carrier) ≤ t + 9 → t ≤ 19345 →
    IsOfPrimary carrier (2 * subframe_of half) (symbols_of_slot (prefix_of carrier) - 1) t
is_primary carrier half t low high =
    let many = (signal_rows half (prefix_of carrier) (prefix_known carrier)).many in
    record { half = half; slot_is = refl; last = omega (arith, many); from_first = low; to_last = high }

-- the receiver reads the secondary signal before a primary one in the range's later half frame
pub is_secondary : (carrier : Carrier) (half : Half) (t : ℕ) → 9737 ≤ t → t ≤ 19336 →
    IsOfSecondary carrier (2 * subframe_of half) (symbols_of_slot (prefix_of carrier) - 2) (t - symbol_step (prefix_of carrier))
is_secondary carrier half t low high =
    let rows = signal_rows half (prefix_of carrier) (prefix_known carrier) in
    let many = rows.many in
    let step = rows.step in
    record { half = half; slot_is = refl; before = omega (arith, many); from_middle = omega (arith, low, step); to_last = omega (arith, low, high, step) }

module _ (carrier : Carrier) (recording : List Sample) (plan : CellPlan) (grids : Port → Elements) (sfn offset : ℕ) (gains : List Cpx)
    (faithful : IsFaithfulBy carrier recording plan grids sfn offset gains) (t : ℕ) where
  abbrev own_prefix : Prefix
  own_prefix = prefix_of carrier

  -- a received symbol with small errors
  with_errors : (start : ℕ) (grid : ℕ → Cpx) → ((n : ℕ) → n < 128 → received_from carrier grids sfn offset gains (start + n) ≡ times (value_at gains 0) (useful_at grid n)) →
      IsLittle carrier gains (errors_from carrier recording grids sfn offset gains start) → IsReceived 1800 (value_at gains 0) grid (samples_from recording start)
  with_errors start grid is little =
      received_with carrier recording grids sfn offset gains start grid faithful.gains_are.sounds is
      (little_beside carrier gains (errors_from carrier recording grids sfn offset gains start) little)

  primary_looked : (half : Half) (frame : ℕ) → symbol_step own_prefix ≤ t + 9 → t ≤ 19345 → IsLookedAt carrier sfn offset frame (2 * subframe_of half) (symbols_of_slot own_prefix - 1) t
  primary_looked half frame low high = inr (inr (inl (is_primary carrier half t low high)))

  pub primary_received : (half : Half) → IsTruePlace offset t half → symbol_step own_prefix ≤ t + 9 → t ≤ 19345 → IsReceived 1800 (value_at gains 0) (pss_grid (plan.identity % 3)) (samples_from recording t)
  primary_received half at low high =
      let rows = signal_rows half own_prefix (prefix_known carrier) in
      let place = rows.primary in
      with_errors t (pss_grid (plan.identity % 3)) (primary_is carrier plan grids faithful.carries sfn offset gains t half at)
      (faithful.near at.frame (2 * subframe_of half) (symbols_of_slot own_prefix - 1) t (slot_few half) rows.last (omega (arith, at.place, place)) (primary_looked half at.frame low high))

  secondary_looked : (half : Half) (frame : ℕ) → 9737 ≤ t → t ≤ 19336 → IsLookedAt carrier sfn offset frame (2 * subframe_of half) (symbols_of_slot own_prefix - 2) (t - symbol_step own_prefix)
  secondary_looked half frame low high = inr (inr (inr (is_secondary carrier half t low high)))

  pub secondary_received : (half : Half) → IsTruePlace offset t half → 9737 ≤ t → t ≤ 19336 →
      IsReceived 1800 (value_at gains 0) (sss_grid (plan.identity / 3) (plan.identity % 3) half) (samples_from recording (t - symbol_step own_prefix))
  secondary_received half at low high =
      let rows = signal_rows half own_prefix (prefix_known carrier) in
      let place = rows.secondary in
      let step = rows.step in
      let first : symbol_step own_prefix ≤ t = omega (arith, low, step) in
      with_errors (t - symbol_step own_prefix) (sss_grid (plan.identity / 3) (plan.identity % 3) half) (secondary_is carrier plan grids faithful.carries sfn offset gains t half at first)
      (faithful.near at.frame (2 * subframe_of half) (symbols_of_slot own_prefix - 2) (t - symbol_step own_prefix) (slot_few half) rows.before (omega (arith, at.place, place, first)) (secondary_looked half at.frame low high))

  -- a primary signal is received at its position
  pub primary_at : (half : Half) → IsTruePlace offset t half → symbol_step own_prefix ≤ t + 9 → t ≤ 19345 → IsPrimaryAt recording t (plan.identity % 3)
  primary_at half at low high = record { gain = value_at gains 0; root = omega arith; received = primary_received half at low high }

  -- the secondary signal before it is received, too
  pub signals_at : (half : Half) → IsTruePlace offset t half → 9737 ≤ t → t ≤ 19336 → plan.identity ≤ 503 → AreSignals own_prefix recording t (plan.identity / 3) (plan.identity % 3) half
  signals_at half at low high known =
      let step = (signal_rows half own_prefix (prefix_known carrier)).step in
      record {
        group = omega (arith, known);
        root = omega arith;
        gain = value_at gains 0;
        primary = primary_received half at (omega (arith, low, step)) (omega (arith, high));
        secondary = secondary_received half at low high;
      }

-- a clean primary signal stands out
pub clean_primary_stands : (recording : List Sample) (t n2 : ℕ) → IsPrimaryAt recording t n2 → StandsOutBy 250 recording t n2
clean_primary_stands recording t n2 primary = primary_stands_by_rule recording t n2 (record {
  gain = primary.gain;
  root = primary.root;
  received = is_received_by_more 1800 14000 primary.gain (pss_grid n2) (samples_from recording t) (omega arith) primary.received;
})

-- the recording contains the synchronisation signals where the receiver reads them
pub signals_shown : (carrier : Carrier) (recording : List Sample) (plan : CellPlan) (grids : Port → Elements) (sfn offset : ℕ) (gains : List Cpx) → IsFaithfulBy carrier recording plan grids sfn offset gains →
    plan.identity ≤ 503 → ShowsSignals carrier recording plan.identity offset
signals_shown carrier recording plan grids sfn offset gains faithful known = record {
  primary = λ t half at low high. clean_primary_stands recording t (plan.identity % 3) (primary_at carrier recording plan grids sfn offset gains faithful t half at low high);
  both = λ t half at middle high.
      signals_are_through (prefix_of carrier) recording t (plan.identity / 3) (plan.identity % 3) half
      (signals_at carrier recording plan grids sfn offset gains faithful t half at (omega (arith, middle)) high known);
}
