-- Symbols that a cell of any scheme sends: each is received from all its ports, and those that a receiver reads have
-- small errors.
use Rattle.std.proofs.Common.{◌≡◌, ℕ, ◌+◌, ◌*◌, ◌/◌, ◌%◌, ◌<◌, ◌≤◌, arith, inl, inr, refl, ap, ap₂, sym, subst, ◌∙◌, List}
use Rattle.std.proofs.lemmas.Bool.Decides.{nat_tests}
use Rattle.cs_num.specs.declared.Cpx.{Cpx}
use Rattle.cs_num.specs.declared.Sample.{Sample}
use Rattle.cs_num.specs.Complex.{plus, times, minus, value_at}
use Rattle.norms.specs.Magnitudes.{energy_below}
use Rattle.norms.proofs.Cauchy.{energy_same}
use Rattle.fold128.specs.Symbol.{useful_at}
use Rattle.budget.specs.Received.{in_parts, off_by, samples_from}
use Rattle.lte_types.specs.declared.carrier.Carrier.{Carrier}
use Rattle.lte_types.specs.declared.carrier.Carrier.TheVariants.{OnePort, TwoPorts, LongPrefix, FourPorts}
use Rattle.lte_types.specs.declared.frame.Half.{Half}
use Rattle.lte_types.specs.declared.numerology.Prefix.{Prefix}
use Rattle.lte_types.specs.Carrier.{prefix_of}
use Rattle.lte_types.specs.Numerology.{IsPrefix, symbols_of_slot, useful_start}
use Rattle.lte_types.specs.Timing.{start_of, number_at_start}
use Rattle.cell_grid.specs.declared.antenna.Port.{Port}
use Rattle.cell_plan.specs.declared.cell.CellPlan.{CellPlan}
use Rattle.cell_tx.specs.Emission.{mixed}
use Rattle.cell_grid.specs.Ports.{IsPortOf, only_port, first_port, second_port, long_port, port_of_four, port_prefix}
use Rattle.cell_grid.specs.Grid.{Elements}
use Rattle.cell_tx.specs.Sent.{prefix_sent}
use Rattle.cell_tx.proofs.Symbols.{frames_follow, useful_parts_stand, in_useful}
use Rattle.clean_air.specs.Load.{received_from}
use Rattle.clean_air.specs.Faithful.{IsLittle, IsLookedAt, IsFaithfulBy, first_frame_of}
use Rattle.clean_air.specs.Through.{IsPrimaryPlace}

-- ---- a symbol

-- samples of a frame's symbol, with either prefix
pub prefix_sent_symbol : (prefix : Prefix) (grid : Elements) (sfn j slot l n : ℕ) → IsPrefix prefix → slot < 20 → l < symbols_of_slot prefix → n < 128 →
    prefix_sent prefix grid sfn (19200 * j + (useful_start prefix 0 slot l + n)) ≡ useful_at (grid ((sfn + j) % 1024) (slot / 2) (symbols_of_slot prefix * (slot % 2) + l)) n
prefix_sent_symbol prefix grid sfn j slot l n known a b c =
    let inside = (in_useful prefix l n known b c).inside in
    frames_follow prefix grid sfn j (useful_start prefix 0 slot l + n) (omega (arith, a, inside)) ∙ useful_parts_stand prefix grid ((sfn + j) % 1024) slot l n known b c

-- values that are equal at all ports of a scheme are received as equal
pub mixed_same : (carrier : Carrier) (a b : Port → Cpx) (gains : List Cpx) → ((port : Port) → IsPortOf carrier port → a port ≡ b port) → mixed carrier a gains ≡ mixed carrier b gains
mixed_same OnePort a b gains same = ap (times (value_at gains 0)) (same only_port (refl, omega arith))
mixed_same TwoPorts a b gains same = ap₂ (λ (x y : Cpx). plus (times (value_at gains 0) x) (times (value_at gains 1) y)) (same first_port (refl, omega arith)) (same second_port (refl, omega arith))
mixed_same LongPrefix a b gains same = ap (times (value_at gains 0)) (same long_port (refl, omega arith))
mixed_same FourPorts a b gains same =
    ap₂ plus
    (ap₂ (λ (x y : Cpx). plus (times (value_at gains 0) x) (times (value_at gains 1) y)) (same (port_of_four 0) (refl, omega arith)) (same (port_of_four 1) (refl, omega arith)))
    (ap₂ (λ (x y : Cpx). plus (times (value_at gains 2) x) (times (value_at gains 3) y)) (same (port_of_four 2) (refl, omega arith)) (same (port_of_four 3) (refl, omega arith)))

pub prefix_known : (carrier : Carrier) → IsPrefix (prefix_of carrier)
prefix_known OnePort = inl refl
prefix_known TwoPorts = inl refl
prefix_known LongPrefix = inr refl
prefix_known FourPorts = inl refl

module _ (carrier : Carrier) (grids : Port → Elements) (sfn offset : ℕ) (gains : List Cpx) (frame slot symbol start : ℕ) (few : slot < 20) (row : symbol < symbols_of_slot (prefix_of carrier))
    (place : start + offset ≡ 19200 * frame + useful_start (prefix_of carrier) 0 slot symbol) where
  -- the received samples from the start of the useful part
  pub symbol_received : (n : ℕ) → n < 128 →
      received_from carrier grids sfn offset gains (start + n) ≡ mixed carrier (λ port. useful_at (grids port ((sfn + frame) % 1024) (slot / 2) (symbols_of_slot (prefix_of carrier) * (slot % 2) + symbol)) n) gains
  symbol_received n c =
      mixed_same carrier (λ port. prefix_sent (port_prefix port) (grids port) sfn (start + n + offset))
      (λ port. useful_at (grids port ((sfn + frame) % 1024) (slot / 2) (symbols_of_slot (prefix_of carrier) * (slot % 2) + symbol)) n) gains each
    where
      there : start + n + offset ≡ 19200 * frame + (useful_start (prefix_of carrier) 0 slot symbol + n)
      there = omega (arith, place)

      own : (grid : Elements) →
          prefix_sent (prefix_of carrier) grid sfn (start + n + offset) ≡ useful_at (grid ((sfn + frame) % 1024) (slot / 2) (symbols_of_slot (prefix_of carrier) * (slot % 2) + symbol)) n
      own grid = ap (prefix_sent (prefix_of carrier) grid sfn) there ∙ prefix_sent_symbol (prefix_of carrier) grid sfn frame slot symbol n (prefix_known carrier) few row c

      each : (port : Port) → IsPortOf carrier port →
          prefix_sent (port_prefix port) (grids port) sfn (start + n + offset) ≡ useful_at (grids port ((sfn + frame) % 1024) (slot / 2) (symbols_of_slot (prefix_of carrier) * (slot % 2) + symbol)) n
      each port same =
          subst (λ (c : Carrier). prefix_sent (prefix_of c) (grids port) sfn (start + n + offset) ≡ useful_at (grids port ((sfn + frame) % 1024) (slot / 2) (symbols_of_slot (prefix_of carrier) * (slot % 2) + symbol)) n)
          (sym same.0) (own (grids port))

-- the errors of a symbol that is read are small
pub symbol_off : (carrier : Carrier) (recording : List Sample) (plan : CellPlan) (grids : Port → Elements) (sfn offset : ℕ) (gains : List Cpx) → IsFaithfulBy carrier recording plan grids sfn offset gains →
    (frame slot symbol start : ℕ) → slot < 20 → symbol < symbols_of_slot (prefix_of carrier) → start + offset ≡ 19200 * frame + useful_start (prefix_of carrier) 0 slot symbol →
    IsLookedAt carrier sfn offset frame slot symbol start →
    IsLittle carrier gains (energy_below 128 (off_by (samples_from recording start)
    (λ n. mixed carrier (λ port. useful_at (grids port ((sfn + frame) % 1024) (slot / 2) (symbols_of_slot (prefix_of carrier) * (slot % 2) + symbol)) n) gains)))
symbol_off carrier recording plan grids sfn offset gains faithful frame slot symbol start few row place looked =
    let sent : ℕ → Cpx = λ n. mixed carrier (λ port. useful_at (grids port ((sfn + frame) % 1024) (slot / 2) (symbols_of_slot (prefix_of carrier) * (slot % 2) + symbol)) n) gains in
    subst (λ (energy : ℕ). IsLittle carrier gains energy)
    (energy_same 128 (off_by (samples_from recording start) (λ n. received_from carrier grids sfn offset gains (start + n))) (off_by (samples_from recording start) sent)
    (λ n c. ap (minus (in_parts (samples_from recording start n))) (symbol_received carrier grids sfn offset gains frame slot symbol start few row place n c)))
    (faithful.near frame slot symbol start few row place looked)

-- ---- positions

-- a position of the recording at which a primary signal of the cell begins
abbrev pub IsTruePlace : ℕ → ℕ → Half → Type 0
IsTruePlace = IsPrimaryPlace

-- the first frame that begins in the recording
pub record IsFirstFrame (sfn offset j : ℕ) : Type 0 where
  pub place : start_of offset + offset ≡ 19200 * j
  pub number : (sfn + j) % 1024 ≡ number_at_start sfn offset

pub first_frame : (sfn offset : ℕ) → sfn ≤ 1023 → offset < 19200 → IsFirstFrame sfn offset (first_frame_of offset)
first_frame sfn offset known within = record { place = grind (arith, nat_tests); number = grind (arith, nat_tests) }
