-- The symbols in which frames differ.
use Rattle.std.proofs.Common.{◌≡◌, ℕ, ◌+◌, ◌*◌, Bool, false, sym, subst, None}
use Rattle.std.proofs.lemmas.Bool.{or_parts}
use Rattle.lte_types.specs.declared.carrier.Carrier.{Carrier}
use Rattle.lte_types.specs.Carrier.{prefix_of, has_control_by}
use Rattle.lte_types.specs.Numerology.{symbols_of_slot}
use Rattle.cell_grid.specs.declared.antenna.Port.{Port}
use Rattle.cell_plan.specs.declared.cell.CellPlan.{CellPlan}
use Rattle.cell_grid.specs.Ports.{port_by}
use Rattle.cell_tx.specs.declared.frame_symbols.Symbols.{Symbols}
use Rattle.cell_grid.specs.Grid.{port_element}
use Rattle.cell_tx.specs.Starts.{first_sample}
use Rattle.cell_tx.specs.Emitting.{is_between, sent_in_frame, AreOwn}
use Rattle.cell_tx.proofs.Changes.{outside}
use Rattle.cell_tx.proofs.Frames.{IsOutside, element_same, element_same_without, sample_same, sample_same_without}
use Rattle.cell_grid.proofs.Prefixes.{prefix_known}

-- the first four symbols in slot 1, and subframe 5
abbrev pub channels_of : ℕ → Symbols
channels_of n = record { first = n; last = n + 4; again = 10 * n; end = 12 * n }

abbrev pub broadcast_of : ℕ → Symbols
broadcast_of n = record { first = n; last = n + 4; again = n + 4; end = n + 4 }

-- a port transmits the same in both frames
abbrev IsSame : CellPlan → ℕ → ℕ → ℕ → Port → Type 0
IsSame plan a b i port = sent_in_frame None port plan a i ≡ sent_in_frame None port plan b i

-- a port of the transmission scheme, by its number
of_carrier : (P : Port → Type 0) (port : Port) (carrier : Carrier) → port.carrier ≡ carrier → P (port_by carrier port.number) → P port
of_carrier P port carrier is there = subst (λ (c : Carrier). P (port_by c port.number)) (sym is) there

abbrev span : Carrier → ℕ → ℕ → ℕ → Bool
span carrier first last i = is_between (first_sample (prefix_of carrier) first) (first_sample (prefix_of carrier) last) i

beside : (carrier : Carrier) (first last i : ℕ) → span carrier first last i ≡ false → IsOutside (prefix_of carrier) first last i
beside carrier first last i e = outside (first_sample (prefix_of carrier) first) (first_sample (prefix_of carrier) last) i e

pub own_of : (carrier : Carrier) → AreOwn carrier None (channels_of (symbols_of_slot (prefix_of carrier)))
own_of carrier port plan a b i is inside e =
    let n : ℕ = symbols_of_slot (prefix_of carrier) in
    let parts = or_parts (span carrier n (n + 4) i) (span carrier (10 * n) (12 * n) i) e in
    let own : Port = port_by carrier port.number in
    of_carrier (IsSame plan a b i) port carrier is
    (sample_same (prefix_of carrier) (prefix_known carrier) (port_element own plan) a b i (beside carrier n (n + 4) i parts.0) (element_same own plan a b) (beside carrier (10 * n) (12 * n) i parts.1))

pub own_without : (carrier : Carrier) → has_control_by carrier ≡ false → AreOwn carrier None (broadcast_of (symbols_of_slot (prefix_of carrier)))
own_without carrier without port plan a b i is inside e =
    let n : ℕ = symbols_of_slot (prefix_of carrier) in
    let parts = or_parts (span carrier n (n + 4) i) (span carrier (n + 4) (n + 4) i) e in
    let own : Port = port_by carrier port.number in
    of_carrier (IsSame plan a b i) port carrier is
    (sample_same_without (prefix_of carrier) (prefix_known carrier) (port_element own plan) a b i (beside carrier n (n + 4) i parts.0) (element_same_without own plan a b without))
