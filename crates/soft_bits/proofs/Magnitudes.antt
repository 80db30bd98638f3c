-- Bounds on the values received and sent at the pilots.
use Rattle.std.proofs.Common.{◌≡◌, ℕ, ◌*◌, ◌^◌, ◌≤◌, ◌/◌, ◌+◌, ◌⊎◌, arith, inl, inr, List, [], ◌∷◌, All, get_or, slice_index_or, ℤ, zero, suc}
use Rattle.std.proofs.lemmas.List.Elements.{All-nil, All-head, All-tail}
use Rattle.std.specs.Prelude.{nat_abs}
use Rattle.cs_num.specs.declared.Cpx.{Cpx}
use Rattle.cs_num.specs.Complex.{IsWithin, nothing, square, value_at}
use Rattle.cs_num.proofs.Complex.{square-within}
use Rattle.finite.proofs.Sums.{total_below-within}
use Rattle.crs.specs.Qpsk.{IsFull}
use Rattle.crs.specs.declared.pattern.Pattern.{Pattern}
use Rattle.crs.specs.Reference.{pattern_reference}
use Rattle.crs.proofs.Values.{pattern_reference-IsPoint}
use Rattle.soft_bits.specs.Soft.{SeenSlot, AreSmall, seen_at}
use Rattle.lte_types.specs.declared.carrier.Carrier.{Carrier}
use Rattle.lte_types.specs.Carrier.{ports_of}
use Rattle.soft_bits.specs.Lines.{Line, line_of, line_place, line_seen, line_energy, port_energy, ports_energy}
use Rattle.soft_bits.proofs.Lines.{is_line}

-- a property of all values and of the default holds at each index
all_at : {A : Type 0} (P : A → Type 0) (xs : List A) (i : ℕ) (d : A) → P d → All P xs → P (get_or xs i d)
all_at P [] i d base all = base
all_at P (x ∷ xs) zero d base all = All-head P x xs all
all_at P (x ∷ xs) (suc i) d base all = all_at P xs i d base (All-tail P x xs all)

full_within : (z : ℤ) → IsFull z → nat_abs z ≤ 90
full_within z (inl e) = rw e (omega arith)
full_within z (inr e) = rw e (omega arith)

pub value_at-within : (values : List Cpx) (k : ℕ) → All (IsWithin (2 ^ 25)) values → IsWithin (2 ^ 25) (value_at values k)
value_at-within values k small = all_at (IsWithin (2 ^ 25)) values k nothing (record { re = omega arith; im = omega arith }) small

pub seen_at-within : (slot : SeenSlot) (symbol k : ℕ) → AreSmall slot.symbols → IsWithin (2 ^ 25) (seen_at slot symbol k)
seen_at-within slot symbol k small =
    value_at-within (slice_index_or slot.symbols symbol []) k
    (all_at (All (IsWithin (2 ^ 25))) slot.symbols symbol [] (All-nil (IsWithin (2 ^ 25))) small)

pub pattern_reference-within : (pattern : Pattern) (identity number symbol m : ℕ) → IsWithin 90 (pattern_reference pattern identity number symbol m)
pattern_reference-within pattern identity number symbol m =
    let full = pattern_reference-IsPoint pattern identity number symbol m in
    record { re = full_within _ full.re; im = full_within _ full.im }

-- ---- any line

pub line_seen-within : (line : Line) (slot : SeenSlot) (i : ℕ) → AreSmall slot.symbols → IsWithin (2 ^ 25) (line_seen line slot i)
line_seen-within line slot i small = seen_at-within slot (line.symbol i) (line_place line i) small

pub line_energy-within : (line : Line) (slot : SeenSlot) → AreSmall slot.symbols → line_energy line slot ≤ (line.last + 1) * 2 ^ 51
unfolding line_energy
line_energy-within line slot small =
    total_below-within (line.last + 1) (2 ^ 51) (λ i. square (line_seen line slot i))
    (λ i few. let h = square-within (line_seen line slot i) (2 ^ 25) (line_seen-within line slot i small) in omega (arith, h))

-- a port's energy, scaled to 24 pilots
pub as_24 : (step last energy : ℕ) → ((step ≡ 3) × (last ≡ 23)) ⊎ ((step ≡ 6) × (last ≡ 11)) → energy ≤ (last + 1) * 2 ^ 51 → step / 3 * energy ≤ 24 * 2 ^ 51
as_24 step last energy (inl (s, l)) few = rw s (omega (arith, rw l at few))
as_24 step last energy (inr (s, l)) few = rw s (omega (arith, rw l at few))

pub port_energy-within : (carrier : Carrier) (slot : SeenSlot) (port : ℕ) → AreSmall slot.symbols → port_energy carrier slot port ≤ 24 * 2 ^ 51
port_energy-within carrier slot port small =
    let line = line_of carrier port slot in
    as_24 line.step line.last (line_energy line slot) (is_line carrier port slot).count (line_energy-within line slot small)

pub ports_energy-within : (carrier : Carrier) (slot : SeenSlot) → AreSmall slot.symbols → ports_energy carrier slot ≤ ports_of carrier * (24 * 2 ^ 51)
unfolding ports_energy
ports_energy-within carrier slot small =
    total_below-within (ports_of carrier) (24 * 2 ^ 51) (port_energy carrier slot) (λ port few. port_energy-within carrier slot port small)
