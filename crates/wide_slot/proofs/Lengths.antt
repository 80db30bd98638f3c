-- Lengths of lists of pilots.
use Rattle.std.proofs.Common.{◌≡◌, ◌⊎◌, ◌*◌, ◌/◌, ◌^◌, ◌<◌, ◌≤◌, ℕ, arith, inl, inr, refl, subst, List, length}
use Rattle.std.proofs.Math.Nat.{div-mul-le_self, mul_assoc}
use Rattle.std.proofs.lemmas.Nat.{mul-le}
use Rattle.cs_num.specs.Complex.{IsWithin, multiple, largest_part}
use Rattle.cs_num.proofs.Complex.{multiple-within, within_more, largest_part-le}
use Rattle.halving.specs.Wide.{Wide}
use Rattle.wide_cell.specs.Cell.{Cell, IsPortCount}
use Rattle.wide_slot.specs.Slot.{slot_from, seen_slot}
use Rattle.soft_bits.specs.Soft.{SeenSlot}
use Rattle.finite.proofs.Lists.{values_below-length}
use Rattle.cs_num.specs.declared.Cpx.{Cpx}
use Rattle.wide_slot.specs.declared.weights.Weights.{Weights}
use Rattle.wide_slot.specs.Lines.{smoothed_at, smoothed}

pub smoothed-length : (weights : Weights) (pilots : List Cpx) → length (smoothed weights pilots) ≡ length pilots
unfolding smoothed
smoothed-length weights pilots = values_below-length (length pilots) (smoothed_at weights pilots)

pub steps : (step : ℕ) → (step ≡ 3) ⊎ (step ≡ 6) → (1 ≤ step) × (step ≤ 6)
steps step (inl e) = (omega (arith, e), omega (arith, e))
steps step (inr e) = (omega (arith, e), omega (arith, e))

pub ports_few : (ports : ℕ) → IsPortCount ports → ports ≤ 4
ports_few ports (inl e) = omega (arith, e)
ports_few ports (inr (inl e)) = omega (arith, e)
ports_few ports (inr (inr e)) = omega (arith, e)

-- a slot is the slot with its own symbols
pub own_symbols : (wide : Wide) (cell : Cell) (frame number : ℕ) → ◌≡◌ {A = SeenSlot} (slot_from (seen_slot wide cell frame number).symbols cell number) (seen_slot wide cell frame number)
unfolding seen_slot
own_symbols wide cell frame number = refl

-- ---- channels

scaled_few : (a s m : ℕ) → a / s * (s * m) ≤ a * m
scaled_few a s m = subst (λ (n : ℕ). n ≤ a * m) (mul_assoc (a / s) s m) (mul-le (a / s * s) m a m (div-mul-le_self a s) (omega arith))

pub channel-within : (scale step : ℕ) (z : Cpx) → scale ≤ 6 → IsWithin (step * (1440 * 2 ^ 25)) z → IsWithin (8640 * 2 ^ 25) (multiple (scale / step) z)
channel-within scale step z few small =
    within_more _ (scale / step * (step * (1440 * 2 ^ 25))) (8640 * 2 ^ 25) (multiple-within (scale / step) z (step * (1440 * 2 ^ 25)) small)
    (let h = scaled_few scale step (1440 * 2 ^ 25) in omega (arith, h, few))

pub channel_has_room : (scale step : ℕ) (z : Cpx) → scale ≤ 6 → IsWithin (step * (1440 * 2 ^ 25)) z → scale / step * largest_part z < 2 ^ 63
channel_has_room scale step z few small =
    let part = mul-le (scale / step) (largest_part z) (scale / step) (step * (1440 * 2 ^ 25)) (omega arith) (largest_part-le z _ small) in
    let h = scaled_few scale step (1440 * 2 ^ 25) in
    omega (arith, part, h, few)
