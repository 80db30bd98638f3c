-- Pilots of a slot that is observed with one gain: each is close to a multiple of the gain.
use Rattle.std.proofs.Common.{ℕ, ◌*◌, ◌<◌, ◌≤◌, arith}
use Rattle.cs_num.specs.declared.Cpx.{Cpx}
use Rattle.cs_num.specs.Complex.{square}
use Rattle.crs.specs.declared.pattern.Pattern.{Pattern}
use Rattle.soft_bits.specs.Soft.{SeenSlot, pattern_seen, pattern_sent, pattern_pilot}
use Rattle.clean_air.specs.Values.{ArePatternSeen}
use Rattle.budget.proofs.Near.{IsNear}
use Rattle.budget.proofs.Deviations.{deviation-bounded}
use Rattle.budget.proofs.Pilots.{IsPilot, sent-size, turned_pilot-near}

pub clean_pilots : (most : ℕ) (pattern : Pattern) (gain : Cpx) (slot : SeenSlot) → ArePatternSeen most pattern gain slot → (i : ℕ) → i < 24 →
    IsPilot most (square gain) gain (pattern_sent pattern slot.identity slot.number i) (pattern_seen pattern slot i)
clean_pilots most pattern gain slot seen i l = record {
  full = sent-size pattern slot.identity slot.number i;
  seen = deviation-bounded most (square gain) gain (pattern_sent pattern slot.identity slot.number i) (pattern_seen pattern slot i) (seen.pilot i l);
}

-- a QPSK symbol's squared magnitude, 16200, is below 128^2
in_gain : (n : ℕ) (gain : Cpx) (c t : ℕ) (z : Cpx) → IsNear (16200 * n) gain c t z → IsNear n gain c (128 * t) z
in_gain n gain c t z near = record {
  off = near.off;
  is = near.is;
  small = record { bounded = wider (square near.off) near.small.bounded };
}
  where
    wider : (s : ℕ) → s ≤ t * t * (16200 * n) → s ≤ 128 * t * (128 * t) * n
    wider s h = omega (arith, h)

pub pilot-near : (most : ℕ) (pattern : Pattern) (gain : Cpx) (slot : SeenSlot) (i : ℕ) → i < 24 → ArePatternSeen most pattern gain slot →
    IsNear (square gain) gain 1036800 (128 * most) (pattern_pilot pattern slot i)
unfolding pattern_pilot
pilot-near most pattern gain slot i l seen =
    in_gain (square gain) gain 1036800 most (pattern_pilot pattern slot i)
    (turned_pilot-near most (square gain) gain (pattern_sent pattern slot.identity slot.number i) (pattern_seen pattern slot i) (clean_pilots most pattern gain slot seen i l))
