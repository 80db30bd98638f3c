-- Agreement between a soft value and a bit: a positive value means 0, a negative one 1 (own).
use Rattle.std.specs.Prelude.{◌≡◌, ℕ, suc, ◌<◌, Bool, true, false, not, ℤ, pos, negsuc, neg_ℤ, ◌≤ℤ◌}

-- the magnitude of a soft value whose sign contradicts the bit, otherwise 0
abbrev pub disagreement : ℤ → Bool → ℕ
disagreement (pos n) true = n
disagreement (pos n) false = 0
disagreement (negsuc n) true = 0
disagreement (negsuc n) false = suc n

-- the soft value `z` does not contradict the bit `b`
abbrev pub Allows : ℤ → Bool → Type 0
Allows z b = disagreement z b ≡ 0

-- the soft value `z` has the sign of the bit `b`: it is not 0 and does not contradict the bit
pub record SpeaksFor (z : ℤ) (b : Bool) : Type 0 where
  pub free : Allows z b
  pub costs : 0 < disagreement z (not b)

-- the soft value `z` has the sign of its bit and a magnitude of at least `least`; if `least` is 0, `z` may be 0
abbrev pub Supports : ℕ → Bool → ℤ → Type 0
Supports least false z = pos least ≤ℤ z
Supports least true z = z ≤ℤ neg_ℤ (pos least)
