-- Bounds, and the numbers of points at each rate.
use Rattle.std.proofs.Common.{◌≡◌, ℕ, zero, suc, ◌+◌, ◌-◌, ◌*◌, ◌/◌, ◌^◌, ◌<◌, ◌≤◌, arith, refl}
use Rattle.cs_num.specs.declared.Cpx.{Cpx}
use Rattle.cs_num.specs.Complex.{IsWithin}
use Rattle.cs_num.specs.Rounding.{rounded}
use Rattle.cs_num.proofs.Rounding.{rounds_within}
use Rattle.fold128.specs.Folding.{seen_of_four}
use Rattle.fold128.proofs.FoldSizes.{quartet-small}
use Rattle.wide_cell.specs.Cell.{points}

pub folded-small : (r : ℕ) (a b c d : Cpx) → r < 4 → IsWithin 32768 a → IsWithin 32768 b → IsWithin 32768 c → IsWithin 32768 d →
    IsWithin 131072 (seen_of_four r a b c d)
folded-small zero a b c d few ha hb hc hd = (quartet-small a b c d ha hb hc hd).zero
folded-small (suc zero) a b c d few ha hb hc hd = (quartet-small a b c d ha hb hc hd).one
folded-small (suc (suc zero)) a b c d few ha hb hc hd = (quartet-small a b c d ha hb hc hd).two
folded-small (suc (suc (suc zero))) a b c d few ha hb hc hd = (quartet-small a b c d ha hb hc hd).three
folded-small (suc (suc (suc (suc r)))) a b c d few ha hb hc hd = absurd (omega (arith, few))

-- ---- by rate

-- T's index advances by 2,048 over a symbol
pub quarter_of_points : (rate : ℕ) → rate ≤ 4 → 2 ^ (4 - rate) * (points rate / 4) ≡ 512
quarter_of_points zero few = refl
quarter_of_points (suc zero) few = refl
quarter_of_points (suc (suc zero)) few = refl
quarter_of_points (suc (suc (suc zero))) few = refl
quarter_of_points (suc (suc (suc (suc zero)))) few = refl
quarter_of_points (suc (suc (suc (suc (suc n))))) few = absurd (omega (arith, few))

pub points_of_quarter : (rate : ℕ) → 4 * (points rate / 4) ≡ points rate
points_of_quarter rate = omega arith

pub quarter_few : (rate : ℕ) → rate ≤ 4 → points rate / 4 ≤ 512
quarter_few zero few = omega arith
quarter_few (suc zero) few = omega arith
quarter_few (suc (suc zero)) few = omega arith
quarter_few (suc (suc (suc zero))) few = omega arith
quarter_few (suc (suc (suc (suc zero)))) few = omega arith
quarter_few (suc (suc (suc (suc (suc n))))) few = absurd (omega (arith, few))

pub step_small : (rate f : ℕ) → rate ≤ 4 → f < points rate → 2 ^ (4 - rate) * f < 2048
step_small zero f few h = omega (arith, h)
step_small (suc zero) f few h = omega (arith, h)
step_small (suc (suc zero)) f few h = omega (arith, h)
step_small (suc (suc (suc zero))) f few h = omega (arith, h)
step_small (suc (suc (suc (suc zero)))) f few h = omega (arith, h)
step_small (suc (suc (suc (suc (suc n))))) f few h = absurd (omega (arith, few))

rounded_by : (z : Cpx) (bits half bound : ℕ) → 2 ^ (bits - 1) ≡ half → 2 ^ bits ≡ 2 * half → 0 < half → IsWithin bound z → bound < 2 ^ 25 * (2 * half) + half →
    IsWithin (2 ^ 25) (rounded z bits)
rounded_by z bits half bound e f some small room = rw (e, f) (record {
  re = rounds_within z.re half (2 ^ 25) some (omega (arith, small.re, room));
  im = rounds_within z.im half (2 ^ 25) some (omega (arith, small.im, room));
})

pub rounded_small : (rate : ℕ) (z : Cpx) → rate ≤ 4 → IsWithin (points rate / 4 * 2 ^ 36) z → IsWithin (2 ^ 25) (rounded z (16 + rate))
rounded_small zero z few h = rounded_by z 16 (2 ^ 15) (2 ^ 41) refl refl (omega arith) h (omega arith)
rounded_small (suc zero) z few h = rounded_by z 17 (2 ^ 16) (2 ^ 42) refl refl (omega arith) h (omega arith)
rounded_small (suc (suc zero)) z few h = rounded_by z 18 (2 ^ 17) (2 ^ 43) refl refl (omega arith) h (omega arith)
rounded_small (suc (suc (suc zero))) z few h = rounded_by z 19 (2 ^ 18) (2 ^ 44) refl refl (omega arith) h (omega arith)
rounded_small (suc (suc (suc (suc zero)))) z few h = rounded_by z 20 (2 ^ 19) (2 ^ 45) refl refl (omega arith) h (omega arith)
rounded_small (suc (suc (suc (suc (suc n))))) z few h = absurd (omega (arith, few))
