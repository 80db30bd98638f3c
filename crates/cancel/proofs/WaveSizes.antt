-- Magnitudes of PSS samples.
use Rattle.std.proofs.Common.{◌≡◌, ◌∙◌, ℕ, ◌*◌, ◌<◌, ◌≤◌, arith, sym, ap, subst, List, get_or}
use Rattle.std.specs.Prelude.{All}
use Rattle.finite.proofs.Sums.{total_below-term}
use Rattle.finite.proofs.Lists.{values_below_at}
use Rattle.cs_num.specs.declared.Cpx.{Cpx}
use Rattle.cs_num.specs.Complex.{IsWithin, square}
use Rattle.norms.proofs.Squares.{re-le, im-le}
use Rattle.fold128.specs.Symbol.{useful_part}
use Rattle.pss_search.specs.Correlation.{wave, wave_list, wave_power}
use Rattle.pss_search.proofs.Symmetry.{power_range}

wave-within : (n2 n : ℕ) → n2 ≤ 2 → n < 128 → IsWithin 1415 (wave n2 n)
unfolding wave_power
wave-within n2 n known inside =
    let term = total_below-term 128 n (λ k. square (wave n2 k)) inside in
    let range = (power_range n2 (omega (arith, known))).1 in
    let small : square (wave n2 n) ≤ 1415 * 1415 = chain (square (wave n2 n)) (wave_power n2) term range in
    record { re = re-le (wave n2 n) 1415 small; im = im-le (wave n2 n) 1415 small }
  where
    chain : (a b : ℕ) → a ≤ b → b ≤ 2001665 → a ≤ 1415 * 1415
    chain a b h k = omega (arith, h, k)

pub wave-all_within : (n2 : ℕ) → n2 ≤ 2 → All (IsWithin 1415) (wave_list n2)
unfolding useful_part wave
wave-all_within n2 known k d l = subst (IsWithin 1415) (sym (values_below_at (wave n2) 128 k d l)) (wave-within n2 k known l)

-- a signal's samples as a list
pub wave_at : (n2 : ℕ) (signal : List Cpx) (n : ℕ) (d : Cpx) → signal ≡ wave_list n2 → n < 128 → get_or signal n d ≡ wave n2 n
unfolding useful_part wave
wave_at n2 signal n d e inside = ap (λ (s : List Cpx). get_or s n d) e ∙ values_below_at (wave n2) 128 n d inside
