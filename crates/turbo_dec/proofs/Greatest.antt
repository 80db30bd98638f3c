-- The maximum score with a given bit: by its definition, and from the minimum path cost with that bit.
use Rattle.std.proofs.Common.{◌≡◌, ℕ, suc, ◌+◌, ◌-◌, ◌/◌, ◌<◌, ◌≤◌, Bool, true, false, List, ◌∷◌, ◌++◌, length, ℤ, pos, ◌+ℤ◌, ◌-ℤ◌, refl, ap, ◌∙◌, inl, inr, arith, length-append}
use Rattle.std.specs.Prelude.{nat_abs}
use Rattle.std.proofs.lemmas.Bool.Decides.{eqb_tells}
use Rattle.std.proofs.lemmas.Int.{ints}
use Rattle.cs_bits.proofs.Signs.{disagreement-le}
use Rattle.trellis.specs.Paths.{end_of}
use Rattle.trellis.specs.Least.{IsLeastWith}
use Rattle.trellis.specs.AllWords.{greatest}
use Rattle.trellis.proofs.AllWords.{greatest-le, greatest_reached}
use Rattle.trellis.proofs.Paths.{path_cost-le}
use Rattle.trellis.proofs.Words.{bit_between, with_bit}
use Rattle.turbo_dec.specs.Decoder.{Values, at, score, greatest_score, extrinsic, within_2047}
use Rattle.turbo_dec.specs.Laws.{IsGreatest}
use Rattle.turbo_code.specs.Machine.{next, tail_bit, tail_parity, parity_bit}
use Rattle.turbo_dec.specs.Costs.{step_cost, tail_cost, far, starts}
use Rattle.turbo_dec.proofs.Small.{AreSmall}
use Rattle.turbo_dec.proofs.Scores.{worth, score_cost}

-- ---- the maximum score

pub greatest_score_is_greatest : (v : Values) (k : ℕ) (b : Bool) → k < length v.systematic → IsGreatest v k b (greatest_score v k b)
unfolding greatest_score
greatest_score_is_greatest v k b inside = record {
  reached =
      let (us, size_us, outer) = greatest_reached k (λ us. greatest n (λ ws. score v (us ++ b ∷ ws))) in
      let (ws, size_ws, inner) = greatest_reached n (λ ws. score v (us ++ b ∷ ws)) in (
        us ++ b ∷ ws,
        length-append us (b ∷ ws) ∙ omega (arith, size_us, size_ws, inside),
        bit_between us ws b k size_us,
        inner ∙ outer,
      );
  greatest = λ word size bit.
      let (us, ws, size_us, size_ws, is) = with_bit word k n b (omega (arith, size, inside)) bit in
      let inner = greatest-le n (λ ws. score v (us ++ b ∷ ws)) ws size_ws in
      let outer = greatest-le k (λ us. greatest n (λ ws. score v (us ++ b ∷ ws))) us size_us in
      rw is (omega (arith, ints, inner, outer));
}
  where
    n : ℕ
    n = length v.systematic - k - 1

pub greatest_is_one : (v : Values) (k : ℕ) (b : Bool) (m m' : ℤ) → IsGreatest v k b m → IsGreatest v k b m' → m ≡ m'
greatest_is_one v k b m m' one other =
    let (word, size, bit, is) = one.reached in
    let (word', size', bit', is') = other.reached in
    let up = other.greatest word size bit in
    let down = one.greatest word' size' bit' in
    omega (arith, ints, up, down, is, is')

-- the extrinsic value, from any two numbers that are the maximum scores
pub extrinsic_is : (v : Values) (k : ℕ) (zeros ones e : ℤ) → k < length v.systematic → IsGreatest v k false zeros → IsGreatest v k true ones →
    e ≡ within_2047 (((zeros -ℤ ones) -ℤ at v.systematic k) -ℤ at v.prior k) → e ≡ extrinsic v k
unfolding extrinsic
extrinsic_is v k zeros ones e inside by_zeros by_ones is =
    let z = greatest_is_one v k false zeros (greatest_score v k false) by_zeros (greatest_score_is_greatest v k false inside) in
    let o = greatest_is_one v k true ones (greatest_score v k true) by_ones (greatest_score_is_greatest v k true inside) in
    is ∙ ap (λ m. within_2047 (((m -ℤ ones) -ℤ at v.systematic k) -ℤ at v.prior k)) z
    ∙ ap (λ m. within_2047 (((greatest_score v k false -ℤ m) -ℤ at v.systematic k) -ℤ at v.prior k)) o

-- ---- from the minimum cost

sum_small : (a b : ℤ) → nat_abs a ≤ 4096 → nat_abs b ≤ 4096 → nat_abs (a +ℤ b) ≤ 8192
sum_small a b h k = omega (arith, ints, h, k)

step_cost-le : (v : Values) → AreSmall v → (k x : ℕ) (u : Bool) → step_cost v k x u ≤ 12288
step_cost-le v small k x u =
    let a = disagreement-le (at v.systematic k +ℤ at v.prior k) u in
    let b = sum_small (at v.systematic k) (at v.prior k) (small.systematic k) (small.prior k) in
    let c = disagreement-le (at v.parity k) (parity_bit x u) in
    let d = small.parity k in
    omega (arith, a, b, c, d)

tail_cost-le : (v : Values) → AreSmall v → (x : ℕ) → tail_cost v.tail x ≤ 24576
tail_cost-le v small x =
    let t0 = disagreement-le (at v.tail 0) (tail_bit x) in
    let t1 = disagreement-le (at v.tail 1) (tail_parity x) in
    let t2 = disagreement-le (at v.tail 2) (tail_bit (x / 2)) in
    let t3 = disagreement-le (at v.tail 3) (tail_parity (x / 2)) in
    let t4 = disagreement-le (at v.tail 4) (tail_bit (x / 2 / 2)) in
    let t5 = disagreement-le (at v.tail 5) (tail_parity (x / 2 / 2)) in
    let s0 = small.tail 0 in
    let s1 = small.tail 1 in
    let s2 = small.tail 2 in
    let s3 = small.tail 3 in
    let s4 = small.tail 4 in
    let s5 = small.tail 5 in
    omega (arith, t0, t1, t2, t3, t4, t5, s0, s1, s2, s3, s4, s5)

pub least_gives_greatest : (v : Values) (k n : ℕ) (b : Bool) (m : ℕ) → AreSmall v → k + suc n ≡ length v.systematic → length v.systematic ≤ 1024 →
    IsLeastWith next (step_cost v) starts (tail_cost v.tail) 8 k n b m → IsGreatest v k b (pos (worth v) -ℤ pos m)
least_gives_greatest v k n b m small size short least = record {
  reached =
      let (y, us, ws, below, size_us, size_ws, is) = least.reached in
      let word : List Bool = us ++ b ∷ ws in
      let size_word : length word ≡ length v.systematic = length-append us (b ∷ ws) ∙ omega (arith, size_us, size_ws, size) in
      let bit = bit_between us ws b k size_us in
      let h = score_cost v word size_word in
      let from_0 = least.least 0 us ws (omega arith) size_us size_ws in
      let p = path_cost-le next (step_cost v) 12288 0 0 word (step_cost-le v small) in
      let t = tail_cost-le v small (end_of next 0 word) in
      let y_is : y ≡ 0 = elim (eqb_tells y 0) [
        | inl (t, e) ↦ e
        | inr (f, ne) ↦ let is_far : starts y ≡ far = rw f refl in absurd (omega (arith, is_far, is, from_0, p, t, size_word, short))
      ] in
      let is' = rw y_is at is in
      (word, size_word, bit, omega (arith, ints, h, is'));
  greatest = λ word size_word bit.
      let (us, ws, size_us, size_ws, e) = with_bit word k n b (omega (arith, size, size_word)) bit in
      let h = score_cost v word size_word in
      let l = rw (← e) at (least.least 0 us ws (omega arith) size_us size_ws) in
      omega (arith, ints, h, l);
}
