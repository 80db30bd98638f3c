-- The code is linear: the distance of two words is the number of coded ones of their sum modulo 2.
use Rattle.std.proofs.Common.{◌≡◌, ℕ, ◌+◌, ◌-◌, ◌%◌, ◌<◌, ◌≤◌, arith, refl, ap, sym, ◌∙◌, Bool, true, false, cond, List, [], ◌∷◌, length, map, get_or, replicate, ℤ}
use Rattle.std.proofs.lemmas.List.{ext_get_or, length-replicate, get_or-replicate}
use Rattle.std.proofs.lemmas.Nat.{mod_below}
use Rattle.finite.specs.Bits.{xor}
use Rattle.finite.specs.Tests.{any_below}
use Rattle.finite.specs.Lists.{values_below}
use Rattle.finite.proofs.Bits.{xor_swap}
use Rattle.finite.proofs.Sums.{total_below_same}
use Rattle.finite.proofs.Tests.{any_below_some, any_below_none}
use Rattle.finite.proofs.Lists.{values_below-length, values_below_at}
use Rattle.conv_code.specs.Code.{parity, bit_back, tapped_bit, taps_0, taps_1, taps_2}
use Rattle.conv_code.specs.Cost.{triple_cost, cost_at, word_cost}
use Rattle.trellis.specs.Paths.{end_of}
use Rattle.tailbite.specs.Machine.{shift, branch_cost, step_cost}
use Rattle.tailbite.proofs.Windows.{end_below, same_end}
use Rattle.tailbite.proofs.Branches.{word_cost-path}
use Rattle.code_distance.specs.Distance.{differ_at, distance, IsFifteenApart}
use Rattle.code_distance.proofs.Potentials.{all_ones, fifteen}

-- the sum of two words, modulo 2
abbrev sum_bit : List Bool → List Bool → ℕ → Bool
sum_bit u w i = xor (get_or u i false) (get_or w i false)

abbrev pub sum_word : List Bool → List Bool → List Bool
sum_word u w = values_below (length u) (sum_bit u w)

size_of : (u w : List Bool) → length (sum_word u w) ≡ length u
size_of u w = values_below-length (length u) (sum_bit u w)

parity_sum : (f g h : ℕ → Bool) → ((t : ℕ) → h t ≡ xor (f t) (g t)) → (taps : List ℕ) → parity (map h taps) ≡ xor (parity (map f taps)) (parity (map g taps))
parity_sum f g h e [] = refl
parity_sum f g h e (t ∷ taps) = let here = e t in let ih = parity_sum f g h e taps in rw (here, ih) (xor_swap (f t) (g t) (parity (map f taps)) (parity (map g taps)))

module _ (u w : List Bool) (some : 0 < length u) (size : length u ≡ length w) where
  back : (k t : ℕ) → bit_back (sum_word u w) k t ≡ xor (bit_back u k t) (bit_back w k t)
  back k t =
      let n = size_of u w in
      let below = mod_below (k + length u - t) (length u) some in
      rw (n, ← size) (values_below_at (sum_bit u w) (length u) ((k + length u - t) % length u) false below)

  tapped : (taps : List ℕ) (k : ℕ) → tapped_bit taps (sum_word u w) k ≡ xor (tapped_bit taps u k) (tapped_bit taps w k)
  tapped taps k = parity_sum (bit_back u k) (bit_back w k) (bit_back (sum_word u w) k) (back k) taps

  abbrev values : List (List ℤ)
  values = replicate (length u) all_ones

  counted : (v : List ℤ) (a b c : Bool) → v ≡ all_ones → triple_cost v a b c ≡ cond a 1 0 + cond b 1 0 + cond c 1 0
  counted v a b c e = rw e (bits a b c)
    where
      bits : (a b c : Bool) → triple_cost all_ones a b c ≡ cond a 1 0 + cond b 1 0 + cond c 1 0
      bits true true true = refl
      bits true true false = refl
      bits true false true = refl
      bits true false false = refl
      bits false true true = refl
      bits false true false = refl
      bits false false true = refl
      bits false false false = refl

  here : (k : ℕ) → k < length u → get_or values k [] ≡ all_ones
  here k inside = get_or-replicate (length u) k all_ones [] inside

  at : (k : ℕ) → k < length u → cost_at values (sum_word u w) k ≡ differ_at u w k
  at k inside =
      let t0 = tapped taps_0 k in
      let t1 = tapped taps_1 k in
      let t2 = tapped taps_2 k in
      counted (get_or values k []) _ _ _ (here k inside) ∙ rw (t0, t1, t2) refl

  pub distance-cost : distance u w ≡ word_cost values (sum_word u w)
  unfolding distance word_cost
  distance-cost =
      let n : length values ≡ length u = length-replicate (length u) all_ones in
      rw n (sym (total_below_same (length u) (cost_at values (sum_word u w)) (differ_at u w) at))

same_if_none : (u w : List Bool) → length u ≡ length w → any_below (length u) (sum_bit u w) ≡ false → u ≡ w
same_if_none u w size none = ext_get_or false u w size (λ i inside. equal _ _ (any_below_none (length u) i (sum_bit u w) none inside))
  where
    equal : (a b : Bool) → xor a b ≡ false → a ≡ b
    equal true true e = refl
    equal false false e = refl
    equal true false e = absurd cc
    equal false true e = absurd cc

pub is_fifteen_apart : IsFifteenApart
is_fifteen_apart u w long size apart = settle (any_below (length u) (sum_bit u w)) refl
  where
    some : 0 < length u
    some = omega (arith, long)

    n : length (sum_word u w) ≡ length u
    n = size_of u w

    settle : (b : Bool) → any_below (length u) (sum_bit u w) ≡ b → 15 ≤ distance u w
    settle false none = absurd (apart (same_if_none u w size none))
    settle true found =
        let (i, inside, one) = any_below_some (length u) (sum_bit u w) found in
        let d : List Bool = sum_word u w in
        let s : ℕ = end_of shift 0 d in
        let below = end_below 0 d (omega arith) in
        let closed = same_end s 0 d below (omega arith) (omega (arith, n, long)) in
        let is = distance-cost u w some size in
        let path = word_cost-path (replicate (length u) all_ones) d (n ∙ sym (length-replicate (length u) all_ones)) (omega (arith, n, long)) in
        let h = fifteen (length u) (step_cost (replicate (length u) all_ones))
        (λ k x b there. ap (λ v. branch_cost v x b) (here u w some size k there)) s i d long below n closed inside (values_below_at (sum_bit u w) (length u) i false inside ∙ one) in
        omega (arith, is, path, h)
