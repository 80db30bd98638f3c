-- A bit's extrinsic value is the minimum loss, at the other bits, of a difference word with this bit.
use Rattle.std.proofs.Common.{◌≡◌, ℕ, zero, suc, ◌+◌, ◌<◌, ◌≤◌, Bool, true, false, inl, inr, List, length, refl, ap, sym, subst, ◌∙◌, arith}
use Rattle.std.specs.Prelude.{◌||◌, not, ℤ, pos, ◌+ℤ◌, ◌-ℤ◌, nat_abs}
use Rattle.std.proofs.lemmas.Int.{ints}
use Rattle.std.proofs.lemmas.Bool.{true≢false, cases_Bool}
use Rattle.finite.specs.Bits.{xor}
use Rattle.turbo_code.specs.Encoder.{bit_at}
use Rattle.turbo_dec.specs.Decoder.{Values, at, score, greatest_score, extrinsic}
use Rattle.turbo_dec.proofs.Greatest.{greatest_score_is_greatest}
use Rattle.cs_bits.specs.Signs.{Supports}
use Rattle.erasure.specs.Known.{Sent, shows, found}
use Rattle.turbo_convergence.specs.Conveys.{Conveys, AllConvey}
use Rattle.turbo_code.proofs.Linear.{word_sum, word_sum_at, word_sum_again, length-word_sum}
use Rattle.finite.proofs.Sums.{positive, positive_at, positive_from}
use Rattle.trellis.specs.AllWords.{every_word}
use Rattle.trellis.proofs.AllWords.{every_word_all, every_word_at}
use Rattle.turbo_convergence.proofs.Conveying.{conveys_allows, conveys-within_2047}
use Rattle.turbo_convergence.proofs.Losses.{own, own_conveys, loss, others, score_loses, others_show, loss_is}

-- ---- the minimum loss

-- m is the minimum loss, at the other bits, of a difference word with a 1 at bit k
record IsMargin (v : Values) (k : ℕ) (m : ℕ) : Type 0 where
  reached : (d : List Bool) × (length d ≡ length v.systematic) × (bit_at d k ≡ true) × (others v k d ≡ m)
  least : (d : List Bool) → length d ≡ length v.systematic → bit_at d k ≡ true → m ≤ others v k d

-- the raw extrinsic value
abbrev raw : Values → ℕ → ℤ
raw v k = ((greatest_score v k false -ℤ greatest_score v k true) -ℤ at v.systematic k) -ℤ at v.prior k

signed : Bool → ℕ → ℤ → Type 0
signed false m z = z ≡ pos m
signed true m z = z +ℤ pos m ≡ pos 0

module _ (word : List Bool) (sent : Sent) (known : ℕ → Bool) (v : Values) (decoded : AllConvey word sent known v) (k : ℕ) (inside : k < length word) where
  within : k < length v.systematic
  within = let same = decoded.size in omega (arith, same, inside)

  -- the sent word has the maximum score of the words with its bit k
  sent_is_greatest : greatest_score v k (bit_at word k) ≡ score v word
  sent_is_greatest =
      let top = greatest_score_is_greatest v k (bit_at word k) within in
      let (w, size, bit, is) = top.reached in
      let size' : length w ≡ length word = size ∙ decoded.size in
      let loses = score_loses word sent known v decoded (word_sum word w) (length-word_sum word w) in
      let back = word_sum_again word w size' in
      let loses' = subst (λ u. score v word ≡ score v u +ℤ pos (loss v (word_sum word w))) back loses in
      let above = top.greatest word (sym decoded.size) refl in
      omega (arith, ints, is, loses', above)

  flipped : (b : Bool) → xor b (not b) ≡ true
  flipped false = refl
  flipped true = refl

  turned : (b : Bool) → xor b true ≡ not b
  turned false = refl
  turned true = refl

  margin : (m : ℕ) × IsMargin v k m × (score v word ≡ greatest_score v k (not (bit_at word k)) +ℤ pos (m + nat_abs (own v k)))
  margin =
      let top = greatest_score_is_greatest v k (not (bit_at word k)) within in
      let (w, size, bit, is) = top.reached in
      let size' : length w ≡ length word = size ∙ decoded.size in
      let d : List Bool = word_sum word w in
      let size_d : length d ≡ length word = length-word_sum word w in
      let bit_d : bit_at d k ≡ true = word_sum_at word w k inside ∙ ap (xor (bit_at word k)) bit ∙ flipped (bit_at word k) in
      let back = word_sum_again word w size' in
      let loses = subst (λ u. score v word ≡ score v u +ℤ pos (loss v d)) back (score_loses word sent known v decoded d size_d) in
      let split = loss_is v k d within bit_d in (
        others v k d,
        record {
          reached = (d, size_d ∙ sym decoded.size, bit_d, refl);
          least = λ e size_e bit_e.
              let size_e' : length e ≡ length word = size_e ∙ decoded.size in
              let other : List Bool = word_sum word e in
              let bit_o : bit_at other k ≡ not (bit_at word k) = word_sum_at word e k inside ∙ ap (xor (bit_at word k)) bit_e ∙ turned (bit_at word k) in
              let below = top.greatest other (length-word_sum word e ∙ sym decoded.size) bit_o in
              let loses_e = score_loses word sent known v decoded e size_e' in
              let split_e = loss_is v k e within bit_e in
              omega (arith, ints, is, loses, split, below, loses_e, split_e);
        },
        omega (arith, ints, is, loses, split),
      )

  -- the raw extrinsic value is that margin, with the sign of the sent bit
  raw_is : (b : Bool) → bit_at word k ≡ b → (m : ℕ) → score v word ≡ greatest_score v k (not b) +ℤ pos (m + nat_abs (own v k)) → greatest_score v k b ≡ score v word →
      Supports 0 b (own v k) → signed b m (raw v k)
  unfolding signed
  raw_is false e m other this speaks = omega (arith, ints, other, this, speaks)
  raw_is true e m other this speaks = omega (arith, ints, other, this, speaks)

  margin_found : (m : ℕ) → IsMargin v k m → positive m ≡ found (length word) sent known k
  unfolding found
  margin_found m margin = elim (cases_Bool (positive m)) [
    | inl e ↦ e ∙ sym (every_word_all (length word) test (λ d size. every d (bit_at d k) refl size (positive_at m e)))
    | inr e ↦
        let (d, size, bit, is) = margin.reached in
        let hides : shows (length word) sent known k d ≡ false = sym (others_show word sent known v decoded k d) ∙ ap positive is ∙ e in
        let fails : test d ≡ false = rw (bit, hides) refl in
        elim (cases_Bool (every_word (length word) test)) [
          | inl all ↦ absurd (true≢false (sym (every_word_at (length word) test all d (size ∙ decoded.size)) ∙ fails))
          | inr none ↦ e ∙ sym none
        ]
  ]
    where
      test : List Bool → Bool
      test d = not (bit_at d k) || shows (length word) sent known k d

      every : (d : List Bool) (b : Bool) → bit_at d k ≡ b → length d ≡ length word → 1 ≤ m → test d ≡ true
      every d false e size above = rw e refl
      every d true e size above =
          let least = margin.least d (size ∙ sym decoded.size) e in
          let shown : shows (length word) sent known k d ≡ true = sym (others_show word sent known v decoded k d) ∙ positive_from (others v k d) (omega (arith, least, above)) in
          rw (e, shown) refl

  signed_conveys : (b : Bool) (m : ℕ) (z : ℤ) → signed b m z → Conveys (positive m) b z
  unfolding signed
  signed_conveys b zero z h = zero_is b z h
    where
      zero_is : (b : Bool) (z : ℤ) → signed b 0 z → z ≡ pos 0
      zero_is false z h = h
      zero_is true z h = omega (arith, ints, h)
  signed_conveys false (suc m) z h = omega (arith, ints, h)
  signed_conveys true (suc m) z h = omega (arith, ints, h)

  pub extrinsic_conveys : Conveys (found (length word) sent known k) (bit_at word k) (extrinsic v k)
  unfolding extrinsic
  extrinsic_conveys =
      let (m, is_margin, other) = margin in
      let speaks = conveys_allows (sent.information k || known k) (bit_at word k) (own v k) (own_conveys word sent known v decoded k inside) in
      let is = raw_is (bit_at word k) refl m other sent_is_greatest speaks in
      let conveys = signed_conveys (bit_at word k) m (raw v k) is in
      conveys-within_2047 (found (length word) sent known k) (bit_at word k) (raw v k)
      (subst (λ there. Conveys there (bit_at word k) (raw v k)) (margin_found m is_margin) conveys)
