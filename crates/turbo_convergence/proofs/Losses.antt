-- The loss of a word's score against the sent word, by the bits in which they differ.
use Rattle.std.proofs.Common.{◌≡◌, ℕ, ◌+◌, ◌*◌, ◌<◌, Bool, true, false, List, length, refl, ap, ap₂, sym, subst, ◌∙◌, arith}
use Rattle.std.specs.Prelude.{◌&&◌, ◌||◌, cond, not, nat_eq, ℤ, pos, ◌+ℤ◌, nat_abs}
use Rattle.std.proofs.lemmas.Int.{ints}
use Rattle.std.proofs.lemmas.Bool.{eq-eqb, ne_eqb}
use Rattle.finite.specs.Sums.{sum_below, total_below}
use Rattle.finite.specs.Tests.{any_below}
use Rattle.finite.proofs.Sums.{sum_below_same, sum_below_plus, sum_below_pos, total_below_changed, total_below-positive, positive, positive-sum}
use Rattle.turbo_code.specs.Encoder.{bit_at, parity, tail_x, tail_z}
use Rattle.turbo_code.proofs.Linear.{word_sum, word_sum_at, parity-word_sum, tail_x-word_sum, tail_z-word_sum}
use Rattle.turbo_dec.specs.Decoder.{Values, at, taken, score_at, tail_score, score}
use Rattle.erasure.specs.Known.{Sent, step_shows, tail_shows, shows}
use Rattle.turbo_convergence.specs.Conveys.{Conveys, AllConvey}
use Rattle.turbo_convergence.proofs.Conveying.{conveys_size, conveys-sum, taken_loses}

-- sums whose terms exceed those of other sums
sum_exceeds : (n : ℕ) (f g : ℕ → ℤ) (h : ℕ → ℕ) → ((k : ℕ) → k < n → f k ≡ g k +ℤ pos (h k)) → sum_below n f ≡ sum_below n g +ℤ pos (total_below n h)
sum_exceeds n f g h each =
    sum_below_same n f (λ k. g k +ℤ pos (h k)) each ∙ sum_below_plus n g (λ k. pos (h k)) ∙ ap (λ s. sum_below n g +ℤ s) (sum_below_pos n h)

-- ---- the loss

-- the value of an information bit with its prior
abbrev pub own : Values → ℕ → ℤ
own v k = at v.systematic k +ℤ at v.prior k

-- the loss of a difference word at an index, and in a tail step
loss_at : Values → List Bool → ℕ → ℕ
loss_at v d j = cond (bit_at d j) (nat_abs (own v j)) 0 + cond (parity d j) (nat_abs (at v.parity j)) 0

tail_loss : Values → List Bool → ℕ → ℕ
tail_loss v d j = cond (tail_x d j) (nat_abs (at v.tail (2 * j))) 0 + cond (tail_z d j) (nat_abs (at v.tail (2 * j + 1))) 0

-- the total loss of a difference word
pub loss : Values → List Bool → ℕ
loss v d = total_below (length v.systematic) (loss_at v d) + total_below 3 (tail_loss v d)

-- the loss without that at information bit k
other_loss : Values → ℕ → List Bool → ℕ → ℕ
other_loss v k d j = cond (not (nat_eq j k) && bit_at d j) (nat_abs (own v j)) 0 + cond (parity d j) (nat_abs (at v.parity j)) 0

pub others : Values → ℕ → List Bool → ℕ
others v k d = total_below (length v.systematic) (other_loss v k d) + total_below 3 (tail_loss v d)

module _ (word : List Bool) (sent : Sent) (known : ℕ → Bool) (v : Values) (decoded : AllConvey word sent known v) where
  pub own_conveys : (k : ℕ) → k < length word → Conveys (sent.information k || known k) (bit_at word k) (own v k)
  own_conveys k inside = conveys-sum (sent.information k) (known k) (bit_at word k) (at v.systematic k) (at v.prior k) (decoded.systematic k inside) (decoded.prior k inside)

  loses_at : (d : List Bool) (k : ℕ) → k < length word → score_at v word k ≡ score_at v (word_sum word d) k +ℤ pos (loss_at v d k)
  unfolding loss_at
  loses_at d k inside =
      let s = taken_loses (sent.information k || known k) (bit_at word k) (bit_at d k) (own v k) (own_conveys k inside) in
      let p = taken_loses (sent.parity k) (parity word k) (parity d k) (at v.parity k) (decoded.parity k inside) in
      let e = ap₂ (λ b z. taken (own v k) b +ℤ taken (at v.parity k) z) (word_sum_at word d k inside) (parity-word_sum word d k inside) in
      subst (λ z. score_at v word k ≡ z +ℤ pos (loss_at v d k)) (sym e) (omega (arith, ints, s, p))

  tail_loses : (d : List Bool) (j : ℕ) → length d ≡ length word → j < 3 → tail_score v word j ≡ tail_score v (word_sum word d) j +ℤ pos (tail_loss v d j)
  unfolding tail_loss
  tail_loses d j size inside =
      let s = taken_loses (sent.tail (2 * j)) (tail_x word j) (tail_x d j) (at v.tail (2 * j)) (decoded.tail_x j inside) in
      let p = taken_loses (sent.tail (2 * j + 1)) (tail_z word j) (tail_z d j) (at v.tail (2 * j + 1)) (decoded.tail_z j inside) in
      let e = ap₂ (λ b z. taken (at v.tail (2 * j)) b +ℤ taken (at v.tail (2 * j + 1)) z) (tail_x-word_sum word d j size) (tail_z-word_sum word d j size) in
      subst (λ z. tail_score v word j ≡ z +ℤ pos (tail_loss v d j)) (sym e) (omega (arith, ints, s, p))

  pub score_loses : (d : List Bool) → length d ≡ length word → score v word ≡ score v (word_sum word d) +ℤ pos (loss v d)
  unfolding score loss
  score_loses d size =
      let n : ℕ = length v.systematic in
      let same = decoded.size in
      let indices = sum_exceeds n (score_at v word) (score_at v (word_sum word d)) (loss_at v d) (λ k l. loses_at d k (omega (arith, l, same))) in
      let tails = sum_exceeds 3 (tail_score v word) (tail_score v (word_sum word d)) (tail_loss v d) (λ j l. tail_loses d j size l) in
      omega (arith, ints, indices, tails)

  -- the loss at the other bits is not 0 exactly if the difference word is visible there
  pub others_show : (k : ℕ) (d : List Bool) → positive (others v k d) ≡ shows (length word) sent known k d
  unfolding others other_loss tail_loss
  others_show k d =
      let same = decoded.size in
      positive-sum (total_below (length v.systematic) (other_loss v k d)) (total_below 3 (tail_loss v d))
      ∙ ap₂ ◌||◌
      (total_below-positive (length v.systematic) (other_loss v k d) (step_shows sent known k d) (λ j l.
      let inside : j < length word = omega (arith, l, same) in
      pair (not (nat_eq j k) && bit_at d j) (parity d j) (nat_abs (own v j)) (nat_abs (at v.parity j))
      (sent.information j || known j) (sent.parity j)
      (conveys_size (sent.information j || known j) (bit_at word j) (own v j) (own_conveys j inside))
      (conveys_size (sent.parity j) (parity word j) (at v.parity j) (decoded.parity j inside)))
      ∙ ap (λ n. any_below n (step_shows sent known k d)) same)
      (total_below-positive 3 (tail_loss v d) (tail_shows sent d) (λ j l.
      pair (tail_x d j) (tail_z d j) (nat_abs (at v.tail (2 * j))) (nat_abs (at v.tail (2 * j + 1))) (sent.tail (2 * j)) (sent.tail (2 * j + 1))
      (conveys_size (sent.tail (2 * j)) (tail_x word j) (at v.tail (2 * j)) (decoded.tail_x j l))
      (conveys_size (sent.tail (2 * j + 1)) (tail_z word j) (at v.tail (2 * j + 1)) (decoded.tail_z j l))))
    where
      one : (c : Bool) (a : ℕ) (there : Bool) → positive a ≡ there → positive (cond c a 0) ≡ (c && there)
      one true a there e = e
      one false a there e = refl

      pair : (c e : Bool) (a b : ℕ) (x y : Bool) → positive a ≡ x → positive b ≡ y → positive (cond c a 0 + cond e b 0) ≡ (c && x || e && y)
      pair c e a b x y p q = positive-sum (cond c a 0) (cond e b 0) ∙ ap₂ ◌||◌ (one c a x p) (one e b y q)

-- the total loss is the loss at bit k plus that at the other bits
pub loss_is : (v : Values) (k : ℕ) (d : List Bool) → k < length v.systematic → bit_at d k ≡ true → loss v d ≡ others v k d + nat_abs (own v k)
unfolding loss others loss_at other_loss
loss_is v k d inside bit =
    let same : nat_eq k k ≡ true = eq-eqb k k refl in
    let indices = total_below_changed (length v.systematic) k (nat_abs (own v k)) (loss_at v d) (other_loss v k d) inside
    (rw (bit, same) (omega arith))
    (λ j other. let differs : nat_eq j k ≡ false = ne_eqb j k other in rw differs refl) in
    omega (arith, indices)
