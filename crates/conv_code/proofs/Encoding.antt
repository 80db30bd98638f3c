-- Coded bits, computed tap by tap.
use Rattle.std.proofs.Common.{◌≡◌, ℕ, ◌+◌, ◌<◌, ◌≤◌, Bool, false, List, [], length, map, get_or, drop, suc, ap, sym, ◌∙◌, arith, drop_of_length-le}
use Rattle.std.proofs.Math.Seq.{drop-cons}
use Rattle.finite.proofs.Lists.{values_below_is}
use Rattle.finite.specs.Bits.{xor}
use Rattle.finite.proofs.Bits.{xor-false, false-xor, xor_assoc}
use Rattle.conv_code.specs.Code.{parity, coded_bits, coded_word}

-- the invariant of the loop over the taps, after i of them
pub record IsPartSum (f : ℕ → Bool) (taps : List ℕ) (i : ℕ) (sum : Bool) : Type 0 where
  pub whole : xor sum (parity (map f (drop i taps))) ≡ parity (map f taps)

pub part_none : (f : ℕ → Bool) (taps : List ℕ) → IsPartSum f taps 0 false
part_none f taps = record { whole = false-xor (parity (map f taps)) }

pub part_more : (f : ℕ → Bool) (taps : List ℕ) (i : ℕ) (sum b : Bool) → i < length taps → b ≡ f (get_or taps i 0) →
    IsPartSum f taps i sum → IsPartSum f taps (i + 1) (xor sum b)
part_more f taps i sum b inside is known =
    let e : suc i ≡ i + 1 = omega arith in
    let d = drop-cons taps i 0 inside in
    record {
      whole =
          xor_assoc sum b (parity (map f (drop (i + 1) taps)))
          ∙ rw (is, ← e) (sym (ap (λ ts. xor sum (parity (map f ts))) d))
          ∙ known.whole;
    }

pub part_all : (f : ℕ → Bool) (taps : List ℕ) (i : ℕ) (sum : Bool) → length taps ≤ i → IsPartSum f taps i sum → sum ≡ parity (map f taps)
part_all f taps i sum past known =
    sym (xor-false sum) ∙ ap (λ ts. xor sum (parity (map f ts))) (sym (drop_of_length-le taps past)) ∙ known.whole

-- the loop over the indices ends with the codeword
pub coded_word_is : (n : ℕ) (word bits : List Bool) (found : List (List Bool)) (k : ℕ) → bits ≡ word → length word ≡ n → n ≤ k →
    length found ≡ n → ((j : ℕ) → j < k → get_or found j [] ≡ coded_bits bits j) → found ≡ coded_word word
unfolding coded_word
coded_word_is n word bits found k same count past size at =
    values_below_is [] (length word) (coded_bits word) found (size ∙ sym count) (λ j below.
    let inside : j < k = omega arith in at j inside ∙ ap (λ w. coded_bits w j) same)
