-- If all soft values have the signs of one word's coded bits, this word costs 0 and every other word costs more.
use Rattle.std.proofs.Common.{◌≡◌, ℕ, suc, ◌+◌, ◌-◌, ◌*◌, ◌/◌, ◌%◌, ◌<◌, ◌≤◌, inl, inr, arith, refl, ap, sym, ◌∙◌, subst, Bool, true, false, List, [], length, get_or, ℤ, pos}
use Rattle.std.proofs.lemmas.Int.{ints}
use Rattle.std.specs.Prelude.{◌&&◌}
use Rattle.std.proofs.Math.Bool.{and-true}
use Rattle.std.proofs.Math.Nat.{mod-eq_of_lt}
use Rattle.std.proofs.Math.Path.{fun_ext}
use Rattle.std.proofs.lemmas.Nat.{div-add-mod', mod-mul-add, mod_below}
use Rattle.std.proofs.lemmas.Bool.{cases_lt}
use Rattle.finite.specs.Sums.{total_below}
use Rattle.finite.specs.Tests.{any_below}
use Rattle.finite.proofs.Tests.{any_below_at}
use Rattle.finite.specs.Lists.{values_below}
use Rattle.finite.proofs.Lists.{values_below_at, values_below_same}
use Rattle.finite.proofs.Sums.{total_zero, terms_zero}
use Rattle.trellis.specs.Words.{IsBefore}
use Rattle.trellis.proofs.Words.{number-before}
use Rattle.conv_code.specs.Code.{coded_bits, coded_word}
use Rattle.sub_block.specs.declared.Item.{Item}
use Rattle.sub_block.specs.Items.{item, is_at, summed_at}
use Rattle.sub_block.proofs.Sums.{at_itself}
use Rattle.conv_code.specs.Reading.{bit_of_item, item_of, reading, summed_by}
use Rattle.conv_code.specs.Cost.{cost_at, word_cost}
use Rattle.conv_code.proofs.OneToOne.{one_to_one}
use Rattle.conv_code.proofs.Items.{permuting}
use Rattle.conv_code.proofs.Sums.{length-summed_by, summed_by-at}
use Rattle.cs_bits.specs.Signs.{SpeaksFor}
use Rattle.cs_bits.proofs.Signs.{supports-speaks}
use Rattle.tailbite.specs.Clean.{Speaks}
use Rattle.tailbite.proofs.Only.{free_place, same_place}
use Rattle.cs_bits.specs.Signs.{Supports}
use Rattle.turbo_convergence.specs.Conveys.{Conveys}
use Rattle.turbo_convergence.proofs.ReceivedSums.{item_conveys}
use Rattle.clean_air.specs.Words.{FourSpeakTogether, DescramblingKeeps, SpeakByReading, SpeakInTurn, SumsSpeakFrom, SumsSpeak, SpokenWordIsOnly}

-- ---- single values

pub four_speak_together : FourSpeakTogether
four_speak_together least false a b c d p q r s = omega (arith, ints)
four_speak_together least true a b c d p q r s = omega (arith, ints)

pub descrambling_keeps : DescramblingKeeps
descrambling_keeps least false false value h = h
descrambling_keeps least true false value h = h
descrambling_keeps least false true value h = omega (arith, ints)
descrambling_keeps least true true value h = omega (arith, ints)

-- ---- the sums by coded bit

at_index : (word : List Bool) (k t : ℕ) → k < length word → bit_of_item (coded_word word) (item t k) ≡ get_or (coded_bits word k) t false
unfolding coded_word
at_index word k t l = ap (λ xs. get_or xs t false) (values_below_at (coded_bits word) (length word) k [] l)

module _ (reading : ℕ → Item) (word : List Bool) (values : List ℤ) (speak : SpeakByReading reading word values) where
  -- each coded bit has at least one value, and all its values have its sign
  sum_at_supports : (k t : ℕ) → k < length word → t < 3 → Supports 1 (bit_of_item (coded_word word) (item t k)) (summed_at reading values (length values) t k)
  sum_at_supports k t inside stream =
      let (i, below, is) = speak.enough k t inside stream in
      let there : any_below (length values) (λ m. is_at t k (reading m) && true) ≡ true =
      any_below_at (length values) i (λ m. is_at t k (reading m) && true) below (and-true (is_at t k (reading i)) ∙ ap (is_at t k) is ∙ at_itself (item t k)) in
      subst (λ some. Conveys some (bit_of_item (coded_word word) (item t k)) (summed_at reading values (length values) t k)) there
      (item_conveys reading values (bit_of_item (coded_word word)) (λ _. true) t k (length values) speak.value)

  pub sums_speak_by_reading : Speaks (summed_by reading (length word) values) word
  sums_speak_by_reading = record {
    place = λ k below. let inside : k < length word = omega (arith, below, length-summed_by reading (length word) values) in
        record { first = one k 0 inside (omega arith); second = one k 1 inside (omega arith); third = one k 2 inside (omega arith) };
  }
    where
      one : (k t : ℕ) → k < length word → t < 3 → SpeaksFor (get_or (get_or (summed_by reading (length word) values) k []) t (pos 0)) (get_or (coded_bits word k) t false)
      one k t inside stream =
          subst (λ z. SpeaksFor z (get_or (coded_bits word k) t false)) (sym (summed_by-at reading (length word) values k t inside stream))
          (supports-speaks (get_or (coded_bits word k) t false) (summed_at reading values (length values) t k)
          (subst (λ b. Supports 1 b (summed_at reading values (length values) t k)) (at_index word k t inside) (sum_at_supports k t inside stream)))

-- of any m consecutive numbers, one has remainder j modulo m
next_with_rest : (m first j : ℕ) → j < m → (i : ℕ) × (i < m) × ((first + i) % m ≡ j)
next_with_rest m first j below =
    let rest = mod_below first m (omega (arith, below)) in
    elim (cases_lt j (first % m)) [
      | inl before ↦ (
        j + (m - first % m),
        omega (arith, before, rest),
        ap (λ n. n % m) (over (first / m * m) m (first % m) first (div-add-mod' first m) rest ∙ ap (λ n. n + j) (sym (one_more (first / m)))) ∙ mod-mul-add (suc (first / m)) m j below,
      )
      | inr from ↦ (
        j - first % m,
        omega (arith, below),
        ap (λ n. n % m) (within (first / m * m) (first % m) first (div-add-mod' first m) from) ∙ mod-mul-add (first / m) m j below,
      )
    ]
  where
    one_more : (q : ℕ) → suc q * m ≡ q * m + m
    one_more q = grind arith

    over : (whole size rest n : ℕ) → whole + rest ≡ n → rest < size → n + (j + (size - rest)) ≡ whole + size + j
    over whole size rest n e l = omega (arith, e, l)

    within : (whole rest n : ℕ) → whole + rest ≡ n → rest ≤ j → n + (j - rest) ≡ whole + j
    within whole rest n e l = omega (arith, e, l)

-- as many consecutive bits of the reading as the codeword has contain each coded bit once
each_is_read : (size first k t : ℕ) → 6 ≤ size → size ≤ 64 → k < size → t < 3 → (i : ℕ) × (i < 3 * size) × (item_of size (first + i) ≡ item t k)
unfolding item_of
each_is_read size first k t long short inside stream =
    let (j, below, is) = (permuting size long short).reads.each t k stream inside in
    let (i, within, same) = next_with_rest (3 * size) first j below in
    (i, within, ap (λ n. get_or (reading size) n (item 0 0)) (same ∙ sym (mod-eq_of_lt below)) ∙ is)

pub sums_speak_from : SumsSpeakFrom
sums_speak_from first word values long short speak = sums_speak_by_reading (λ i. item_of (length word) (first + i)) word values (record {
  enough = λ k t inside stream.
      let (i, below, is) = each_is_read (length word) first k t long short inside stream in
      let enough = speak.enough in
      (i, omega (arith, below, enough), is);
  value = speak.value;
})

-- the sums for a reading from bit 0
pub sums_speak : SumsSpeak
sums_speak word values long short =
    subst (λ reading. SpeakInTurn reading word values → Speaks (summed_by reading (length word) values) word) (fun_ext (λ i. ap (item_of (length word)) (from_start i)))
    (sums_speak_from 0 word values long short)
  where
    from_start : (i : ℕ) → 0 + i ≡ i
    from_start i = omega arith

-- ---- the word

-- a word that costs 0 is the word whose signs the values have
only_free : (values : List (List ℤ)) (other word : List Bool) → 6 ≤ length values → length word ≡ length values → length other ≡ length values → Speaks values word →
    total_below (length values) (cost_at values other) ≡ 0 → other ≡ word
only_free values other word long size size_too speaks zero_cost =
    one_to_one other word (omega (arith, size_too, long)) (size_too ∙ sym size)
    (unfold coded_word in values_below_same (length other) (coded_bits other) (coded_bits word)
    (λ k inside. let below : k < length values = omega (arith, size_too, inside) in
    same_place values other word speaks k below (terms_zero (length values) (cost_at values other) zero_cost k below))
    ∙ ap (λ n. values_below n (coded_bits word)) (size_too ∙ sym size))

not_before_itself : (word : List Bool) → IsBefore word word → ⊥
not_before_itself word h = let n = number-before word word refl h in absurd (omega (arith, n))

pub spoken_word_is_only : SpokenWordIsOnly
unfolding word_cost
spoken_word_is_only values word long size speaks = record {
  free = free;
  dear = dear;
  least = record {
    size = size;
    least = λ other size_too. nothing_less (total_below (length values) (cost_at values word)) (total_below (length values) (cost_at values other)) free;
    first = λ other size_too before. some_more (total_below (length values) (cost_at values word)) (total_below (length values) (cost_at values other)) free
        (dear other size_too (λ same. not_before_itself word (subst (λ (w : List Bool). IsBefore w word) same before)));
  };
}
  where
    free : total_below (length values) (cost_at values word) ≡ 0
    free = total_zero (length values) (cost_at values word) (free_place values word speaks)

    dear : (other : List Bool) → length other ≡ length values → (other ≡ word → ⊥) → 1 ≤ total_below (length values) (cost_at values other)
    dear other size_too apart = elim (cases_lt (total_below (length values) (cost_at values other)) 1) [
      | inl less ↦ absurd (apart (only_free values other word long size size_too speaks (omega (arith, less))))
      | inr some ↦ some
    ]

    nothing_less : (a b : ℕ) → a ≡ 0 → a ≤ b
    nothing_less a b e = omega (arith, e)

    some_more : (a b : ℕ) → a ≡ 0 → 1 ≤ b → a < b
    some_more a b e h = omega (arith, e, h)
