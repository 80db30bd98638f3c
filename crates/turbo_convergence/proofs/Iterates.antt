-- Extrinsic values and the decoded block after each iteration, for sums with the sent bits' signs.
use Rattle.std.proofs.Common.{◌≡◌, ◌≢◌, ℕ, zero, suc, ◌+◌, ◌*◌, ◌<◌, Bool, true, false, List, length, map, Some, ℤ, pos, negsuc, refl, ap, sym, subst, ◌∙◌, arith}
use Rattle.std.specs.Prelude.{◌&&◌, ◌||◌, not, nat_abs}
use Rattle.std.specs.Option.{option_map}
use Rattle.std.proofs.Math.Bool.{and-true}
use Rattle.std.proofs.lemmas.Bool.{and_parts, not-true}
use Rattle.std.proofs.lemmas.List.{get_or-map, get_or-replicate}
use Rattle.finite.specs.Tables.{sum_at}
use Rattle.finite.specs.Tests.{every_below}
use Rattle.finite.proofs.Sums.{positive}
use Rattle.finite.proofs.Tests.{any_below_some, every_below_at}
use Rattle.finite.proofs.Lists.{values_below-length, values_below_at, values_below_is, values_below_same, find_below_first}
use Rattle.cs_bits.specs.Checks.{message_of, has_check_24}
use Rattle.turbo_code.specs.declared.rows.Row.{Row}
use Rattle.turbo_code.specs.Table.{IsAnyRow, interleaver, step_of}
use Rattle.turbo_code.specs.Encoder.{bit_at, interleaved}
use Rattle.turbo_code.specs.Streams.{bits_of_stream, tail_items, in_order, in_word_order}
use Rattle.turbo_code.proofs.CodedBits.{length-interleaved, interleaved_at, information_at}
use Rattle.turbo_code.proofs.Orders.{read_at_step}
use Rattle.turbo_dec.specs.Decoder.{Values, at, values_of, extrinsic, extrinsics}
use Rattle.turbo_dec.specs.Block.{handed_on, prior_after, word_by, block, first_extrinsics, second_extrinsics, second_after}
use Rattle.erasure.specs.Known.{Sent, found, first_sent, second_sent, first_found, second_found, known_after, settled, settles_all, word_after, resolves, resolvable}
use Rattle.erasure.proofs.Whole.{resolved_at_once}
use Rattle.turbo_convergence.specs.Conveys.{Conveys, AllConvey, SumsConvey}
use Rattle.turbo_convergence.specs.Laws.{ExtrinsicsSpeak, IterationConveys, SpokenBlockIsDecoded}
use Rattle.turbo_convergence.proofs.Conveying.{conveys-sum, conveys-handed_on, conveys_below, conveys_allows, allows_conveys}
use Rattle.turbo_convergence.proofs.Found.{extrinsic_conveys}
use Rattle.turbo_convergence.proofs.BothDecoders.{length-stream, first_conveys, second_conveys, in_stream}

-- ---- one constituent decoder, signs only

-- the sent bits: those whose value is not 0
decoded_by_values : Values → Sent
decoded_by_values v = record {
  information = λ k. positive (nat_abs (at v.systematic k));
  parity = λ k. positive (nat_abs (at v.parity k));
  tail = λ i. positive (nat_abs (at v.tail i));
}

pub extrinsics_speak : ExtrinsicsSpeak
unfolding decoded_by_values
extrinsics_speak word v allow k inside =
    let known : ℕ → Bool = λ k. positive (nat_abs (at v.prior k)) in
    let decoded : AllConvey word (decoded_by_values v) known v = record {
      size = allow.size;
      systematic = λ k l. allows_conveys (bit_at word k) (at v.systematic k) (allow.systematic k l);
      parity = λ k l. allows_conveys _ (at v.parity k) (allow.parity k l);
      tail_x = λ j l. allows_conveys _ (at v.tail (2 * j)) (allow.tail_x j l);
      tail_z = λ j l. allows_conveys _ (at v.tail (2 * j + 1)) (allow.tail_z j l);
      prior = λ k l. allows_conveys (bit_at word k) (at v.prior k) (allow.prior k l);
    } in
    conveys_allows (found (length word) (decoded_by_values v) known k) (bit_at word k) (extrinsic v k)
    (extrinsic_conveys word (decoded_by_values v) known v decoded k inside)

-- ---- the iterations

module _ (row : Row) (word : List Bool) (sent : ℕ → ℕ → Bool) (sums : List (List ℤ)) (is_row : IsAnyRow row) (size : length word ≡ row.k) (decoded : SumsConvey row word sent sums) where
  handed : (known : ℕ → Bool) (values : List ℤ) → length values ≡ row.k → ((k : ℕ) → k < row.k → Conveys (known k) (bit_at word k) (at values k)) →
      (k : ℕ) → k < row.k → Conveys (known k) (bit_at word k) (at (map handed_on values) k)
  handed known values long each k inside =
      subst (Conveys (known k) (bit_at word k)) (sym (get_or-map handed_on values k (pos 0) (pos 0) (omega (arith, long, inside))))
      (conveys-handed_on (known k) (bit_at word k) (at values k) (each k inside))

  -- the first constituent decoder
  length-first : (prior : List ℤ) → length (first_extrinsics row sums prior) ≡ row.k
  unfolding first_extrinsics extrinsics
  length-first prior =
      values_below-length (length (bits_of_stream (pos 0) row sums 0))
      (extrinsic (values_of (bits_of_stream (pos 0) row sums 0) (bits_of_stream (pos 0) row sums 1) (tail_items (pos 0) sums row.k) prior))
      ∙ length-stream row sums 0

  first_is : (known : ℕ → Bool) (prior : List ℤ) → ((k : ℕ) → k < row.k → Conveys (known k) (bit_at word k) (at prior k)) →
      (k : ℕ) → k < row.k → Conveys (first_found row sent known k) (bit_at word k) (at (first_extrinsics row sums prior) k)
  unfolding first_extrinsics extrinsics
  first_is known prior priors k inside =
      let v : Values = values_of (bits_of_stream (pos 0) row sums 0) (bits_of_stream (pos 0) row sums 1) (tail_items (pos 0) sums row.k) prior in
      let whole = length-stream row sums 0 in
      let conveys = extrinsic_conveys word (first_sent row sent) known v (first_conveys row word sent sums size decoded known prior priors) k (omega (arith, size, inside)) in
      let here : at (first_extrinsics row sums prior) k ≡ extrinsic v k = values_below_at (extrinsic v) (length (bits_of_stream (pos 0) row sums 0)) k (pos 0) (omega (arith, whole, inside)) in
      subst (Conveys (first_found row sent known k) (bit_at word k)) (sym here)
      (subst (λ n. Conveys (found n (first_sent row sent) known k) (bit_at word k) (extrinsic v k)) size conveys)

  -- the second constituent decoder
  length-second : (prior : List ℤ) → length (second_after row sums prior) ≡ row.k
  unfolding second_extrinsics in_word_order
  length-second prior = values_below-length row.k _

  second_is : (known : ℕ → Bool) (prior : List ℤ) → ((k : ℕ) → k < row.k → Conveys (known k) (bit_at word k) (at (first_extrinsics row sums prior) k)) →
      (k : ℕ) → k < row.k → Conveys (second_found row sent known k) (bit_at word k) (at (second_after row sums prior) k)
  unfolding second_extrinsics in_word_order extrinsics in_order
  second_is known prior firsts k inside =
      let q : List ℤ = map handed_on (first_extrinsics row sums prior) in
      let v : Values = values_of (in_order (pos 0) row (bits_of_stream (pos 0) row sums 0)) (bits_of_stream (pos 0) row sums 2) (tail_items (pos 0) sums (row.k + 2)) (in_order (pos 0) row q) in
      let read = read_at_step row k is_row inside in
      let i : ℕ = step_of row k in
      let below = read.below in
      let long = length-interleaved row word in
      let count : length v.systematic ≡ row.k = values_below-length row.k (λ i. at (bits_of_stream (pos 0) row sums 0) (interleaver row i)) in
      let priors = handed known (first_extrinsics row sums prior) (length-first prior) firsts in
      let conveys = extrinsic_conveys (interleaved row word) (second_sent row sent) (λ i. known (interleaver row i)) v
      (second_conveys row word sent sums size decoded known q is_row priors) i (omega (arith, long, below)) in
      let bit : bit_at (interleaved row word) i ≡ bit_at word k = interleaved_at row word i below ∙ ap (bit_at word) read.there in
      let there : at (second_after row sums prior) k ≡ extrinsic v i =
      values_below_at (λ k. at (extrinsics v) (step_of row k)) row.k k (pos 0) inside
      ∙ values_below_at (extrinsic v) (length v.systematic) i (pos 0) (omega (arith, count, below)) in
      subst (Conveys (second_found row sent known k) (bit_at word k)) (sym there)
      (subst (λ b. Conveys (second_found row sent known k) b (extrinsic v i)) bit
      (subst (λ n. Conveys (found n (second_sent row sent) (λ i. known (interleaver row i)) i) (bit_at (interleaved row word) i) (extrinsic v i)) long conveys))

  -- by induction on the iterations, the priors have the signs of the known bits
  prior_is : (n k : ℕ) → k < row.k → Conveys (known_after row sent n k) (bit_at word k) (at (prior_after row sums n) k)
  unfolding prior_after known_after
  prior_is zero k inside = get_or-replicate row.k k (pos 0) (pos 0) inside
  prior_is (suc n) k inside =
      handed (known_after row sent (suc n)) (second_after row sums (prior_after row sums n)) (length-second (prior_after row sums n))
      (second_is (first_found row sent (known_after row sent n)) (prior_after row sums n)
      (first_is (known_after row sent n) (prior_after row sums n) (prior_is n))) k inside

  pub iteration_conveys : (n : ℕ) → IterationConveys row word sent sums n
  unfolding known_after word_by
  iteration_conveys n = record {
    first = firsts;
    second = seconds;
    decoded =
        values_below_same row.k _ _ (λ k inside.
        let own = in_stream row word sent sums decoded 0 k (bit_at word k) (omega arith) inside (information_at row word size k inside) in
        conveys_below (settled row sent n k) (bit_at word k) _
        (conveys-sum (sent 0 k || first_found row sent (known_after row sent n) k) (known_after row sent (suc n) k) (bit_at word k) _ _
        (conveys-sum (sent 0 k) (first_found row sent (known_after row sent n) k) (bit_at word k) _ _ own (firsts k inside)) (seconds k inside)));
  }
    where
      firsts : (k : ℕ) → k < row.k → Conveys (first_found row sent (known_after row sent n) k) (bit_at word k) (at (first_extrinsics row sums (prior_after row sums n)) k)
      firsts = first_is (known_after row sent n) (prior_after row sums n) (prior_is n)

      seconds : (k : ℕ) → k < row.k → Conveys (known_after row sent (suc n) k) (bit_at word k) (at (second_after row sums (prior_after row sums n)) k)
      seconds = second_is (first_found row sent (known_after row sent n)) (prior_after row sums n) firsts

  -- ---- the block

  -- an iteration that settles every bit decodes the sent word
  settled_conveys : (n : ℕ) → settles_all row sent n ≡ true → word_by row sums (prior_after row sums n) ≡ word
  settled_conveys n full =
      let conveys = iteration_conveys n in
      conveys.decoded ∙ sym (values_below_is false row.k (λ k. bit_at word k && settled row sent n k) word size (λ k inside.
      sym (ap (λ s. bit_at word k && s) (every_below_at row.k (settled row sent n) full k inside) ∙ and-true (bit_at word k))))

  pub resolvable_is_decoded : has_check_24 word ≡ true → resolvable row sent word ≡ true → block row sums ≡ Some (message_of 24 word)
  unfolding block resolvable
  resolvable_is_decoded passed can =
      let (n, below, is) = any_below_some 8 (resolves row sent word) can in
      let (full, early) = and_parts (settles_all row sent n) (every_below n (λ m. not (settles_all row sent m) && not (has_check_24 (word_after row sent word m)))) is in
      let decoded_here = settled_conveys n full in
      let before : (m : ℕ) → m < n → has_check_24 (word_by row sums (prior_after row sums m)) ≡ false = λ m l.
      let conveys = iteration_conveys m in
      ap has_check_24 conveys.decoded ∙ not-true (has_check_24 (word_after row sent word m))
      (and_parts (not (settles_all row sent m)) (not (has_check_24 (word_after row sent word m))) (every_below_at n _ early m l)).1 in
      let first = find_below_first has_check_24 (λ m. word_by row sums (prior_after row sums m)) 8 n below before (ap has_check_24 decoded_here ∙ passed) in
      ap (option_map (message_of 24)) first ∙ ap (λ w. Some (message_of 24 w)) decoded_here

-- ---- no systematic bit is missing

pub spoken_is_decoded : SpokenBlockIsDecoded
spoken_is_decoded row word sums is_row size passed allow some =
    resolvable_is_decoded row word sent sums is_row size (λ t p l m. allows_conveys _ (sum_at sums t p) (allow t p l m)) passed
    (resolved_at_once row sent word (λ k inside. nonzero (sum_at sums 0 k) (some k inside)))
  where
    sent : ℕ → ℕ → Bool
    sent t p = positive (nat_abs (sum_at sums t p))

    nonzero : (z : ℤ) → z ≢ pos 0 → positive (nat_abs z) ≡ true
    nonzero (pos zero) ne = absurd (ne refl)
    nonzero (pos (suc n)) ne = refl
    nonzero (negsuc n) ne = refl
