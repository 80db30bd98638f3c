-- The values that the iterations write and pass on.
use Rattle.std.proofs.Common.{◌≡◌, ℕ, suc, ◌+◌, ◌<◌, ◌≤◌, inl, inr, Bool, true, false, List, length, get_or, take, map, replicate, Some, None, ℤ, pos, refl, ap, sym, subst, ◌∙◌, arith}
use Rattle.std.specs.Prelude.{All}
use Rattle.std.specs.Option.{option_map}
use Rattle.std.proofs.lemmas.Bool.{cases_lt}
use Rattle.std.proofs.lemmas.List.{ext_get_or, get_or-map, length-map, take-map, take-replicate}
use Rattle.std.proofs.lemmas.List.Elements.{All-replicate}
use Rattle.finite.specs.Lists.{values_below}
use Rattle.finite.proofs.Lists.{find_below_first, find_below_none}
use Rattle.turbo_code.specs.declared.rows.Row.{Row}
use Rattle.turbo_code.specs.Table.{IsAnyRow}
use Rattle.turbo_code.proofs.TableFacts.{is_small}
use Rattle.turbo_dec.specs.Decoder.{IsSmall, values_of, at, extrinsics}
use Rattle.cs_bits.specs.Checks.{message_of, has_check_24}
use Rattle.turbo_code.specs.Streams.{tail_items, bits_of_stream, in_order, in_word_order}
use Rattle.turbo_dec.specs.Block.{handed_on, prior_after, decoded_by, word_by, block, first_extrinsics, second_extrinsics, second_after}

-- the prior is derived from each extrinsic value
pub handed_is : (found handed : List ℤ) (k : ℕ) → length found ≡ 1024 → length handed ≡ 1024 → 1024 ≤ k →
    ((j : ℕ) → j < k → get_or handed j (pos 0) ≡ handed_on (at found j)) → handed ≡ map handed_on found
handed_is found handed k size size' past each =
    ext_get_or (pos 0) handed (map handed_on found) (size' ∙ sym size ∙ sym (length-map found handed_on)) (λ j below.
    let inside : j < length found = omega (arith, size, size', below) in
    each j (omega (arith, past, size', below)) ∙ sym (get_or-map handed_on found j (pos 0) (pos 0) inside))

-- ---- an iteration

pub first_is : (row : Row) (sums : List (List ℤ)) (prior s p t q found : List ℤ) → s ≡ bits_of_stream (pos 0) row sums 0 → p ≡ bits_of_stream (pos 0) row sums 1 →
    t ≡ tail_items (pos 0) sums row.k → q ≡ prior → length s ≡ row.k → take (length s) found ≡ extrinsics (values_of s p t q) →
    take row.k found ≡ first_extrinsics row sums prior
unfolding first_extrinsics
first_is row sums prior s p t q found es ep et eq size h = sym (ap (λ n. take n found) size) ∙ h ∙ rw (es, ep, et, eq) refl

pub second_found : (row : Row) (sums : List (List ℤ)) (handed s p t q found second : List ℤ) → s ≡ in_order (pos 0) row (bits_of_stream (pos 0) row sums 0) →
    p ≡ bits_of_stream (pos 0) row sums 2 → t ≡ tail_items (pos 0) sums (row.k + 2) → q ≡ in_order (pos 0) row handed → length s ≡ row.k →
    take (length s) found ≡ extrinsics (values_of s p t q) → second ≡ in_word_order (pos 0) row (take row.k found) → second ≡ second_extrinsics row sums handed
unfolding second_extrinsics
second_found row sums handed s p t q found second es ep et eq size h is =
    is ∙ ap (in_word_order (pos 0) row) (sym (ap (λ n. take n found) size) ∙ h ∙ rw (es, ep, et, eq) refl)

pub second_is : (row : Row) (sums : List (List ℤ)) (prior first handed second : List ℤ) → handed ≡ map handed_on first →
    take row.k first ≡ first_extrinsics row sums prior → take row.k second ≡ second_extrinsics row sums (take row.k handed) →
    take row.k second ≡ second_after row sums prior
second_is row sums prior first handed second is known h =
    h ∙ ap (second_extrinsics row sums) (ap (take row.k) is ∙ take-map handed_on row.k first ∙ ap (map handed_on) known)

pub decoded_is : (row : Row) (sums : List (List ℤ)) (prior s first second : List ℤ) (word : List Bool) → s ≡ bits_of_stream (pos 0) row sums 0 → length s ≡ row.k →
    first ≡ first_extrinsics row sums prior → second ≡ second_after row sums prior →
    take (length s) word ≡ values_below (length s) (decoded_by s first second) → take row.k word ≡ word_by row sums prior
unfolding word_by
decoded_is row sums prior s first second word es size ef ese h =
    sym (ap (λ n. take n word) size) ∙ h ∙ ap (λ n. values_below n (decoded_by s first second)) size ∙ rw (es, ef, ese) refl

-- ---- the block

-- `prior` is the prior after n iterations, and no iterate before n passes the CRC
pub record IsAfter (row : Row) (sums : List (List ℤ)) (prior : List ℤ) (n : ℕ) : Type 0 where
  pub small : All IsSmall prior
  pub prior_is : take row.k prior ≡ prior_after row sums n
  pub none : (j : ℕ) → j < n → has_check_24 (word_by row sums (prior_after row sums j)) ≡ false

pub after_none : (row : Row) (sums : List (List ℤ)) → IsAnyRow row → IsAfter row sums (replicate 1024 (pos 0)) 0
unfolding prior_after
after_none row sums is_row =
    let high = (is_small row is_row).high in
    record {
      small = All-replicate IsSmall 1024 (pos 0) (omega arith);
      prior_is = take-replicate row.k 1024 (pos 0) (omega (arith, high));
      none = λ j below. absurd (omega (arith, below));
    }

pub after_more : (row : Row) (sums : List (List ℤ)) (prior later : List ℤ) (word : List Bool) (n : ℕ) → IsAfter row sums prior n → All IsSmall later →
    take row.k later ≡ map handed_on (second_after row sums (take row.k prior)) → word ≡ word_by row sums (take row.k prior) → has_check_24 word ≡ false →
    IsAfter row sums later (n + 1)
unfolding prior_after
after_more row sums prior later word n known small is decoded fails =
    let e : n + 1 ≡ suc n = omega arith in
    record {
      small = small;
      prior_is = subst (λ m. take row.k later ≡ prior_after row sums m) (sym e) (is ∙ ap (λ q. map handed_on (second_after row sums q)) known.prior_is);
      none = λ j below. elim (cases_lt j n) [
        | inl before ↦ known.none j before
        | inr after ↦
            let here : j ≡ n = omega (arith, after, below) in
            rw here (ap (λ q. has_check_24 (word_by row sums q)) (sym known.prior_is) ∙ ap has_check_24 (sym decoded) ∙ fails)
      ];
    }

pub block_found : (row : Row) (sums : List (List ℤ)) (prior : List ℤ) (word : List Bool) (n : ℕ) → n < 8 → IsAfter row sums prior n →
    word ≡ word_by row sums (take row.k prior) → has_check_24 word ≡ true → Some (message_of 24 word) ≡ block row sums
unfolding block
block_found row sums prior word n below known decoded passed =
    let is : word ≡ word_by row sums (prior_after row sums n) = decoded ∙ ap (word_by row sums) known.prior_is in
    let found = find_below_first has_check_24 (λ m. word_by row sums (prior_after row sums m)) 8 n below known.none (ap has_check_24 (sym is) ∙ passed) in
    ap (λ w. Some (message_of 24 w)) is ∙ sym (ap (option_map (message_of 24)) found)

pub block_none : (row : Row) (sums : List (List ℤ)) (prior : List ℤ) (n : ℕ) → 8 ≤ n → IsAfter row sums prior n → None ≡ block row sums
unfolding block
block_none row sums prior n past known =
    sym (ap (option_map (message_of 24)) (find_below_none has_check_24 (λ m. word_by row sums (prior_after row sums m)) 8 (λ j below. known.none j (omega (arith, past, below)))))
