-- The keys that passes give are bounds and keys of words, and the minimum key belongs to the minimum-cost word.
use Rattle.std.proofs.Common.{◌≡◌, ℕ, ◌+◌, ◌-◌, ◌*◌, ◌/◌, ◌%◌, ◌^◌, ◌<◌, ◌≤◌, Bool, List, [], length, max, get_or, set, ℤ, refl, ap, sym, ◌∙◌, subst, inl, inr, arith, get_or-set_other, get_or-set_same}
use Rattle.std.specs.Prelude.{min}
use Rattle.std.proofs.lemmas.Bool.Decides.{eqb_tells}
use Rattle.std.proofs.Math.Pow.{pow_mono}
use Rattle.finite.specs.Sizes.{RowsWithin}
use Rattle.cs_bits.specs.Numbers.{number, bits_of}
use Rattle.cs_bits.proofs.Numbers.{number_below, bits_of_is, length-bits_of}
use Rattle.trellis.specs.Paths.{end_of, path_cost, walked}
use Rattle.trellis.specs.Words.{IsFirstLeast}
use Rattle.trellis.specs.Least.{ends_in, IsLeastTo}
use Rattle.trellis.proofs.Walks.{length-walked, walked_first, first_least_is_best}
use Rattle.trellis.proofs.Keys.{first_least-key, first_least_by_key}
use Rattle.trellis.proofs.Best.{min_cases}
use Rattle.trellis.proofs.Rounds.{ends_in_same, ends_in_other}
use Rattle.conv_code.specs.Cost.{word_cost}
use Rattle.conv_code.proofs.Costs.{word_cost-le}
use Rattle.tailbite.specs.LeastWord.{IsLeastWord}
use Rattle.tailbite.specs.Machine.{shift, step_cost}
use Rattle.tailbite.specs.Passes.{decoded_bit, IsPass}
use Rattle.tailbite.specs.Costs.{HaveCosts}
use Rattle.tailbite.proofs.Back.{decoded_best}
use Rattle.tailbite.specs.Keys.{scale, far, word_key, IsWordKey, IsBound, AreBounds, IsKeyOrFar, IsLeastKey}
use Rattle.tailbite.proofs.Windows.{same_end, end_below, shift_below}
use Rattle.tailbite.proofs.Branches.{word_cost-path}

-- ---- words and paths

-- the path of a word that starts in s ends there, and costs as much as the word
round : (values : List (List ℤ)) (s : ℕ) (word : List Bool) → length word ≡ length values → 6 ≤ length values → s < 64 → end_of shift 0 word ≡ s →
    (end_of shift s word ≡ s) × (word_cost values word ≡ path_cost shift (step_cost values) 0 s word)
round values s word size long below is = (
  same_end s 0 word below (omega arith) (omega (arith, size, long)) ∙ is,
  word_cost-path values word size (omega (arith, size, long)) ∙ rw is refl,
)

-- the numbers of all words are below the scale
wide : (n : ℕ) → n ≤ 64 → 2 ^ n ≤ scale
wide n short = pow_mono {j = 64} short

-- ---- results of a pass

-- the word along the minimum-cost path from state s
abbrev decoded_word : List (List ℤ) → List (List ℕ) → List (List ℕ) → ℕ → List Bool
decoded_word values tables rows s = walked shift (decoded_bit tables rows) 0 (length values) s

decoded_first : (values : List (List ℤ)) (ends : ℕ → ℕ) (tables : List (List ℕ)) (rows : List (List ℕ)) (s : ℕ) → HaveCosts values tables (length values) → IsPass values ends rows → s < 64 →
    IsFirstLeast (length values) (λ bs. path_cost shift (step_cost values) 0 s bs + ends (end_of shift s bs)) (decoded_word values tables rows s)
decoded_first values ends tables rows s have passed below =
    walked_first shift (step_cost values) ends (decoded_bit tables rows) 64 (length values) shift_below (decoded_best values tables ends rows have passed) 0 (length values) s (omega arith) below

decoded_cost : (values : List (List ℤ)) (ends : ℕ → ℕ) (tables : List (List ℕ)) (rows : List (List ℕ)) (s : ℕ) → HaveCosts values tables (length values) → IsPass values ends rows → s < 64 →
    path_cost shift (step_cost values) 0 s (decoded_word values tables rows s) + ends (end_of shift s (decoded_word values tables rows s)) ≡ get_or (get_or rows 0 []) s 0
decoded_cost values ends tables rows s have passed below =
    first_least_is_best shift (step_cost values) ends 0 (length values) s (decoded_word values tables rows s) (decoded_first values ends tables rows s have passed below)
    ∙ sym (passed.cost 0 (length values) s (omega arith) below)

-- if an end in s is free, no word that starts in s has a smaller key
pub pass_bound : (values : List (List ℤ)) (ends : ℕ → ℕ) (tables : List (List ℕ)) (rows : List (List ℕ)) (s : ℕ) → HaveCosts values tables (length values) → IsPass values ends rows →
    6 ≤ length values → length values ≤ 64 → s < 64 → ends s ≡ 0 → IsBound values s (get_or (get_or rows 0 []) s 0 * scale + number (decoded_word values tables rows s))
pass_bound values ends tables rows s have passed long short below free word size is =
    let (back, cost) = round values s word size long below is in
    let free_end : ends (end_of shift s word) ≡ 0 = ap ends back ∙ free in
    let least = first_least-key (length values) (scale) (λ bs. path_cost shift (step_cost values) 0 s bs + ends (end_of shift s bs)) (decoded_word values tables rows s)
    (wide (length values) short) (decoded_first values ends tables rows s have passed below) word size in
    let decoded = decoded_cost values ends tables rows s have passed below in
    omega (arith, cost, free_end, least, decoded)

-- no word that starts in s, and so ends there, costs less than the minimum cost to s without the cost of a start in s
pub cost_bound : (values : List (List ℤ)) (starts : ℕ → ℕ) (s m : ℕ) → 6 ≤ length values → s < 64 →
    IsLeastTo shift (step_cost values) starts 64 (length values) s m → IsBound values s ((m - starts s) * scale)
cost_bound values starts s m long below to word size is =
    let (back, cost) = round values s word size long below is in
    let to_s = to.least s word below size back in
    omega (arith, cost, to_s)

-- if the path ends in s too, where the end is free, its key is the key of a word
pub pass_key : (values : List (List ℤ)) (ends : ℕ → ℕ) (tables : List (List ℕ)) (rows : List (List ℕ)) (s : ℕ) → HaveCosts values tables (length values) → IsPass values ends rows →
    6 ≤ length values → s < 64 → ends s ≡ 0 → end_of shift s (decoded_word values tables rows s) ≡ s →
    IsWordKey values (get_or (get_or rows 0 []) s 0 * scale + number (decoded_word values tables rows s))
pass_key values ends tables rows s have passed long below free closed =
    let word = decoded_word values tables rows s in
    let size = length-walked shift (decoded_bit tables rows) 0 (length values) s in
    let start : end_of shift 0 word ≡ s = same_end 0 s word (omega arith) below (omega (arith, size, long)) ∙ closed in
    let (back, cost) = round values s word size long below start in
    let free_end : ends (end_of shift s word) ≡ 0 = ap ends closed ∙ free in
    let decoded = decoded_cost values ends tables rows s have passed below in
    (word, size, omega (arith, cost, free_end, decoded))

-- the key if only an end in s is free
pub pass_key_or_far : (values : List (List ℤ)) (ends : ℕ → ℕ) (tables : List (List ℕ)) (rows : List (List ℕ)) (s : ℕ) → HaveCosts values tables (length values) → IsPass values ends rows →
    6 ≤ length values → s < 64 → ((x : ℕ) → x < 64 → ends x ≡ ends_in far s x) →
    IsKeyOrFar values (get_or (get_or rows 0 []) s 0 * scale + number (decoded_word values tables rows s))
pass_key_or_far values ends tables rows s have passed long below are small =
    let word = decoded_word values tables rows s in
    elim (eqb_tells (end_of shift s word) s) [
      | inl (t, closed) ↦ pass_key values ends tables rows s have passed long below (are s below ∙ ends_in_same (far) s s refl) closed
      | inr (f, away) ↦
          let costs : ends (end_of shift s word) ≡ far = are (end_of shift s word) (end_below s word below) ∙ ends_in_other (far) s (end_of shift s word) f in
          let decoded = decoded_cost values ends tables rows s have passed below in
          absurd (omega (arith, costs, decoded, small))
    ]

-- ---- the minimum key

-- the greater of two bounds is a bound
pub greater_bound : (values : List (List ℤ)) (s m n : ℕ) → IsBound values s m → IsBound values s n → IsBound values s (max m n)
greater_bound values s m n one other word size is = let h = one word size is in let h' = other word size is in omega (arith, h, h')

-- the lesser of two keys is a key
pub least_or_far : (values : List (List ℤ)) (m n : ℕ) → IsKeyOrFar values m → IsKeyOrFar values n → IsKeyOrFar values (min m n)
least_or_far values m n one other = elim (min_cases m n) [ inl e ↦ rw e one | inr e ↦ rw e other ]

-- another bound at one state
pub bounds_with : (values : List (List ℤ)) (bounds : List ℕ) (start m : ℕ) → start < length bounds → AreBounds values bounds → IsBound values start m →
    AreBounds values (set bounds start m)
bounds_with values bounds start m inside are here = record {
  bound = λ s below. elim (eqb_tells s start) [
    | inl (t, same) ↦ rw (same, get_or-set_same bounds start m 0 inside) here
    | inr (f, other) ↦ rw (get_or-set_other bounds start s m 0 other) (are.bound s below)
  ];
}

-- the key of any word is below that of a far end
below_far : (values : List (List ℤ)) (word : List Bool) → length word ≡ length values → length values ≤ 64 → RowsWithin (2 ^ 20) values →
    word_key values word < far * scale
below_far values word size short magnitudes =
    let cost = word_cost-le (2 ^ 20) values word magnitudes in
    let below = number_below word in
    let power : 2 ^ length word ≤ 2 ^ 64 = pow_mono {j = 64} (omega (arith, size, short)) in
    omega (arith, cost, below, power, short)

-- a key that is at most every bound is the minimum key
pub no_bound_below : (values : List (List ℤ)) (bounds : List ℕ) (start m : ℕ) → length values ≤ 64 → RowsWithin (2 ^ 20) values → AreBounds values bounds →
    ((x : ℕ) → x < 64 → get_or bounds start 0 ≤ get_or bounds x 0) → m ≤ get_or bounds start 0 → IsKeyOrFar values m → IsLeastKey values m
no_bound_below values bounds start m short magnitudes are least no_less is =
    let lower : (word : List Bool) → length word ≡ length values → m ≤ word_key values word =
    λ word size.
    let s = end_of shift 0 word in
    let below : s < 64 = end_below 0 word (omega arith) in
    let h = are.bound s below word size refl in
    let h' = least s below in
    omega (arith, h, h', no_less) in
    let some = bits_of (length values) 0 in
    let size = length-bits_of (length values) 0 in
    let h = lower some size in
    let h' = below_far values some size short magnitudes in
    record { reached = is (omega (arith, h, h')); least = lower }

-- the word and the cost that a minimum key holds
pub record IsDecoded (values : List (List ℤ)) (m : ℕ) (word : List Bool) : Type 0 where
  pub word_is : IsLeastWord values word
  pub cost_is : m / scale ≡ word_cost values word
  pub small : m / scale ≤ 64 * (3 * 2 ^ 20)

decoded : (values : List (List ℤ)) (m : ℕ) (word : List Bool) → IsLeastKey values m → length values ≤ 64 → RowsWithin (2 ^ 20) values →
    word ≡ bits_of (length values) (m % scale) → IsDecoded values m word
decoded values m word known short magnitudes bits =
    let (w, size, is) = known.reached in
    let below = number_below w in
    let power : 2 ^ length w ≤ scale = pow_mono {j = 64} (omega (arith, size, short)) in
    let cost = word_cost-le (2 ^ 20) values w magnitudes in
    let low : m % scale ≡ number w = omega (arith, is, below, power) in
    let high : m / scale ≡ word_cost values w = omega (arith, is, below, power) in
    let e : w ≡ word = bits_of_is (length values) (m % scale) w size (sym low) ∙ sym bits in
    let first : IsFirstLeast (length values) (word_cost values) w =
    first_least_by_key (length values) (scale) (word_cost values) w (wide (length values) short) size (λ other size'. rw is (known.least other size')) in
    let least : IsLeastWord values w = record { size = size; least = first.least; first = first.first } in
    record {
      word_is = subst (IsLeastWord values) e least;
      cost_is = rw (← e) high;
      small = omega (arith, high, cost, short);
    }

-- the word and the cost for an array of n positions
pub decoded_array : (n : ℕ) (values : List (List ℤ)) (m : ℕ) (word : List Bool) → length values ≡ n → IsLeastKey values m → n ≤ 64 →
    RowsWithin (2 ^ 20) values → word ≡ bits_of n (m % scale) → IsDecoded values m word
decoded_array n values m word e known short magnitudes bits = decoded values m word known (rw e short) magnitudes (rw e bits)
