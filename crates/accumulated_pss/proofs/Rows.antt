-- Rows of sums while a half-frame is added, and when all are.
use Rattle.std.proofs.Common.{◌≡◌, ◌⊎◌, inl, inr, ℕ, zero, suc, ◌+◌, ◌-◌, ◌*◌, ◌<◌, List, [], ◌∷◌, replicate, arith, refl, ap, ap₂, sym, ◌∙◌, length, length-set, get_or, get_or-set_same, get_or-set_other}
use Rattle.std.proofs.lemmas.Bool.{cases_lt}
use Rattle.std.proofs.lemmas.List.{get_or-replicate, length-replicate}
use Rattle.finite.specs.Sums.{total_below}
use Rattle.finite.proofs.Sums.{total_below_same, total_below_more}
use Rattle.finite.proofs.Lists.{values_below-length, values_below_at, values_below_is, values_below_same}
use Rattle.cs_num.specs.declared.Sample.{Sample}
use Rattle.sample_file.proofs.Agree.{sample_agrees}
use Rattle.accumulated_pss.specs.Sums.{ratio_at, ratio, accumulated, row_of, rows_of, row_in}
use Rattle.accumulated_pss.specs.Steps.{window_of, added_to, with_ratios, HasRoom, IsRow, AreRows}
use Rattle.accumulated_pss.specs.Laws.{RowsHoldSums, FirstSamplesDecide}
use Rattle.accumulated_pss.proofs.Ratios.{accumulated-within}
use Rattle.accumulated_pss.proofs.Windows.{ratio_same, window_ratio}

-- ---- a row holds the sums

pub row-length : (recording : List Sample) (halves n2 : ℕ) → length (row_of recording halves n2) ≡ 9600
unfolding row_of
row-length recording halves n2 = values_below-length 9600 (λ i. accumulated recording halves n2 (137 + i))

row_at : (recording : List Sample) (halves n2 k : ℕ) → k < 9600 → get_or (row_of recording halves n2) k 0 ≡ accumulated recording halves n2 (137 + k)
unfolding row_of
row_at recording halves n2 k l = values_below_at (λ i. accumulated recording halves n2 (137 + i)) 9600 k 0 l

pub rows_hold_sums : RowsHoldSums
rows_hold_sums recording halves n2 t position =
    row_at recording halves n2 (t - 137) (omega (arith, position.from_first, position.to_last))
    ∙ ap (accumulated recording halves n2) (let e : 137 + (t - 137) ≡ t = omega (arith, position.from_first) in e)

pub first_samples_decide : FirstSamplesDecide
unfolding row_of
first_samples_decide halves n2 first second agree =
    values_below_same 9600 (λ i. accumulated first halves n2 (137 + i)) (λ i. accumulated second halves n2 (137 + i))
    (λ i inside. total_below_same halves (ratio first n2 (137 + i)) (ratio second n2 (137 + i))
    (λ half below. ratio_same first second (137 + i + 9600 * half) (137 + i + 9600 * half)
    (λ n l. sample_agrees (264 + 9600 * halves) (137 + i + 9600 * half + n) first second agree (omega (arith, inside, below, l))) n2))

-- ---- one more position

-- the index that is changed, or another
at_or_not : (k i : ℕ) → k < i + 1 → (k ≡ i) ⊎ (k < i)
at_or_not k i l = elim (cases_lt k i) [
  | inl below ↦ inr below
  | inr past ↦ inl (let e : k ≡ i = omega (arith, past, l) in e)
]

module _ (recording : List Sample) (half i n2 : ℕ) (row : List ℕ) (inside : i < 9600) (before : IsRow recording half i n2 row) where
  abbrev more : ℕ
  more = ratio_at (window_of recording (9600 * half)) n2 (137 + i)

  abbrev after : List ℕ
  after = added_to row i more

  long : i < length row
  long = let count = before.count in omega (arith, count, inside)

  at_i : get_or after i 0 ≡ accumulated recording (half + 1) n2 (137 + i)
  at_i =
      get_or-set_same row i (get_or row i 0 + more) 0 long
      ∙ ap₂ ◌+◌ (before.without i (omega arith) inside) (window_ratio recording (9600 * half) n2 (137 + i) (omega (arith, inside)))
      ∙ sym (total_below_more half (ratio recording n2 (137 + i)))

  not_i : (k : ℕ) → (k ≡ i → ⊥) → get_or after k 0 ≡ get_or row k 0
  not_i k other = get_or-set_other row i k (get_or row i 0 + more) 0 other

  pub row_more : IsRow recording half (i + 1) n2 after
  row_more = record {
    count = length-set row i (get_or row i 0 + more) ∙ before.count;
    with = λ k l. elim (at_or_not k i l) [
      | inl same ↦ ap (λ j. get_or after j 0) same ∙ at_i ∙ ap (λ j. accumulated recording (half + 1) n2 (137 + j)) (sym same)
      | inr below ↦ not_i k (λ e. omega (arith, e, below)) ∙ before.with k below
    ];
    without = λ k past l. not_i k (λ e. omega (arith, e, past)) ∙ before.without k (omega (arith, past)) l;
  }

in_three : (P : ℕ → Type 0) → P 0 → P 1 → P 2 → (n : ℕ) → n < 3 → P n
in_three P a b c zero l = a
in_three P a b c (suc zero) l = b
in_three P a b c (suc (suc zero)) l = c
in_three P a b c (suc (suc (suc n))) l = absurd (omega (arith, l))

pub rows_more : (recording : List Sample) (half i : ℕ) (rows : List (List ℕ)) → i < 9600 → AreRows recording half i rows →
    AreRows recording half (i + 1) (with_ratios (window_of recording (9600 * half)) i rows)
rows_more recording half i rows inside before = record {
  count = refl;
  each = in_three (λ n2. IsRow recording half (i + 1) n2 (row_in (with_ratios (window_of recording (9600 * half)) i rows) n2))
      (row_more recording half i 0 (row_in rows 0) inside (before.each 0 (omega arith)))
      (row_more recording half i 1 (row_in rows 1) inside (before.each 1 (omega arith)))
      (row_more recording half i 2 (row_in rows 2) inside (before.each 2 (omega arith)));
}

-- the sums have room for one more ratio
pub rows_have_room : (recording : List Sample) (half i : ℕ) (rows : List (List ℕ)) → half < 199 → i < 9600 → AreRows recording half i rows → HasRoom i rows
rows_have_room recording half i rows few inside before n2 known =
    let is = (before.each n2 known).without i (omega arith) inside in
    let within = accumulated-within recording half n2 (137 + i) in
    omega (arith, is, within, few)

-- ---- one more half-frame

pub rows_turn : (recording : List Sample) (half : ℕ) (rows : List (List ℕ)) → AreRows recording half 9600 rows → AreRows recording (half + 1) 0 rows
rows_turn recording half rows before = record {
  count = before.count;
  each = λ n2 known.
      let row = before.each n2 known in
      record {
        count = row.count;
        with = λ k l. absurd (omega (arith, l));
        without = λ k low l. row.with k l;
      };
}

nothing_yet : (first second : List Sample) (n2 t : ℕ) → accumulated first 0 n2 t ≡ accumulated second 0 n2 t
unfolding total_below
nothing_yet first second n2 t = refl

row_none : (n2 : ℕ) → replicate 9600 0 ≡ row_of [] 0 n2
unfolding row_of total_below
row_none n2 = values_below_is 0 9600 (λ i. accumulated [] 0 n2 (137 + i)) (replicate 9600 0) (length-replicate {A = ℕ} 9600 0) (λ k l. get_or-replicate 9600 k 0 0 l)

pub three_same : (a b c x y z : List ℕ) → a ≡ x → b ≡ y → c ≡ z → a ∷ b ∷ c ∷ [] ≡ x ∷ y ∷ z ∷ []
three_same a b c x y z e f g =
    ap₂ (λ (u : List ℕ) (us : List (List ℕ)). u ∷ us) e (ap₂ (λ (u : List ℕ) (us : List (List ℕ)). u ∷ us) f (ap (λ (u : List ℕ). u ∷ []) g))

-- three rows of zeros
pub rows_empty : (a b c : List ℕ) → a ≡ replicate 9600 0 → b ≡ replicate 9600 0 → c ≡ replicate 9600 0 → a ∷ b ∷ c ∷ [] ≡ rows_of [] 0
rows_empty a b c e f g = three_same a b c (row_of [] 0 0) (row_of [] 0 1) (row_of [] 0 2) (e ∙ row_none 0) (f ∙ row_none 1) (g ∙ row_none 2)

pub rows_none : (recording : List Sample) → AreRows recording 0 0 (rows_of [] 0)
rows_none recording = record {
  count = values_below-length 3 (row_of [] 0);
  each = λ n2 known. rw (values_below_at (row_of [] 0) 3 n2 [] known) record {
    count = row-length [] 0 n2;
    with = λ k l. absurd (omega (arith, l));
    without = λ k low l. row_at [] 0 n2 k l ∙ nothing_yet [] recording n2 (137 + k);
  };
}

row_end : (recording : List Sample) (halves n2 : ℕ) (row : List ℕ) → IsRow recording halves 0 n2 row → row ≡ row_of recording halves n2
unfolding row_of
row_end recording halves n2 row is =
    values_below_is 0 9600 (λ i. accumulated recording halves n2 (137 + i)) row is.count (λ k l. is.without k (omega arith) l)

pub rows_end : (recording : List Sample) (halves : ℕ) (rows : List (List ℕ)) → AreRows recording halves 0 rows → rows ≡ rows_of recording halves
rows_end recording halves rows are =
    values_below_is [] 3 (row_of recording halves) rows are.count (λ n2 known. row_end recording halves n2 (row_in rows n2) (are.each n2 known))
