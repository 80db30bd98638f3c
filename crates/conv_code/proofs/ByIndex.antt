-- Sums by position in interleaved order, and by index.
use Rattle.std.proofs.Common.{◌≡◌, ◌≢◌, ℕ, ◌+◌, ◌<◌, ◌≤◌, Bool, List, [], length, get_or, set, replicate, ℤ, pos, ap, sym, ◌∙◌, inl, inr, arith, length-set, get_or-set_other, get_or-set_same}
use Rattle.std.specs.Prelude.{◌&&◌, cond, nat_eq}
use Rattle.std.proofs.lemmas.Bool.Decides.{eqb_tells}
use Rattle.std.proofs.lemmas.Bool.{cases_lt, eq-eqb}
use Rattle.std.proofs.lemmas.List.{length-replicate, get_or-replicate}
use Rattle.finite.specs.Tables.{sum_at}
use Rattle.finite.proofs.Lists.{values_below_is}
use Rattle.finite.proofs.Sums.{sum_below_same}
use Rattle.sub_block.specs.Items.{is_at, summed_at}
use Rattle.conv_code.specs.Reading.{stream_order, item_of, summed_by, summed_from}
use Rattle.conv_code.specs.Steps.{stream_of, place_of, placed_sum, HasPlacedSums}
use Rattle.conv_code.proofs.Orders.{index_of, is_order}
use Rattle.conv_code.proofs.Items.{item_is}

-- the sums at the first p positions are stored at their indices
pub record AreIndexed (n : ℕ) (placed : List (List ℤ)) (p : ℕ) (sums : List (List ℤ)) : Type 0 where
  pub size : length sums ≡ n
  pub rows : (q : ℕ) → q < n → length (get_or sums q []) ≡ 3
  pub each : (t k : ℕ) → t < 3 → k < p → sum_at sums (get_or (stream_order n) k 0) t ≡ sum_at placed t k

pub none_indexed : (n : ℕ) (placed : List (List ℤ)) (row : List ℤ) → length row ≡ 3 → AreIndexed n placed 0 (replicate n row)
none_indexed n placed row three = record {
  size = length-replicate n row;
  rows = λ q below. ap length (get_or-replicate n q row [] below) ∙ three;
  each = λ t k h below. absurd (omega (arith, below));
}

-- different positions have different indices
same_place : (n j k : ℕ) → n ≤ 64 → j < n → k < n → get_or (stream_order n) j 0 ≡ get_or (stream_order n) k 0 → j ≡ k
same_place n j k short hj hk e =
    let o = is_order n in
    sym (o.once j hj) ∙ ap (λ i. index_of i (stream_order n)) e ∙ o.once k hk

pub index_below : (n p : ℕ) (order : List ℕ) → n ≤ 64 → p < n → order ≡ stream_order n → get_or order p 0 < n
index_below n p order short below e = rw e ((is_order n).inside p below)

pub indexed_more : (n : ℕ) (placed sums : List (List ℤ)) (p q : ℕ) (row : List ℤ) → n ≤ 64 → p < n → q ≡ get_or (stream_order n) p 0 → length row ≡ 3 →
    ((t : ℕ) → t < 3 → get_or row t (pos 0) ≡ sum_at placed t p) → AreIndexed n placed p sums → AreIndexed n placed (p + 1) (set sums q row)
indexed_more n placed sums p q row short below is three here known =
    let size = known.size in
    let inside : q < length sums = let h = (is_order n).inside p below in omega (arith, size, is, h) in
    record {
      size = length-set sums q row ∙ size;
      rows = λ i h. elim (eqb_tells i q) [
        | inl (t, same) ↦ rw (same, get_or-set_same sums q row [] inside) three
        | inr (f, other) ↦ rw (get_or-set_other sums q i row [] other) (known.rows i h)
      ];
      each = λ t k h less. elim (cases_lt k p) [
        | inl before ↦
            let apart : get_or (stream_order n) k 0 ≢ q = λ e. let same = same_place n k p short (omega (arith, before, below)) below (e ∙ is) in absurd (omega (arith, same, before)) in
            ap (λ r. get_or r t (pos 0)) (get_or-set_other sums q (get_or (stream_order n) k 0) row [] apart) ∙ known.each t k h before
        | inr no_less ↦
            let e : k ≡ p = omega (arith, less, no_less) in
            let e' : get_or (stream_order n) k 0 ≡ q = ap (λ k. get_or (stream_order n) k 0) e ∙ sym is in
            ap (λ r. get_or r t (pos 0)) (ap (λ i. get_or (set sums q row) i []) e' ∙ get_or-set_same sums q row [] inside) ∙ here t h ∙ ap (sum_at placed t) (sym e)
      ];
    }

-- ---- the result is what the definition says

-- a rate-matched bit belongs to an index if and only if it belongs to its position
same_test : (n i t p : ℕ) → 6 ≤ n → n ≤ 64 → p < n →
    (nat_eq (stream_of n i) t && nat_eq (place_of n i) p) ≡ is_at t (get_or (stream_order n) p 0) (item_of n i)
same_test n i t p long short below =
    let at = item_is n i long short in
    rw at (ap (λ (b : Bool). nat_eq (stream_of n i) t && b) same)
  where
    inside : place_of n i < n
    inside = omega (arith, long)

    same : (nat_eq (place_of n i) p ≡ nat_eq (get_or (stream_order n) (place_of n i) 0) (get_or (stream_order n) p 0))
    same = elim (eqb_tells (place_of n i) p) [
      | inl (t, e) ↦ t ∙ sym (eq-eqb _ _ (ap (λ k. get_or (stream_order n) k 0) e))
      | inr (f, ne) ↦ elim (eqb_tells (get_or (stream_order n) (place_of n i) 0) (get_or (stream_order n) p 0)) [
        | inl (t, e) ↦ absurd (ne (same_place n (place_of n i) p short inside below e))
        | inr (f', ne') ↦ f ∙ sym f'
      ]
    ]

pub indexed_are_summed : (n first : ℕ) (values : List ℤ) (placed sums : List (List ℤ)) → 6 ≤ n → n ≤ 64 → HasPlacedSums n first values (length values) placed →
    AreIndexed n placed n sums → sums ≡ summed_from first n values
unfolding summed_by summed_at placed_sum
indexed_are_summed n first values placed sums long short has known =
    values_below_is [] n _ sums known.size (λ q below. values_below_is (pos 0) 3 _ (get_or sums q []) (known.rows q below) (λ t h. here q t below h))
  where
    here : (q t : ℕ) → q < n → t < 3 → sum_at sums q t ≡ summed_at (λ i. item_of n (first + i)) values (length values) t q
    here q t below h =
        let o = is_order n in
        let p = index_of q (stream_order n) in
        let p_below = o.index_inside q below in
        let e : get_or (stream_order n) p 0 ≡ q = o.each q below in
        ap (λ q. sum_at sums q t) (sym e) ∙ known.each t p h p_below ∙ has.sum t p h p_below
        ∙ sum_below_same (length values) _ _
        (λ i _. ap (λ (b : Bool). cond b (get_or values i (pos 0)) (pos 0)) (same_test n (first + i) t p long short p_below ∙ ap (λ q. is_at t q (item_of n (first + i))) e))
