-- Values for half-frames of even and of odd number in one list of 124.
use Rattle.std.proofs.Common.{◌≡◌, ℕ, ◌+◌, ◌-◌, ◌<◌, ◌≤◌, nat_lt, nat_abs, true, false, ℤ, pos, ◌+ℤ◌, ◌*ℤ◌, int_eq, cond, List, arith, refl, ap, ap₂, sym, ◌∙◌}
use Rattle.std.specs.Prelude.{if◌then◌else◌}
use Rattle.std.specs.Int.{int_signum}
use Rattle.std.proofs.lemmas.Bool.Decides.{nat_tests}
use Rattle.finite.specs.Lists.{values_below}
use Rattle.finite.specs.Sizes.{AllWithin}
use Rattle.finite.proofs.Sums.{sum_below_split, sum_below_same, total_below_none, total_below_more, total_below_split, total_below_same}
use Rattle.finite.proofs.Lists.{values_below_at, values_below_same, values_below-All}
use Rattle.cs_num.specs.declared.Sample.{Sample}
use Rattle.lte_types.specs.declared.frame.Half.{Half}
use Rattle.sync_seq.specs.Secondary.{sss_at, sss_list}
use Rattle.sync_seq.proofs.SecondaryValues.{sss-size}
use Rattle.accumulated_sss.specs.Votes.{both_energies, product, vote, vote_of}
use Rattle.accumulated_sss.specs.Signs.{every_other, in_turn, sums, signs, next_half, cell_signs, matches, cell_matches}
use Rattle.accumulated_sss.specs.Detection.{signal_sum}
use Rattle.accumulated_sss.specs.Steps.{number_at, row_of, signs_of, row_matches, matches_by, signed_sum, signal_sum_by, votes_of}

below : (i : ℕ) → i < 62 → nat_lt i 62 ≡ true
below i l = grind (arith, nat_tests)

not_below : (i : ℕ) → nat_lt (62 + i) 62 ≡ false
not_below i = grind (arith, nat_tests)

in_even : (even odd : ℕ → ℤ) (i : ℕ) → i < 62 → in_turn even odd i ≡ even i
in_even even odd i l = rw (below i l) refl

in_odd : (even odd : ℕ → ℤ) (i : ℕ) → in_turn even odd (62 + i) ≡ odd i
in_odd even odd i = let e : 62 + i - 62 ≡ i = omega arith in rw (not_below i) (ap odd e)

matches_same : (p q a b : ℕ → ℤ) → ((i : ℕ) → i < 62 → p i ≡ q i) → ((i : ℕ) → i < 62 → a i ≡ b i) → matches 62 p a ≡ matches 62 q b
unfolding matches
matches_same p q a b e g =
    total_below_same 62 (λ i. if int_eq (p i) (a i) then 1 else 0) (λ i. if int_eq (q i) (b i) then 1 else 0)
    (λ i l. ap₂ (λ x y. if int_eq x y then 1 else 0) (e i l) (g i l))

matches_split : (p a : ℕ → ℤ) → matches 124 p a ≡ matches 62 p a + matches 62 (λ i. p (62 + i)) (λ i. a (62 + i))
unfolding matches
matches_split p a = total_below_split 62 62 (λ i. if int_eq (p i) (a i) then 1 else 0)

-- a sum in a list of rows
row_at : (halves t parity : ℕ) (f : ℕ → ℕ → ℤ) (i : ℕ) → i < 62 → number_at (row_of halves t parity f) i ≡ every_other halves t parity (λ at. f at i)
unfolding row_of
row_at halves t parity f i l = values_below_at (λ n. every_other halves t parity (λ at. f at n)) 62 i (pos 0) l

sign_at : (halves t parity : ℕ) (f : ℕ → ℕ → ℤ) (i : ℕ) → i < 62 →
    number_at (signs_of (row_of halves t parity f)) i ≡ int_signum (every_other halves t parity (λ at. f at i))
unfolding signs_of
sign_at halves t parity f i l =
    values_below_at (λ n. int_signum (number_at (row_of halves t parity f) n)) 62 i (pos 0) l ∙ ap int_signum (row_at halves t parity f i l)

pub signs_match : (recording : List Sample) (halves t n2 n1 : ℕ) (half : Half) →
    matches_by (signs_of (row_of halves t 0 (vote recording n2))) (signs_of (row_of halves t 1 (vote recording n2))) n2 n1 half
    ≡ cell_matches (signs recording halves t n2) n2 n1 half
unfolding matches_by cell_matches
signs_match recording halves t n2 n1 half = sym (
    matches_split (signs recording halves t n2) (cell_signs n2 n1 half)
    ∙ ap₂ ◌+◌
    (matches_same (signs recording halves t n2) (number_at (signs_of (row_of halves t 0 f))) (cell_signs n2 n1 half) (sss_at n1 n2 half)
    (λ i l. ap int_signum (in_even even odd i l) ∙ sym (sign_at halves t 0 f i l)) (λ i l. in_even (sss_at n1 n2 half) (sss_at n1 n2 (next_half half)) i l))
    (matches_same (λ i. signs recording halves t n2 (62 + i)) (number_at (signs_of (row_of halves t 1 f))) (λ i. cell_signs n2 n1 half (62 + i)) (sss_at n1 n2 (next_half half))
    (λ i l. ap int_signum (in_odd even odd i) ∙ sym (sign_at halves t 1 f i l)) (λ i l. in_odd (sss_at n1 n2 half) (sss_at n1 n2 (next_half half)) i)))
  where
    f : ℕ → ℕ → ℤ
    f = vote recording n2

    even : ℕ → ℤ
    even n = every_other halves t 0 (λ at. f at n)

    odd : ℕ → ℤ
    odd n = every_other halves t 1 (λ at. f at n)

pub products_sum : (recording : List Sample) (halves t n2 n1 : ℕ) (half : Half) →
    signal_sum_by (row_of halves t 0 (product recording n2)) (row_of halves t 1 (product recording n2)) n2 n1 half
    ≡ signal_sum recording halves t n2 n1 half
unfolding signal_sum_by signed_sum signal_sum
products_sum recording halves t n2 n1 half = sym (
    sum_below_split 62 62 (λ i. cell_signs n2 n1 half i *ℤ sums halves t f i)
    ∙ ap₂ ◌+ℤ◌
    (sum_below_same 62 (λ i. cell_signs n2 n1 half i *ℤ sums halves t f i) (λ i. sss_at n1 n2 half i *ℤ number_at (row_of halves t 0 f) i)
    (λ i l. ap₂ ◌*ℤ◌ (in_even (sss_at n1 n2 half) (sss_at n1 n2 (next_half half)) i l) (in_even even odd i l ∙ sym (row_at halves t 0 f i l))))
    (sum_below_same 62 (λ i. cell_signs n2 n1 half (62 + i) *ℤ sums halves t f (62 + i)) (λ i. sss_at n1 n2 (next_half half) i *ℤ number_at (row_of halves t 1 f) i)
    (λ i l. ap₂ ◌*ℤ◌ (in_odd (sss_at n1 n2 half) (sss_at n1 n2 (next_half half)) i) (in_odd even odd i ∙ sym (row_at halves t 1 f i l)))))
  where
    f : ℕ → ℕ → ℤ
    f = product recording n2

    even : ℕ → ℤ
    even n = every_other halves t 0 (λ at. f at n)

    odd : ℕ → ℤ
    odd n = every_other halves t 1 (λ at. f at n)

-- ---- counts and sums as they are computed

pub matches_none : (p q : ℕ → ℤ) → matches 0 p q ≡ 0
unfolding matches
matches_none p q = total_below_none (λ i. if int_eq (p i) (q i) then 1 else 0)

pub matches_more : (n : ℕ) (p q : ℕ → ℤ) → matches (n + 1) p q ≡ matches n p q + cond (int_eq (p n) (q n)) 1 0
unfolding matches
matches_more n p q = total_below_more n (λ i. if int_eq (p i) (q i) then 1 else 0)

-- a sequence from its list
pub sequence_at : (n1 n2 : ℕ) (half : Half) (i : ℕ) → i < 62 → number_at (sss_list n1 n2 half) i ≡ sss_at n1 n2 half i
unfolding sss_list
sequence_at n1 n2 half i l = values_below_at (sss_at n1 n2 half) 62 i (pos 0) l

pub sequence_matches : (row : List ℤ) (n1 n2 : ℕ) (half : Half) → row_matches row (number_at (sss_list n1 n2 half)) ≡ row_matches row (sss_at n1 n2 half)
sequence_matches row n1 n2 half =
    matches_same (number_at row) (number_at row) (number_at (sss_list n1 n2 half)) (sss_at n1 n2 half) (λ i l. refl) (λ i l. sequence_at n1 n2 half i l)

pub sequence_sum : (row : List ℤ) (n1 n2 : ℕ) (half : Half) → signed_sum row (number_at (sss_list n1 n2 half)) ≡ signed_sum row (sss_at n1 n2 half)
unfolding signed_sum
sequence_sum row n1 n2 half =
    sum_below_same 62 (λ n. number_at (sss_list n1 n2 half) n *ℤ number_at row n) (λ n. sss_at n1 n2 half n *ℤ number_at row n)
    (λ i l. ap (λ s. s *ℤ number_at row i) (sequence_at n1 n2 half i l))

pub sequence-within : (n1 n2 : ℕ) (half : Half) → AllWithin 1 (sss_list n1 n2 half)
unfolding sss_list
sequence-within n1 n2 half =
    values_below-All (λ z. nat_abs z ≤ 1) 62 (sss_at n1 n2 half) (pos 0) (λ k l. let e = sss-size n1 n2 half k in omega (arith, e))

-- the votes for a list of products
pub votes_are : (recording : List Sample) (n2 at : ℕ) →
    votes_of (both_energies recording at) (values_below 62 (product recording n2 at)) ≡ values_below 62 (vote recording n2 at)
unfolding votes_of vote
votes_are recording n2 at =
    values_below_same 62 (λ n. vote_of (both_energies recording at) (number_at (values_below 62 (product recording n2 at)) n)) (vote recording n2 at)
    (λ n l. ap (vote_of (both_energies recording at)) (values_below_at (product recording n2 at) 62 n (pos 0) l))
