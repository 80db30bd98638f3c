-- Recordings that agree up to the end of the last primary symbol have equal detections.
use Rattle.std.proofs.Common.{◌≡◌, ℕ, ◌+◌, ◌-◌, ◌*◌, ◌/◌, ◌<◌, ◌≤◌, List, ℤ, pos, ◌*ℤ◌, Option, arith, ap, ap₂}
use Rattle.std.specs.Int.{int_signum}
use Rattle.finite.specs.Sums.{sum_below}
use Rattle.finite.proofs.Sums.{sum_below_same}
use Rattle.cs_num.specs.declared.Cpx.{Cpx}
use Rattle.cs_num.specs.declared.Sample.{Sample}
use Rattle.cs_num.specs.Complex.{times, conjugate}
use Rattle.cs_num.proofs.Sums.{complex_sum_below_same}
use Rattle.lte_types.specs.declared.frame.Half.{Half}
use Rattle.sample_file.specs.Recording.{AgreeBefore}
use Rattle.sample_file.proofs.Agree.{sample_agrees}
use Rattle.sync_seq.specs.Middle.{middle}
use Rattle.pss_search.specs.Correlation.{wave, peak_term, energy}
use Rattle.pss_search.specs.Products.{correlation_at}
use Rattle.pss_search.proofs.Agree.{metric_agrees}
use Rattle.observe.proofs.Agree.{seen_agrees}
use Rattle.accumulated_sss.specs.declared.detecting.Detection.{Detection}
use Rattle.accumulated_sss.specs.Votes.{product, vote, vote_of}
use Rattle.accumulated_sss.specs.Signs.{half_count, primary_at, last_end, every_other, in_turn, sums, signs, cell_signs, cell_matches}
use Rattle.accumulated_sss.specs.Detection.{signal_sum, power_of, if_enough, detection_at}
use Rattle.sss_detect.specs.Identity.{best_pair}
use Rattle.accumulated_sss.specs.Laws.{FirstSamplesDecide}

module _ (count : ℕ) (a b : List Sample) (agree : AgreeBefore count a b) where
  correlation_agrees : (n2 at : ℕ) → at + 128 ≤ count → correlation_at a at n2 ≡ correlation_at b at n2
  correlation_agrees n2 at within =
      complex_sum_below_same 128 (peak_term (wave n2) a at) (peak_term (wave n2) b at)
      (λ n l. ap (λ s. times s (conjugate (wave n2 n))) (sample_agrees count (at + n) a b agree (omega (arith, within, l))))

  energy_agrees : (at : ℕ) → at + 128 ≤ count → energy a at ≡ energy b at
  energy_agrees at within i = (metric_agrees count at 0 a b agree within i).energy

  product_agrees : (n2 at n : ℕ) → at + 128 ≤ count → product a n2 at n ≡ product b n2 at n
  unfolding product
  product_agrees n2 at n within =
      ap₂ (λ (x y : Cpx). (times x (conjugate y)).re)
      (seen_agrees count (at - 137) a b agree (omega (arith, within)) (middle n)) (correlation_agrees n2 at within)

  vote_agrees : (n2 at n : ℕ) → at + 128 ≤ count → vote a n2 at n ≡ vote b n2 at n
  unfolding vote
  vote_agrees n2 at n within =
      ap₂ vote_of (ap₂ ◌+◌ (energy_agrees at within) (energy_agrees (at - 137) (omega (arith, within)))) (product_agrees n2 at n within)

within_halves : (halves parity j : ℕ) → parity ≤ 1 → j < (halves + 1 - parity) / 2 → 2 * j + parity < halves
within_halves halves parity j p l = omega (arith, p, l)

every_other_agrees : (halves t parity : ℕ) (f g : ℕ → ℤ) → parity ≤ 1 →
    ((at : ℕ) → at + 128 ≤ last_end halves t → f at ≡ g at) → every_other halves t parity f ≡ every_other halves t parity g
unfolding every_other
every_other_agrees halves t parity f g p e =
    sum_below_same (half_count halves parity) (λ j. f (primary_at t (2 * j + parity))) (λ j. g (primary_at t (2 * j + parity)))
    (λ j l. e _ (let k = within_halves halves parity j p l in omega (arith, k)))

sums_agree : (halves t : ℕ) (f g : ℕ → ℕ → ℤ) → ((at n : ℕ) → at + 128 ≤ last_end halves t → f at n ≡ g at n) →
    (i : ℕ) → sums halves t f i ≡ sums halves t g i
sums_agree halves t f g e i = λ k. in_turn (λ n. even n k) (λ n. odd n k) i
  where
    even : (n : ℕ) → every_other halves t 0 (λ at. f at n) ≡ every_other halves t 0 (λ at. g at n)
    even n = every_other_agrees halves t 0 (λ at. f at n) (λ at. g at n) (omega arith) (λ at within. e at n within)

    odd : (n : ℕ) → every_other halves t 1 (λ at. f at n) ≡ every_other halves t 1 (λ at. g at n)
    odd n = every_other_agrees halves t 1 (λ at. f at n) (λ at. g at n) (omega arith) (λ at within. e at n within)

pub first_samples_decide : FirstSamplesDecide
unfolding detection_at signal_sum
first_samples_decide a b halves t n2 agree = λ k. of (signs_equal k) (λ n1 half. sum_equal n1 half k)
  where
    signs_equal : signs a halves t n2 ≡ signs b halves t n2
    signs_equal k i = int_signum (sums_agree halves t (vote a n2) (vote b n2) (λ at n within. vote_agrees (last_end halves t) a b agree n2 at n within) i k)

    sum_equal : (n1 : ℕ) (half : Half) → signal_sum a halves t n2 n1 half ≡ signal_sum b halves t n2 n1 half
    sum_equal n1 half = λ k. sum_below 124 (λ i. cell_signs n2 n1 half i *ℤ
        sums_agree halves t (product a n2) (product b n2) (λ at n within. product_agrees (last_end halves t) a b agree n2 at n within) i k)

    of : (ℕ → ℤ) → (ℕ → Half → ℤ) → Option Detection
    of pattern sum =
        let pair : ℕ × Half = best_pair (λ n1 half. pos (cell_matches pattern n2 n1 half)) in
        if_enough (record { n1 = pair.0; half = pair.1; matches = cell_matches pattern n2 pair.0 pair.1; power = power_of halves n2 (sum pair.0 pair.1) })
