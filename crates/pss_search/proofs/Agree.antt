-- Recordings that agree in their first samples have the same hits and the same strongest position.
use Rattle.std.proofs.Common.{◌≡◌, ℕ, zero, suc, ◌+◌, ◌-◌, ◌<◌, ◌≤◌, Bool, List, arith, refl, ap, subst}
use Rattle.finite.specs.Tests.{any_below}
use Rattle.finite.proofs.Sums.{total_below_same}
use Rattle.finite.proofs.Lists.{joined_below_same}
use Rattle.cs_num.specs.declared.Sample.{Sample}
use Rattle.cs_num.specs.Complex.{times, conjugate, square}
use Rattle.cs_num.proofs.Sums.{complex_sum_below_same}
use Rattle.sample_file.specs.Recording.{AgreeBefore}
use Rattle.sample_file.proofs.Agree.{sample_agrees}
use Rattle.pss_search.specs.Correlation.{wave, peak, peak_term, energy, energy_term}
use Rattle.pss_search.specs.Tests.{rules_out, is_ruled_out, is_hit}
use Rattle.pss_search.specs.Hits.{hit_at, hits_at, hits_before, hits_of}
use Rattle.pss_search.specs.Metrics.{metric_at}
use Rattle.pss_search.specs.Strongest.{IsStronger, IsAsStrong, IsStrongest}

peak_agrees : (count t n2 : ℕ) (a b : List Sample) → AgreeBefore count a b → t + 128 ≤ count → peak a n2 t ≡ peak b n2 t
unfolding peak
peak_agrees count t n2 a b agree within = ap square
    (complex_sum_below_same 128 (peak_term (wave n2) a t) (peak_term (wave n2) b t)
    (λ n l. ap (λ s. times s (conjugate (wave n2 n))) (sample_agrees count (t + n) a b agree (omega (arith, within, l)))))

energy_agrees : (count t : ℕ) (a b : List Sample) → AgreeBefore count a b → t + 128 ≤ count → energy a t ≡ energy b t
unfolding energy
energy_agrees count t a b agree within =
    total_below_same 128 (energy_term a t) (energy_term b t) (λ n l. ap square (sample_agrees count (t + n) a b agree (omega (arith, within, l))))

any_below_same : (n : ℕ) (p q : ℕ → Bool) → ((k : ℕ) → k < n → p k ≡ q k) → any_below n p ≡ any_below n q
unfolding any_below
any_below_same zero p q h = refl
any_below_same (suc n) p q h =
    let before = any_below_same n p q (λ k l. h k (omega arith)) in
    let here = h n (omega arith) in
    cc

rules_out_agrees : (count n2 t u : ℕ) (a b : List Sample) → AgreeBefore count a b → t + 128 ≤ count → u + 128 ≤ count →
    rules_out a n2 t u ≡ rules_out b n2 t u
unfolding rules_out
rules_out_agrees count n2 t u a b agree here there =
    rw (peak_agrees count t n2 a b agree here, peak_agrees count u n2 a b agree there, energy_agrees count t a b agree here, energy_agrees count u a b agree there) refl

ruled_out_agrees : (count n2 t : ℕ) (a b : List Sample) → AgreeBefore count a b → t + 137 ≤ count → 9 ≤ t → is_ruled_out a n2 t ≡ is_ruled_out b n2 t
unfolding is_ruled_out
ruled_out_agrees count n2 t a b agree within first =
    any_below_same 19 (λ d. rules_out a n2 t (t - 9 + d)) (λ d. rules_out b n2 t (t - 9 + d))
    (λ d l. rules_out_agrees count n2 t (t - 9 + d) a b agree (omega (arith, within)) (omega (arith, within, first, l)))

hit_agrees : (count n2 t : ℕ) (a b : List Sample) → AgreeBefore count a b → t + 137 ≤ count → 9 ≤ t → hit_at a t n2 ≡ hit_at b t n2
unfolding hit_at is_hit
hit_agrees count n2 t a b agree within first =
    rw (peak_agrees count t n2 a b agree (omega (arith, within)), energy_agrees count t a b agree (omega (arith, within)), ruled_out_agrees count n2 t a b agree within first) refl

pub metric_agrees : (count t n2 : ℕ) (a b : List Sample) → AgreeBefore count a b → t + 128 ≤ count → metric_at a t n2 ≡ metric_at b t n2
metric_agrees count t n2 a b agree within i = record { peak = peak_agrees count t n2 a b agree within i; energy = energy_agrees count t a b agree within i }

-- the last position that matters is 19,345, nine after the span
pub hits_agree : (count : ℕ) (a b : List Sample) → AgreeBefore count a b → 19473 ≤ count → hits_of a ≡ hits_of b
unfolding hits_before hits_at
hits_agree count a b agree within =
    joined_below_same 19200 (λ i. hits_at a (137 + i)) (λ i. hits_at b (137 + i))
    (λ i l. joined_below_same 3 (hit_at a (137 + i)) (hit_at b (137 + i)) (λ n2 _. hit_agrees count n2 (137 + i) a b agree (omega (arith, within, l)) (omega arith)))

pub strongest_agrees : (count n2 t : ℕ) (a b : List Sample) → AgreeBefore count a b → 19473 ≤ count → IsStrongest a n2 t → IsStrongest b n2 t
strongest_agrees count n2 t a b agree within is =
    let last = is.before_end in
    let here = metric_agrees count t n2 a b agree (omega (arith, within, last)) in
    record {
      from_first = is.from_first;
      before_end = is.before_end;
      greatest = λ u low high.
          subst (λ m. IsAsStrong (metric_at b t n2) m) (metric_agrees count u n2 a b agree (omega (arith, within, high)))
          (subst (λ m. IsAsStrong m (metric_at a u n2)) here (is.greatest u low high));
      first = λ u low high.
          subst (λ m. IsStronger (metric_at b t n2) m) (metric_agrees count u n2 a b agree (omega (arith, within, last, high)))
          (subst (λ m. IsStronger m (metric_at a u n2)) here (is.first u low high));
    }
