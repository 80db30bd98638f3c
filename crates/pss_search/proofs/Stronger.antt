-- Metrics compared, and the strongest position: one more position, and only one is the strongest.
use Rattle.std.proofs.Common.{◌≡◌, ℕ, ◌+◌, ◌*◌, ◌<◌, ◌≤◌, arith, refl, sym, subst, Bool, true, false, List, nat_lt}
use Rattle.std.proofs.lemmas.Bool.{ltb-true, ltb-false}
use Rattle.std.proofs.lemmas.Nat.{mul-le}
use Rattle.cs_num.specs.declared.Sample.{Sample}
use Rattle.pss_search.specs.declared.measure.Metric.{Metric}
use Rattle.pss_search.specs.declared.strongest.Measured.{Measured}
use Rattle.pss_search.specs.Metrics.{metric_at}
use Rattle.pss_search.specs.Steps.{IsMetricOf, IsStrongestSoFar}
use Rattle.pss_search.specs.Strongest.{IsStronger, IsAsStrong, IsStrongestBefore}

-- ---- metrics

-- p / e of the first is above that of the second, and that of the second at least that of the third
pub above : (p e q f r g : ℕ) → 0 < f → 0 < g → q * e < p * f → r * f ≤ q * g → r * e < p * g
above p e q f r g second third over least = settle (nat_lt (r * e) (p * g)) refl
  where
    settle : (b : Bool) → nat_lt (r * e) (p * g) ≡ b → r * e < p * g
    settle true is = ltb-true (r * e) (p * g) is
    settle false is =
        let wrong = mul-le (p * g) f (r * e) f (ltb-false (r * e) (p * g) is) (omega arith) in
        let below = mul-le (r * f) e (q * g) e least (omega arith) in
        let strict = mul-le (q * e + 1) g (p * f) g (omega (arith, over)) (omega arith) in
        absurd (omega (arith, wrong, below, strict, third))

stronger_than : (first second third : Metric) → IsStronger first second → IsAsStrong second third → IsStronger first third
stronger_than first second third stronger as_strong = (stronger.0, over)
  where
    over : 0 < third.energy → third.peak * first.energy < first.peak * third.energy
    over sounds =
        let (own, least) = as_strong sounds in
        above first.peak first.energy second.peak second.energy third.peak third.energy own sounds (stronger.1 own) least

weaken : (first second : Metric) → IsStronger first second → IsAsStrong first second
weaken first second stronger sounds = let over = stronger.1 sounds in (stronger.0, omega (arith, over))

as_itself : (metric : Metric) → IsAsStrong metric metric
as_itself metric sounds = (sounds, omega arith)

-- ---- one more position

module _ (recording : List Sample) (n2 : ℕ) where
  abbrev at : ℕ → Metric
  at t = metric_at recording t n2

  metric_is : (t : ℕ) (metric : Metric) → IsMetricOf recording n2 t metric → metric ≡ at t
  metric_is t metric is i = record { peak = is.peak i; energy = is.energy i }

  -- what holds before a position and at the position holds up to the position
  up_to : (P : ℕ → Type 0) (end : ℕ) → ((u : ℕ) → 128 ≤ u → u < end → P u) → P end → (u : ℕ) → 128 ≤ u → u < end + 1 → P u
  up_to P end before here u first last = settle (nat_lt u end) refl
    where
      settle : (b : Bool) → nat_lt u end ≡ b → P u
      settle true is = before u first (ltb-true u end is)
      settle false is =
          let least = ltb-false u end is in
          let same : end ≡ u = omega (arith, least, last) in
          subst P same here

  pub next_is_strongest : (best next : Measured) → IsStrongestSoFar recording n2 next.t best → IsMetricOf recording n2 next.t next.metric →
      IsStronger next.metric best.metric → IsStrongestSoFar recording n2 (next.t + 1) next
  next_is_strongest best next so_far measured stronger =
      let old = so_far.strongest in
      let over = subst (λ (m : Metric). IsStronger m (at best.t)) (metric_is next.t next.metric measured)
      (subst (λ (m : Metric). IsStronger next.metric m) (metric_is best.t best.metric so_far.metric) stronger) in
      let all : (u : ℕ) → 128 ≤ u → u < next.t → IsStronger (at next.t) (at u) =
      λ u first last. stronger_than (at next.t) (at best.t) (at u) over (old.greatest u first last) in
      record {
        strongest = record {
          from_first = let first = old.from_first in let last = old.before_end in omega (arith, first, last);
          before_end = omega arith;
          greatest = up_to (λ u. IsAsStrong (at next.t) (at u)) next.t (λ u first last. weaken (at next.t) (at u) (all u first last)) (as_itself (at next.t));
          first = all;
        };
        metric = measured;
      }

  pub best_remains : (best next : Measured) → IsStrongestSoFar recording n2 next.t best → IsMetricOf recording n2 next.t next.metric →
      IsAsStrong best.metric next.metric → IsStrongestSoFar recording n2 (next.t + 1) best
  best_remains best next so_far measured as_strong =
      let old = so_far.strongest in
      let here = subst (λ (m : Metric). IsAsStrong (at best.t) m) (metric_is next.t next.metric measured)
      (subst (λ (m : Metric). IsAsStrong m next.metric) (metric_is best.t best.metric so_far.metric) as_strong) in
      record {
        strongest = record {
          from_first = old.from_first;
          before_end = let last = old.before_end in omega (arith, last);
          greatest = up_to (λ u. IsAsStrong (at best.t) (at u)) next.t old.greatest here;
          first = old.first;
        };
        metric = so_far.metric;
      }

  -- the first position measured
  pub first_is_strongest : (best : Measured) → best.t ≡ 128 → IsMetricOf recording n2 128 best.metric → IsStrongestSoFar recording n2 129 best
  first_is_strongest best is measured =
      let own = subst (λ t. IsMetricOf recording n2 t best.metric) (sym is) measured in
      record {
        strongest = record {
          from_first = omega (arith, is);
          before_end = omega (arith, is);
          greatest = λ u first last.
              let same : best.t ≡ u = omega (arith, is, first, last) in
              subst (λ t. IsAsStrong (at best.t) (at t)) same (as_itself (at best.t));
          first = λ u first last. absurd (omega (arith, is, first, last));
        };
        metric = own;
      }

  -- ---- only one is the strongest

  not_later : (end s t : ℕ) → IsStrongestBefore recording n2 end s → IsStrongestBefore recording n2 end t → s < t → ⊥
  not_later end s t first later before =
      let over = later.first s first.from_first before in
      let (sounds, least) = first.greatest t later.from_first later.before_end over.0 in
      let strict = over.1 sounds in
      omega (arith, least, strict)

  pub one_strongest : (end s t : ℕ) → IsStrongestBefore recording n2 end s → IsStrongestBefore recording n2 end t → s ≡ t
  one_strongest end s t p q = settle (nat_lt s t) refl (nat_lt t s) refl
    where
      settle : (b : Bool) → nat_lt s t ≡ b → (c : Bool) → nat_lt t s ≡ c → s ≡ t
      settle true is c other = absurd (not_later end s t p q (ltb-true s t is))
      settle false is true other = absurd (not_later end t s q p (ltb-true t s other))
      settle false is false other = let low = ltb-false s t is in let high = ltb-false t s other in omega (arith, low, high)
