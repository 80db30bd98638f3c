-- The attempt that is closest to a MIB: one more phase, and only one is the closest.
use Rattle.std.proofs.Common.{◌≡◌, inl, inr, ℕ, zero, suc, ◌+◌, ◌*◌, ◌<◌, ◌≤◌, Bool, true, false, List, Option, Some, None, ℤ, nat_lt, arith, refl, ap, sym, subst, ◌∙◌}
use Rattle.std.proofs.lemmas.Bool.{ltb-true, ltb-false}
use Rattle.std.proofs.lemmas.Nat.{mul-lt}
use Rattle.std.specs.Prelude.{MatchOption}
use Rattle.cs_bits.specs.Numbers.{field}
use Rattle.cs_bits.proofs.Numbers.{field_below}
use Rattle.lte_types.specs.Codes.{bandwidth, duration, resource}
use Rattle.conv_code.specs.Cost.{word_cost}
use Rattle.tailbite.proofs.Only.{one_word}
use Rattle.pbch.specs.Master.{DecodesNothing, DecodesMaster}
use Rattle.pbch.specs.declared.master.Master.{Master}
use Rattle.pbch.proofs.Words.{one_master}
use Rattle.pss_search.proofs.Stronger.{above}
use Rattle.reasons.specs.declared.reason.Attempt.{Attempt}
use Rattle.reasons.specs.Attempt.{HasPorts, IsAttempt, IsCompared, IsClosestBefore}

-- ---- the values at a phase have one attempt

-- the master block of a word
abbrev master_of : (values : List (List ℤ)) (ports : ℕ) → HasPorts values ports → Master
master_of values ports h = record {
  ports = ports;
  mib = record {
    bandwidth = bandwidth (field h.word 0 3);
    duration = duration (field h.word 3 1);
    resource = resource (field h.word 4 2);
    upper = field h.word 6 8;
    spare = field h.word 14 10;
    spare_range = let small = field_below h.word 14 10 in omega (arith, small);
  };
  cost = word_cost values h.word;
}

carries : (values : List (List ℤ)) (ports : ℕ) (h : HasPorts values ports) → DecodesMaster values (master_of values ports h)
carries values ports h = record {
  word = h.word;
  decodes = h.carries;
  mib = record { bandwidth = refl; duration = refl; resource = refl; upper = refl; spare = refl };
  cost = refl;
}

one_ports : (values : List (List ℤ)) (a b : Option ℕ) → MatchOption a (DecodesNothing values) (HasPorts values) → MatchOption b (DecodesNothing values) (HasPorts values) → a ≡ b
one_ports values None None p q = refl
one_ports values None (Some b) p q = absurd (p q.word b q.carries)
one_ports values (Some a) None p q = absurd (q p.word a p.carries)
one_ports values (Some a) (Some b) p q =
    ap (λ n. Some n) (one_master values (master_of values a p) (master_of values b q) (carries values a p) (carries values b q)).ports

one_attempt : (values : List (List ℤ)) (phase : ℕ) (a b : Attempt) → IsAttempt values phase a → IsAttempt values phase b → a ≡ b
one_attempt values phase a b p q i = record {
  phase = (p.at_phase ∙ sym q.at_phase) i;
  cost = (p.cost ∙ ap (word_cost values) (one_word values p.word q.word p.least q.least) ∙ sym q.cost) i;
  total = (p.total ∙ sym q.total) i;
  ports = one_ports values a.ports b.ports p.ports q.ports i;
}

-- ---- ratios

positive_factors : (x y : ℕ) → 0 < x * y → (0 < x) × (0 < y)
positive_factors zero y p = absurd (omega (arith, p))
positive_factors (suc x) zero p = absurd (omega (arith, p))
positive_factors (suc x) (suc y) p = (omega arith, omega arith)

-- cost c and total t: the next ratio is below the best, and the best at most another with a total
below : (next_cost next_total best_cost best_total cost total : ℕ) → next_cost * best_total < best_cost * next_total → best_cost * total ≤ cost * best_total → 0 < total →
    next_cost * total < cost * next_total
below nc nt bc bt c t over least sounds =
    let (best_cost, next_total) = positive_factors bc nt (omega (arith, over)) in
    let product = positive_factors c bt (let p = mul-lt 0 0 bc t best_cost sounds in omega (arith, p, least)) in
    let e = above nt nc bt bc t c best_cost product.0 (omega (arith, over)) (omega (arith, least)) in
    omega (arith, e)

-- ---- one more phase

module _ (values : ℕ → List (List ℤ)) where
  abbrev Is : Attempt → Type 0
  Is attempt = IsAttempt (values attempt.phase) attempt.phase attempt

  same_at : (a b : Attempt) → Is a → Is b → a.phase ≡ b.phase → a ≡ b
  same_at a b p q same = one_attempt (values b.phase) b.phase a b (subst (λ n. IsAttempt (values n) n a) same p) q

  itself : (a b : Attempt) → a ≡ b → a.cost * b.total ≤ b.cost * a.total
  itself a b same = subst (λ (x : Attempt). a.cost * x.total ≤ x.cost * a.total) same (omega arith)

  pub first_is_closest : (a : Attempt) → IsAttempt (values 0) 0 a → IsClosestBefore values 1 a
  first_is_closest a is =
      let at = is.at_phase in
      let own = subst (λ n. IsAttempt (values n) n a) (sym at) is in
      record {
        before_end = omega (arith, at);
        is = own;
        compared = inl at;
        none_closer = λ other low other_is compared. itself a other (same_at a other own other_is (omega (arith, at, low)));
        first = λ other low other_is compared. absurd (omega (arith, at, low));
      }

  module _ (best next : Attempt) (before : IsClosestBefore values next.phase best) (is : Is next) where
    -- the next attempt is closer than another that is compared
    next_over : next.cost * best.total < best.cost * next.total → (other : Attempt) → other.phase < next.phase → Is other → IsCompared other → next.cost * other.total < other.cost * next.total
    next_over over other low other_is compared = by compared (nat_lt 0 other.total) refl (nat_lt other.phase best.phase) refl (nat_lt best.phase other.phase) refl
      where
        by : IsCompared other → (b : Bool) → nat_lt 0 other.total ≡ b → (c : Bool) → nat_lt other.phase best.phase ≡ c → (d : Bool) → nat_lt best.phase other.phase ≡ d → next.cost * other.total < other.cost * next.total
        by compared true sounds c e d f =
            below next.cost next.total best.cost best.total other.cost other.total over (before.none_closer other low other_is compared) (ltb-true 0 other.total sounds)
        by compared false silent true e d f =
            let none = ltb-false 0 other.total silent in
            let strict = before.first other (ltb-true other.phase best.phase e) other_is compared in
            let (cost, total) = positive_factors other.cost best.total (omega (arith, strict)) in
            let (best_cost, next_total) = positive_factors best.cost next.total (omega (arith, over)) in
            let product = mul-lt 0 0 other.cost next.total cost next_total in
            let zero_total : other.total ≡ 0 = omega (arith, none) in
            rw zero_total (omega (arith, product))
        by compared false silent false e true f = late compared
          where
            late : IsCompared other → next.cost * other.total < other.cost * next.total
            late (inl start) = absurd (omega (arith, start, ltb-true best.phase other.phase f))
            late (inr some) = absurd (omega (arith, some, ltb-false 0 other.total silent))
        by compared false silent false e false f =
            let low = ltb-false other.phase best.phase e in
            let high = ltb-false best.phase other.phase f in
            let same : best ≡ other = same_at best other before.is other_is (omega (arith, low, high)) in
            subst (λ (x : Attempt). next.cost * x.total < x.cost * next.total) same over

    pub next_is_closest : next.cost * best.total < best.cost * next.total → IsClosestBefore values (next.phase + 1) next
    next_is_closest over = record {
      before_end = omega arith;
      is = is;
      compared = inr (positive_factors best.cost next.total (omega (arith, over))).1;
      none_closer = λ other low other_is compared. by other low other_is compared (nat_lt other.phase next.phase) refl;
      first = next_over over;
    }
      where
        by : (other : Attempt) → other.phase < next.phase + 1 → Is other → IsCompared other → (b : Bool) → nat_lt other.phase next.phase ≡ b → next.cost * other.total ≤ other.cost * next.total
        by other low other_is compared true e = let strict = next_over over other (ltb-true other.phase next.phase e) other_is compared in omega (arith, strict)
        by other low other_is compared false e =
            itself next other (same_at next other is other_is (let high = ltb-false other.phase next.phase e in omega (arith, low, high)))

    pub best_is_closest : best.cost * next.total ≤ next.cost * best.total → IsClosestBefore values (next.phase + 1) best
    best_is_closest least = record {
      before_end = let low = before.before_end in omega (arith, low);
      is = before.is;
      compared = before.compared;
      none_closer = λ other low other_is compared. by other low other_is compared (nat_lt other.phase next.phase) refl;
      first = before.first;
    }
      where
        by : (other : Attempt) → other.phase < next.phase + 1 → Is other → IsCompared other → (b : Bool) → nat_lt other.phase next.phase ≡ b → best.cost * other.total ≤ other.cost * best.total
        by other low other_is compared true e = before.none_closer other (ltb-true other.phase next.phase e) other_is compared
        by other low other_is compared false e =
            let same : next ≡ other = same_at next other is other_is (let high = ltb-false other.phase next.phase e in omega (arith, low, high)) in
            subst (λ (x : Attempt). best.cost * x.total ≤ x.cost * best.total) same least

  -- the step from the first n phases to phase n
  pub closest_more : (n : ℕ) (best next result : Attempt) →
      (IsClosestBefore values next.phase best → Is next → IsClosestBefore values (next.phase + 1) result) →
      IsClosestBefore values n best → IsAttempt (values n) n next → IsClosestBefore values (n + 1) result
  closest_more n best next result step before is =
      let at = is.at_phase in
      subst (λ m. IsClosestBefore values (m + 1) result) at
      (step (subst (λ m. IsClosestBefore values m best) (sym at) before) (subst (λ m. IsAttempt (values m) m next) (sym at) is))

  -- ---- only one is the closest

  not_later : (end : ℕ) (a b : Attempt) → IsClosestBefore values end a → IsClosestBefore values end b → a.phase < b.phase → ⊥
  not_later end a b p q low =
      let strict = q.first a low p.is p.compared in
      let least = p.none_closer b q.before_end q.is q.compared in
      omega (arith, strict, least)

  pub one_closest : (end : ℕ) (a b : Attempt) → IsClosestBefore values end a → IsClosestBefore values end b → a ≡ b
  one_closest end a b p q = settle (nat_lt a.phase b.phase) refl (nat_lt b.phase a.phase) refl
    where
      settle : (c : Bool) → nat_lt a.phase b.phase ≡ c → (d : Bool) → nat_lt b.phase a.phase ≡ d → a ≡ b
      settle true is d other = absurd (not_later end a b p q (ltb-true a.phase b.phase is))
      settle false is true other = absurd (not_later end b a q p (ltb-true b.phase a.phase other))
      settle false is false other =
          let low = ltb-false a.phase b.phase is in
          let high = ltb-false b.phase a.phase other in
          same_at a b p.is q.is (omega (arith, low, high))
