-- Sets of states determine which bits are found.
use Rattle.std.proofs.Common.{◌≡◌, ℕ, zero, suc, ◌+◌, ◌*◌, ◌/◌, ◌<◌, ◌≤◌, Bool, true, false, inl, inr, List, ◌∷◌, ◌++◌, length, refl, ap, ap₂, sym, subst, ◌∙◌, arith, length-append}
use Rattle.std.specs.Prelude.{◌&&◌, ◌||◌, not, cond, min, nat_eq}
use Rattle.std.proofs.lemmas.Bool.{cases_Bool, true≢false, eq-eqb, ne_eqb}
use Rattle.std.proofs.lemmas.Bool.Decides.{eqb_tells}
use Rattle.finite.specs.Sums.{total_below}
use Rattle.finite.specs.Tests.{any_below}
use Rattle.finite.proofs.Sums.{positive, positive-sum, positive_from, total_below_changed, total_below-positive}
use Rattle.finite.proofs.Tests.{any_below_none, any_below_some}
use Rattle.trellis.proofs.AllWords.{every_word_at, every_word_all}
use Rattle.trellis.proofs.Words.{bit_between, with_bit}
use Rattle.trellis.specs.Paths.{end_of, path_cost, best}
use Rattle.trellis.proofs.Best.{best-le, best_reached}
use Rattle.trellis.proofs.Paths.{end_of-append, path_cost-split, end_below}
use Rattle.trellis.proofs.Forward.{least_to_none, least_to_more}
use Rattle.turbo_code.specs.Encoder.{bit_at, back, before, parity, tail_x, tail_z}
use Rattle.turbo_code.specs.Machine.{next, parity_bit, tail_bit, tail_parity, first_from, second_from, bit_to}
use Rattle.turbo_code.proofs.Registers.{state, state_at, parity_at, tail_bit_is, tail_parity_is, half_is, path_is}
use Rattle.turbo_code.proofs.Edges.{edges, next_below}
use Rattle.erasure.specs.Known.{step_shows, shows, found}
use Rattle.erasure.specs.Sets.{hides, leads_to, leads_from, tail_step_hides, tail_hides, leads_through, step_ones, starts, none, IsSet, sent_by, found_by}

-- ---- numbers that are 0

none_sum : (a b : ℕ) → none (a + b) ≡ (none a && none b)
none_sum zero b = ap none (omega arith)
none_sum (suc a) b = let e : suc a + b ≡ suc (a + b) = omega arith in ap none e

none_min : (a b : ℕ) → none (min a b) ≡ (none a || none b)
none_min zero b = let e : min zero b ≡ 0 = omega arith in ap none e
none_min (suc a) zero = let e : min (suc a) zero ≡ 0 = omega arith in ap none e
none_min (suc a) (suc b) = let e : min (suc a) (suc b) ≡ suc (min a b) = omega arith in ap none e

none_one : (c : Bool) → none (cond c 1 0) ≡ not c
none_one true = refl
none_one false = refl

pub none_at : (n : ℕ) → none n ≡ true → n ≡ 0
none_at zero e = refl
none_at (suc n) e = absurd (true≢false (sym e))

none_not : (n : ℕ) → none n ≡ false → 1 ≤ n
none_not zero e = absurd (true≢false e)
none_not (suc n) e = omega arith

step_none : (own parity : List Bool) (k x : ℕ) (u : Bool) → none (step_ones own parity k x u) ≡ hides (bit_at own k) (bit_at parity k) x u
step_none own parity k x u =
    none_sum (cond (u && bit_at own k) 1 0) (cond (parity_bit x u && bit_at parity k) 1 0)
    ∙ ap₂ ◌&&◌ (none_one (u && bit_at own k)) (none_one (parity_bit x u && bit_at parity k))

-- ---- the tail

tail_step_ones : List Bool → ℕ → ℕ → ℕ
tail_step_ones tail j x = cond (tail_bit x && bit_at tail (2 * j)) 1 0 + cond (tail_parity x && bit_at tail (2 * j + 1)) 1 0

pub tail_ones : List Bool → ℕ → ℕ
tail_ones tail x = tail_step_ones tail 0 x + tail_step_ones tail 1 (x / 2) + tail_step_ones tail 2 (x / 2 / 2)

tail_step_none : (tail : List Bool) (j x : ℕ) → none (tail_step_ones tail j x) ≡ tail_step_hides tail j x
unfolding tail_step_ones
tail_step_none tail j x =
    none_sum (cond (tail_bit x && bit_at tail (2 * j)) 1 0) (cond (tail_parity x && bit_at tail (2 * j + 1)) 1 0)
    ∙ ap₂ ◌&&◌ (none_one (tail_bit x && bit_at tail (2 * j))) (none_one (tail_parity x && bit_at tail (2 * j + 1)))

tail_none : (tail : List Bool) (x : ℕ) → none (tail_ones tail x) ≡ tail_hides tail x
unfolding tail_ones
tail_none tail x =
    none_sum (tail_step_ones tail 0 x + tail_step_ones tail 1 (x / 2)) (tail_step_ones tail 2 (x / 2 / 2))
    ∙ ap₂ ◌&&◌ (none_sum (tail_step_ones tail 0 x) (tail_step_ones tail 1 (x / 2)) ∙ ap₂ ◌&&◌ (tail_step_none tail 0 x) (tail_step_none tail 1 (x / 2))) (tail_step_none tail 2 (x / 2 / 2))

-- ---- sets

pub set_first : (own parity set : List Bool) → ((x : ℕ) → x < 8 → bit_at set x ≡ nat_eq x 0) → IsSet own parity 0 set
set_first own parity set h = record {
  ones = starts;
  least = λ x below. least_to_none next (step_ones own parity) starts 8 x below;
  member = λ x below. h x below ∙ sym (start_none (nat_eq x 0));
}
  where
    start_none : (b : Bool) → none (cond b 0 1) ≡ b
    start_none true = refl
    start_none false = refl

pub set_later : (own parity set later : List Bool) (k : ℕ) → IsSet own parity k set →
    ((x : ℕ) → x < 8 → bit_at later x ≡ leads_to (bit_at own k) (bit_at parity k) set x) → IsSet own parity (suc k) later
set_later own parity set later k known h = record {
  ones = λ x. min (known.ones (first_from x) + step_ones own parity k (first_from x) (bit_to (first_from x) x))
      (known.ones (second_from x) + step_ones own parity k (second_from x) (bit_to (second_from x) x));
  least = λ x below.
      least_to_more next (step_ones own parity) starts 8 k x (first_from x) (bit_to (first_from x) x) (second_from x) (bit_to (second_from x) x)
      (known.ones (first_from x)) (known.ones (second_from x)) next_below (edges x below)
      (known.least (first_from x) (omega arith)) (known.least (second_from x) (omega arith));
  member = λ x below.
      h x below ∙ sym (none_min (known.ones (first_from x) + step_ones own parity k (first_from x) (bit_to (first_from x) x))
      (known.ones (second_from x) + step_ones own parity k (second_from x) (bit_to (second_from x) x))
      ∙ ap₂ ◌||◌ (by (first_from x) (bit_to (first_from x) x) (omega arith)) (by (second_from x) (bit_to (second_from x) x) (omega arith)));
}
  where
    by : (p : ℕ) (u : Bool) → p < 8 → none (known.ones p + step_ones own parity k p u) ≡ (bit_at set p && hides (bit_at own k) (bit_at parity k) p u)
    by p u below = none_sum (known.ones p) (step_ones own parity k p u) ∙ ap₂ ◌&&◌ (sym (known.member p below)) (step_none own parity k p u)

-- the set has the states from which n steps from index k, and then the tail, have no known 1
pub record IsBack (own parity tail : List Bool) (k n : ℕ) (set : List Bool) : Type 0 where
  pub member : (x : ℕ) → x < 8 → bit_at set x ≡ none (best next (step_ones own parity) (tail_ones tail) k n x)

pub back_first : (own parity tail set : List Bool) (k : ℕ) → ((x : ℕ) → x < 8 → bit_at set x ≡ tail_hides tail x) → IsBack own parity tail k 0 set
back_first own parity tail set k h = record { member = λ x below. h x below ∙ sym (tail_none tail x) }

pub back_earlier : (own parity tail set earlier : List Bool) (k n : ℕ) → IsBack own parity tail (suc k) n set →
    ((x : ℕ) → x < 8 → bit_at earlier x ≡ leads_from (bit_at own k) (bit_at parity k) set x) → IsBack own parity tail k (suc n) earlier
back_earlier own parity tail set earlier k n known h = record {
  member = λ x below.
      h x below ∙ sym (none_min (step_ones own parity k x false + best next (step_ones own parity) (tail_ones tail) (suc k) n (next x false))
      (step_ones own parity k x true + best next (step_ones own parity) (tail_ones tail) (suc k) n (next x true))
      ∙ ap₂ ◌||◌ (by x false below) (by x true below));
}
  where
    by : (x : ℕ) (u : Bool) → x < 8 → none (step_ones own parity k x u + best next (step_ones own parity) (tail_ones tail) (suc k) n (next x u)) ≡
        (hides (bit_at own k) (bit_at parity k) x u && bit_at set (next x u))
    by x u below =
        none_sum (step_ones own parity k x u) (best next (step_ones own parity) (tail_ones tail) (suc k) n (next x u))
        ∙ ap₂ ◌&&◌ (step_none own parity k x u) (sym (known.member (next x u) (next_below x u below)))

-- ---- words

-- the number of known ones in a word, with bit k and without
all_ones : List Bool → List Bool → List Bool → List Bool → ℕ
all_ones own parity tail d = path_cost next (step_ones own parity) 0 0 d + tail_ones tail (end_of next 0 d)

other_step : List Bool → List Bool → ℕ → ℕ → ℕ → Bool → ℕ
other_step own parity k j x u = cond ((not (nat_eq j k) && u) && bit_at own j) 1 0 + cond (parity_bit x u && bit_at parity j) 1 0

other_ones : List Bool → List Bool → List Bool → ℕ → List Bool → ℕ
other_ones own parity tail k d = total_below (length d) (λ j. other_step own parity k j (state_at d j) (bit_at d j)) + tail_ones tail (state_at d (length d))

one_positive : (c : Bool) → positive (cond c 1 0) ≡ c
one_positive true = refl
one_positive false = refl

pair_positive : (a b : Bool) → positive (cond a 1 0 + cond b 1 0) ≡ (a || b)
pair_positive a b = positive-sum (cond a 1 0) (cond b 1 0) ∙ ap₂ ◌||◌ (one_positive a) (one_positive b)

tail_step_positive : (tail d : List Bool) (j x : ℕ) → tail_bit x ≡ tail_x d j → tail_parity x ≡ tail_z d j →
    positive (tail_step_ones tail j x) ≡ ((tail_x d j && bit_at tail (2 * j)) || (tail_z d j && bit_at tail (2 * j + 1)))
unfolding tail_step_ones
tail_step_positive tail d j x bit check =
    pair_positive (tail_bit x && bit_at tail (2 * j)) (tail_parity x && bit_at tail (2 * j + 1))
    ∙ ap₂ (λ b z. (b && bit_at tail (2 * j)) || (z && bit_at tail (2 * j + 1))) bit check

tail_positive : (tail d : List Bool) → positive (tail_ones tail (state_at d (length d))) ≡
    any_below 3 (λ j. (tail_x d j && bit_at tail (2 * j)) || (tail_z d j && bit_at tail (2 * j + 1)))
unfolding tail_ones any_below tail_x tail_z
tail_positive tail d =
    let past = before d (length d) in
    let a = back past 1 in
    let b = back past 2 in
    let c = back past 3 in
    let half = half_is a b c in
    let quarter = ap (λ n. n / 2) half ∙ half_is false a b in
    ap₂ (λ y z. positive (tail_step_ones tail 0 (state a b c) + tail_step_ones tail 1 y + tail_step_ones tail 2 z)) half quarter
    ∙ positive-sum (tail_step_ones tail 0 (state a b c) + tail_step_ones tail 1 (state false a b)) (tail_step_ones tail 2 (state false false a))
    ∙ ap₂ ◌||◌
    (positive-sum (tail_step_ones tail 0 (state a b c)) (tail_step_ones tail 1 (state false a b))
    ∙ ap₂ ◌||◌ (tail_step_positive tail d 0 (state a b c) (tail_bit_is a b c) (tail_parity_is a b c))
    (tail_step_positive tail d 1 (state false a b) (tail_bit_is false a b) (tail_parity_is false a b)))
    (tail_step_positive tail d 2 (state false false a) (tail_bit_is false false a) (tail_parity_is false false a))

module _ (own parity tail : List Bool) where
  -- a word shows a known 1 exactly if it has one other than bit k
  others_show : (k : ℕ) (d : List Bool) → length d ≡ length own →
      positive (other_ones own parity tail k d) ≡ shows (length own) (sent_by own parity tail) (λ _. false) k d
  unfolding other_ones other_step
  others_show k d size =
      positive-sum (total_below (length d) (λ j. other_step own parity k j (state_at d j) (bit_at d j))) (tail_ones tail (state_at d (length d)))
      ∙ ap₂ ◌||◌
      (total_below-positive (length d) (λ j. other_step own parity k j (state_at d j) (bit_at d j)) (step_shows (sent_by own parity tail) (λ _. false) k d)
      (λ j l.
      pair_positive ((not (nat_eq j k) && bit_at d j) && bit_at own j) (parity_bit (state_at d j) (bit_at d j) && bit_at parity j)
      ∙ ap₂ (λ o z. ((not (nat_eq j k) && bit_at d j) && o) || (z && bit_at parity j)) (or_false (bit_at own j)) (parity_at d j))
      ∙ ap (λ n. any_below n (step_shows (sent_by own parity tail) (λ _. false) k d)) size)
      (tail_positive tail d)
    where
      or_false : (b : Bool) → b ≡ (b || false)
      or_false true = refl
      or_false false = refl

  -- all known ones, and those without bit k
  all_is : (k : ℕ) (d : List Bool) → k < length d → bit_at d k ≡ true → all_ones own parity tail d ≡ other_ones own parity tail k d + cond (bit_at own k) 1 0
  unfolding all_ones other_ones other_step
  all_is k d inside bit =
      let path = path_is (step_ones own parity) d in
      let same : nat_eq k k ≡ true = eq-eqb k k refl in
      let indices = total_below_changed (length d) k (cond (bit_at own k) 1 0) (λ j. step_ones own parity j (state_at d j) (bit_at d j)) (λ j. other_step own parity k j (state_at d j) (bit_at d j)) inside
      (rw (bit, same) (omega arith))
      (λ j other. let differs : nat_eq j k ≡ false = ne_eqb j k other in rw differs refl) in
      rw (path.cost, path.there) (omega (arith, indices))

  -- the cost of a word through a state at index k, and whether the sets lead through that state
  by_way : (before after : List Bool) (k n x : ℕ) → IsSet own parity k before → IsBack own parity tail (suc k) n after → x < 8 → ℕ
  by_way before after k n x set back below =
      set.ones x + (cond (parity_bit x true && bit_at parity k) 1 0 + best next (step_ones own parity) (tail_ones tail) (suc k) n (next x true))

  by_way_none : (before after : List Bool) (k n x : ℕ) (set : IsSet own parity k before) (back : IsBack own parity tail (suc k) n after) (below : x < 8) →
      none (by_way before after k n x set back below) ≡ leads_through (bit_at parity k) before after x
  unfolding by_way
  by_way_none before after k n x set back below =
      none_sum (set.ones x) (cond (parity_bit x true && bit_at parity k) 1 0 + best next (step_ones own parity) (tail_ones tail) (suc k) n (next x true))
      ∙ ap₂ ◌&&◌ (sym (set.member x below))
      (none_sum (cond (parity_bit x true && bit_at parity k) 1 0) (best next (step_ones own parity) (tail_ones tail) (suc k) n (next x true))
      ∙ ap₂ ◌&&◌ (none_one (parity_bit x true && bit_at parity k)) (sym (back.member (next x true) (next_below x true below))))
      ∙ and_assoc (bit_at before x) (not (parity_bit x true && bit_at parity k)) (bit_at after (next x true))
    where
      and_assoc : (a b c : Bool) → (a && (b && c)) ≡ ((a && b) && c)
      and_assoc true b c = refl
      and_assoc false b c = refl

  -- a word split at its state at index k
  all_split : (us ws : List Bool) (k : ℕ) → length us ≡ k →
      all_ones own parity tail (us ++ true ∷ ws) ≡ path_cost next (step_ones own parity) 0 0 us
      + (cond (bit_at own k) 1 0 + cond (parity_bit (end_of next 0 us) true && bit_at parity k) 1 0)
      + (path_cost next (step_ones own parity) (suc k) (next (end_of next 0 us) true) ws + tail_ones tail (end_of next (next (end_of next 0 us) true) ws))
  unfolding all_ones
  all_split us ws k size =
      let split = path_cost-split next (step_ones own parity) k 0 us true ws size in
      let there = ap (tail_ones tail) (end_of-append next 0 us (true ∷ ws)) in
      omega (arith, split, there)

  start_is : (y : ℕ) → starts y ≡ 0 → y ≡ 0
  start_is y h = elim (eqb_tells y 0) [
    | inl (t, e) ↦ e
    | inr (f, ne) ↦ let one : starts y ≡ 1 = rw f refl in absurd (omega (arith, one, h))
  ]

  -- a word that shows no known 1, and words that all show one
  hidden_by : (k : ℕ) (d : List Bool) → length d ≡ length own → bit_at d k ≡ true → other_ones own parity tail k d ≡ 0 → found_by own parity tail k ≡ false
  unfolding found
  hidden_by k d size bit nothing =
      let hides : shows (length own) (sent_by own parity tail) (λ _. false) k d ≡ false = sym (others_show k d size) ∙ ap positive nothing in
      elim (cases_Bool (found_by own parity tail k)) [
        | inl all ↦ absurd (true≢false (sym (every_word_at (length own) _ all d size) ∙ ap₂ (λ b t. not b || t) bit hides))
        | inr e ↦ e
      ]

  shown_by : (k : ℕ) → ((d : List Bool) → length d ≡ length own → bit_at d k ≡ true → 1 ≤ other_ones own parity tail k d) → found_by own parity tail k ≡ true
  unfolding found
  shown_by k each = every_word_all (length own) _ (λ d size. elim (cases_Bool (bit_at d k)) [
    | inl bit ↦ ap₂ (λ b t. not b || t) bit (sym (others_show k d size) ∙ positive_from (other_ones own parity tail k d) (each d size bit))
    | inr bit ↦ ap (λ b. not b || shows (length own) (sent_by own parity tail) (λ _. false) k d) bit
  ])

  pub found_is : (before after : List Bool) (k n : ℕ) (t : Bool) → k + suc n ≡ length own → IsSet own parity k before → IsBack own parity tail (suc k) n after →
      t ≡ any_below 8 (leads_through (bit_at parity k) before after) → not t ≡ found_by own parity tail k
  unfolding by_way
  found_is before after k n true size set back is =
      let (x, below, through) = any_below_some 8 (leads_through (bit_at parity k) before after) (sym is) in
      let zero_cost = none_at (by_way before after k n x set back below) (by_way_none before after k n x set back below ∙ through) in
      let (y, us, below_y, size_us, there, cost) = (set.least x below).reached in
      let y_is : y ≡ 0 = start_is y (omega (arith, zero_cost, cost)) in
      let (ws, size_ws, rest) = best_reached next (step_ones own parity) (tail_ones tail) (suc k) n (next x true) in
      let there' : end_of next 0 us ≡ x = subst (λ s. end_of next s us ≡ x) y_is there in
      let cost' = subst (λ s. starts s + path_cost next (step_ones own parity) 0 s us ≡ set.ones x) y_is cost in
      let d : List Bool = us ++ true ∷ ws in
      let long : length d ≡ length own = length-append us (true ∷ ws) ∙ omega (arith, size_us, size_ws, size) in
      let bit = bit_between us ws true k size_us in
      let split = rw there' at (all_split us ws k size_us) in
      let all = all_is k d (omega (arith, long, size)) bit in
      sym (hidden_by k d long bit (omega (arith, zero_cost, cost', rest, split, all)))
  found_is before after k n false size set back is =
      sym (shown_by k (λ d long bit.
      let (us, ws, size_us, size_ws, d_is) = with_bit d k n true (size ∙ sym long) bit in
      let x : ℕ = end_of next 0 us in
      let below : x < 8 = end_below next 8 0 us next_below (omega arith) in
      let some = none_not (by_way before after k n x set back below)
      (by_way_none before after k n x set back below ∙ any_below_none 8 x (leads_through (bit_at parity k) before after) (sym is) below) in
      let to = (set.least x below).least 0 us (omega arith) size_us refl in
      let from = subst (λ m. best next (step_ones own parity) (tail_ones tail) (suc k) m (next x true)
      ≤ path_cost next (step_ones own parity) (suc k) (next x true) ws + tail_ones tail (end_of next (next x true) ws)) size_ws
      (best-le next (step_ones own parity) (tail_ones tail) (suc k) (next x true) ws) in
      let split = all_split us ws k size_us in
      let all = subst (λ w. all_ones own parity tail w ≡ other_ones own parity tail k d + cond (bit_at own k) 1 0) d_is (all_is k d (omega (arith, long, size)) bit) in
      omega (arith, some, to, from, split, all)))
