-- The hits that a receiver uses: those with room before them.
use Rattle.std.proofs.Common.{◌≡◌, ℕ, zero, suc, ◌-◌, ◌<◌, ◌≤◌, inl, inr, Bool, true, false, cond, nat_le, List, [], ◌∷◌, length, get_or, take, drop, length-drop, refl, ap, sym, subst, ◌∙◌, arith}
use Rattle.std.specs.Prelude.{◌↔◌, All}
use Rattle.std.specs.List.{Contains, AllPairs, filter}
use Rattle.std.proofs.lemmas.Bool.Decides.{nat_tests}
use Rattle.std.proofs.lemmas.List.Elements.{All-contains, All-filter, filter_passes, Contains-append_left, Contains-append_right, Contains-append_cases}
use Rattle.std.proofs.lemmas.List.{take_all}
use Rattle.finite.proofs.Lists.{only_one}
use Rattle.cs_num.specs.declared.Sample.{Sample}
use Rattle.lte_types.specs.declared.hit.Hit.{Hit}
use Rattle.lte_types.specs.declared.carrier.Carrier.{Carrier}
use Rattle.lte_types.specs.declared.carrier.Carrier.TheVariants.{OnePort, TwoPorts, FourPorts, LongPrefix}
use Rattle.lte_types.specs.Carrier.{prefix_of}
use Rattle.lte_types.specs.Numerology.{symbol_step}
use Rattle.pss_search.specs.Hits.{IsInSpan, hits_of}
use Rattle.pss_search.specs.Laws.{IsEarlier}
use Rattle.pss_search.proofs.Listed.{listed_in_span}
use Rattle.explain.specs.Receiver.{has_step_before, hits_by, HasRoom}

-- ---- filters

module _ {X : Type 0} (p : X → Bool) where
  kept_before : (xs : List X) (x : X) → Contains (filter p xs) x → Contains xs x
  kept_before [] x h = h
  kept_before (y ∷ ys) x h = settle (p y) refl (λ rest. kept_before ys x rest)
    where
      settle : (b : Bool) → p y ≡ b → (Contains (filter p ys) x → Contains ys x) → Contains (y ∷ ys) x
      settle true e more = elim (Contains-append_cases (y ∷ []) (filter p ys) x (rw e at h)) [
        | inl first ↦ Contains-append_left (y ∷ []) ys x first
        | inr rest ↦ Contains-append_right (y ∷ []) ys x (more rest)
      ]
      settle false e more = Contains-append_right (y ∷ []) ys x (more (rw e at h))

  kept_after : (xs : List X) (x : X) → Contains xs x → p x ≡ true → Contains (filter p xs) x
  kept_after [] x h e = h
  kept_after (y ∷ ys) x h e = elim (Contains-append_cases (y ∷ []) ys x h) [
    | inl first ↦ (let same = only_one y x first in let here : p y ≡ true = ap p same ∙ e in rw here (Contains-append_left (y ∷ []) (filter p ys) x first))
    | inr rest ↦ settle (p y) (kept_after ys x rest e)
  ]
    where
      settle : (b : Bool) → Contains (filter p ys) x → Contains (cond b (y ∷ filter p ys) (filter p ys)) x
      settle true more = Contains-append_right (y ∷ []) (filter p ys) x more
      settle false more = more

  -- if all items pass, all are kept
  pub all_kept : (xs : List X) → ((k : ℕ) (d : X) → k < length xs → p (get_or xs k d) ≡ true) → filter p xs ≡ xs
  all_kept [] each = refl
  all_kept (x ∷ xs) each =
      let first : p x ≡ true = each 0 x (omega arith) in
      let rest = all_kept xs (λ k d inside. each (suc k) d (omega (arith, inside))) in
      rw first (ap (λ (ys : List X). x ∷ ys) rest)

  -- if the first n items fail and all others pass, the others are kept
  pub kept_from : (xs : List X) (n : ℕ) → n ≤ length xs → ((k : ℕ) (d : X) → k < n → p (get_or xs k d) ≡ false) →
      ((k : ℕ) (d : X) → n ≤ k → k < length xs → p (get_or xs k d) ≡ true) → filter p xs ≡ drop n xs
  kept_from xs zero fits none all = all_kept xs (λ k d inside. all k d (omega arith) inside)
  kept_from [] (suc n) fits none all = absurd (omega (arith, fits))
  kept_from (x ∷ xs) (suc n) fits none all =
      let first : p x ≡ false = none 0 x (omega arith) in
      let rest = kept_from xs n (omega (arith, fits)) (λ k d below. none (suc k) d (omega (arith, below))) (λ k d above inside. all (suc k) d (omega (arith, above)) (omega (arith, inside))) in
      rw first rest

-- ---- hits

is_late : (step t : ℕ) → nat_le step t ≡ true → step ≤ t
is_late step t e = grind (arith, nat_tests)

passes : (step t : ℕ) → step ≤ t → nat_le step t ≡ true
passes step t h = grind (arith, nat_tests)

-- with the normal prefix, all hits have room before them
normal_are_late : (recording : List Sample) → filter (has_step_before OnePort) (hits_of recording) ≡ hits_of recording
normal_are_late recording =
    all_kept (has_step_before OnePort) (hits_of recording)
    (λ k d inside. let span = listed_in_span recording k d inside in passes 137 (get_or (hits_of recording) k d).t span.from_first)

-- the hits used are those with room before them
pub taken_are_late : (carrier : Carrier) (recording : List Sample) → filter (has_step_before carrier) (hits_of recording) ≡ hits_by carrier recording
taken_are_late OnePort recording = normal_are_late recording
taken_are_late TwoPorts recording = normal_are_late recording
taken_are_late FourPorts recording = normal_are_late recording
taken_are_late LongPrefix recording = refl

-- a hit is used exactly if it is listed and has room before it
pub are_taken : (carrier : Carrier) (recording : List Sample) (hit : Hit) →
    Contains (hits_by carrier recording) hit ↔ Contains (hits_of recording) hit × (symbol_step (prefix_of carrier) ≤ hit.t)
are_taken carrier recording hit = subst (λ (hits : List Hit). Contains hits hit ↔ Contains (hits_of recording) hit × (symbol_step (prefix_of carrier) ≤ hit.t)) (taken_are_late carrier recording) (
  λ kept. (
    kept_before (has_step_before carrier) (hits_of recording) hit kept,
    is_late _ hit.t (All-contains (λ (h : Hit). has_step_before carrier h ≡ true) (filter (has_step_before carrier) (hits_of recording)) hit (filter_passes (has_step_before carrier) (hits_of recording)) kept),
  ),
  λ both. kept_after (has_step_before carrier) (hits_of recording) hit both.0 (passes _ hit.t both.1),
)

-- all hits after the first one with room before it have room too
pub later_pass : (carrier : Carrier) (hits : List Hit) (n k : ℕ) (d : Hit) → All IsInSpan hits → AllPairs IsEarlier hits → symbol_step (prefix_of carrier) ≤ (get_or hits n d).t → n ≤ k → k < length hits →
    has_step_before carrier (get_or hits k d) ≡ true
later_pass carrier hits n k d span order first above inside = settle (nat_le k n) refl
  where
    settle : (b : Bool) → nat_le k n ≡ b → has_step_before carrier (get_or hits k d) ≡ true
    settle true e =
        let same : n ≡ k = grind (arith, nat_tests) in
        passes _ (get_or hits k d).t (subst (λ (m : ℕ). symbol_step (prefix_of carrier) ≤ (get_or hits m d).t) same first)
    settle false e =
        let before : n < k = grind (arith, nat_tests) in
        let after = order n k d before inside in
        let root = (span k d inside).root in
        passes _ (get_or hits k d).t (omega (arith, first, after, root))

-- the hits used are those from the first one with room
pub late_slice : (carrier : Carrier) (recording : List Sample) (hits : List Hit) (first : ℕ) → hits ≡ hits_of recording → first ≤ length hits →
    filter (has_step_before carrier) hits ≡ drop first hits → take (length hits - first) (drop first hits) ≡ hits_by carrier recording
late_slice carrier recording hits first are fits later =
    take_all (length hits - first) (drop first hits) (let size = length-drop first hits in omega (arith, size)) ∙ sym later ∙ ap (filter (has_step_before carrier)) are
    ∙ taken_are_late carrier recording

-- the hits used lie in the span, with room before each
pub all_have_room : (carrier : Carrier) (recording : List Sample) → All (HasRoom carrier) (hits_by carrier recording)
all_have_room carrier recording = subst (All (HasRoom carrier)) (taken_are_late carrier recording) (λ k d inside. record {
  span = All-filter (has_step_before carrier) IsInSpan (hits_of recording) (listed_in_span recording) k d inside;
  before = is_late _ (get_or (filter (has_step_before carrier) (hits_of recording)) k d).t (filter_passes (has_step_before carrier) (hits_of recording) k d inside);
})
