-- The list of hits holds each hit once, in order, and nothing else.
use Rattle.std.proofs.Common.{◌≡◌, ℕ, zero, suc, ◌+◌, ◌-◌, ◌^◌, ◌<◌, ◌≤◌, List, [], ◌∷◌, Bool, true, false, arith, refl, ap, sym, subst, ◌∙◌, get_or}
use Rattle.std.specs.Prelude.{if◌then◌else◌}
use Rattle.std.specs.List.{All, Contains, AllPairs}
use Rattle.std.proofs.lemmas.List.Elements.{Contains-get_or}
use Rattle.cs_num.specs.declared.Sample.{Sample}
use Rattle.cs_num.specs.Complex.{IsWithin, sample_at}
use Rattle.cs_num.proofs.Complex.{square-within}
use Rattle.lte_types.specs.declared.Hit.{Hit}
use Rattle.finite.proofs.Sums.{total_below-within}
use Rattle.finite.proofs.Lists.{Contains-in_joined, Contains-joined, joined_below-pairs}
use Rattle.pss_search.specs.Correlation.{energy, energy_term}
use Rattle.pss_search.specs.Tests.{is_hit}
use Rattle.pss_search.specs.Hits.{IsHit, IsInSpan, IsSmallHit, found, hit_at, hits_at, hits_before, hits_of}
use Rattle.pss_search.specs.Laws.{IsHitOf, ListIsRight, IsEarlier, ListIsInOrder}
use Rattle.pss_search.proofs.Peaks.{small_peak}
use Rattle.pss_search.proofs.RightTest.{right_test}

-- a hit in the list for one position and root
record Stands (recording : List Sample) (t n2 : ℕ) (hit : Hit) : Type 0 where
  is_hit : is_hit recording t n2 ≡ true
  found : hit ≡ found recording t n2

only_of : {A : Type 0} (b : Bool) (x y : A) → Contains (if b then x ∷ [] else []) y → (b ≡ true) × (y ≡ x)
only_of true x y (zero, l, e) = (refl, sym e)
only_of true x y (suc i, l, e) = absurd (omega (arith, l))
only_of false x y (i, l, e) = absurd (omega (arith, l))

in_place : (recording : List Sample) (t n2 : ℕ) (hit : Hit) → Contains (hit_at recording t n2) hit → Stands recording t n2 hit
unfolding hit_at
in_place recording t n2 hit h =
    let (a, b) = only_of (is_hit recording t n2) (found recording t n2) hit h in
    record { is_hit = a; found = b }

stands_there : (recording : List Sample) (t n2 : ℕ) → is_hit recording t n2 ≡ true → Contains (hit_at recording t n2) (found recording t n2)
unfolding hit_at
stands_there recording t n2 e = rw e (0, omega arith, refl)

listed_is_hit : (recording : List Sample) (hit : Hit) → Contains (hits_of recording) hit → IsHitOf recording hit
unfolding hits_before hits_at
listed_is_hit recording hit h =
    let (i, within, at_place) = Contains-in_joined 19200 (λ k. hits_at recording (137 + k)) hit h in
    let (n2, root, here) = Contains-in_joined 3 (hit_at recording (137 + i)) hit at_place in
    let s = in_place recording (137 + i) n2 hit here in
    let there : IsHit recording (137 + i) n2 = (right_test recording (137 + i) n2 (omega arith) (omega (arith, within))).0 s.is_hit in
    let t : 137 + i ≡ hit.t = ap (λ x. x.t) (sym s.found) in
    let r : n2 ≡ hit.n2 = ap (λ x. x.n2) (sym s.found) in
    record {
      root = omega (arith, root, r);
      is_hit = subst (λ n. IsHit recording hit.t n) r (subst (λ n. IsHit recording n n2) t there);
      measured = s.found ∙ ap (λ n. found recording n n2) t ∙ ap (λ n. found recording hit.t n) r;
    }

hit_is_listed : (recording : List Sample) (hit : Hit) → IsHitOf recording hit → Contains (hits_of recording) hit
unfolding hits_before hits_at
hit_is_listed recording hit h =
    let e : 137 + (hit.t - 137) ≡ hit.t = omega (arith, h.is_hit.from_first) in
    let passes = (right_test recording hit.t hit.n2 h.is_hit.from_first h.is_hit.to_last).1 h.is_hit in
    let here : Contains (hit_at recording hit.t hit.n2) hit = subst (Contains (hit_at recording hit.t hit.n2)) (sym h.measured) (stands_there recording hit.t hit.n2 passes) in
    let at_place : Contains (hits_at recording hit.t) hit = Contains-joined 3 hit.n2 (hit_at recording hit.t) hit h.root here in
    Contains-joined 19200 (hit.t - 137) (λ k. hits_at recording (137 + k)) hit (omega (arith, h.is_hit.to_last))
    (subst (λ n. Contains (hits_at recording n) hit) (sym e) at_place)

pub list_is_right : ListIsRight
list_is_right recording hit = (listed_is_hit recording hit, hit_is_listed recording hit)

one_in_order : (recording : List Sample) (t n2 : ℕ) → AllPairs IsEarlier (hit_at recording t n2)
unfolding hit_at
one_in_order recording t n2 = settle (is_hit recording t n2)
  where
    settle : (b : Bool) → AllPairs IsEarlier (if b then found recording t n2 ∷ [] else [])
    settle true i j d below inside = absurd (omega (arith, below, inside))
    settle false i j d below inside = absurd (omega (arith, below, inside))

place_in_order : (recording : List Sample) (t : ℕ) → AllPairs IsEarlier (hits_at recording t)
unfolding hits_at
place_in_order recording t = joined_below-pairs IsEarlier 3 (hit_at recording t) (λ n2 l. one_in_order recording t n2) (λ i j x y below last a b. across i j x y below a b)
  where
    across : (i j : ℕ) (x y : Hit) → i < j → Contains (hit_at recording t i) x → Contains (hit_at recording t j) y → IsEarlier x y
    across i j x y below a b =
        let p = in_place recording t i x a in
        let q = in_place recording t j y b in
        omega (arith, below, ap (λ h. h.t) p.found, ap (λ h. h.n2) p.found, ap (λ h. h.t) q.found, ap (λ h. h.n2) q.found)

at_that_place : (recording : List Sample) (t : ℕ) (hit : Hit) → Contains (hits_at recording t) hit → (hit.t ≡ t) × (hit.n2 < 3)
unfolding hits_at
at_that_place recording t hit h =
    let (n2, root, here) = Contains-in_joined 3 (hit_at recording t) hit h in
    let p = in_place recording t n2 hit here in
    (ap (λ x. x.t) p.found, omega (arith, root, ap (λ x. x.n2) p.found))

pub list_is_in_order : ListIsInOrder
unfolding hits_before
list_is_in_order recording = joined_below-pairs IsEarlier 19200 (λ k. hits_at recording (137 + k)) (λ k l. place_in_order recording (137 + k)) (λ i j x y below last a b. across i j x y below a b)
  where
    across : (i j : ℕ) (x y : Hit) → i < j → Contains (hits_at recording (137 + i)) x → Contains (hits_at recording (137 + j)) y → IsEarlier x y
    across i j x y below a b =
        let p = at_that_place recording (137 + i) x a in
        let q = at_that_place recording (137 + j) y b in
        omega (arith, below, p.0, p.1, q.0, q.1)

-- listed hits lie in the span
pub listed_in_span : (recording : List Sample) → All IsInSpan (hits_of recording)
listed_in_span recording k d within =
    let h = listed_is_hit recording (get_or (hits_of recording) k d) (Contains-get_or (hits_of recording) k d within) in
    record { from_first = h.is_hit.from_first; to_last = h.is_hit.to_last; root = omega (arith, h.root) }

-- if the parts of all samples have 16 bits, listed numbers are bounded
energy_small : (recording : List Sample) (t : ℕ) → ((i : ℕ) → IsWithin 32768 (sample_at recording i)) → energy recording t ≤ 2 ^ 38
unfolding energy
energy_small recording t within =
    omega (arith, total_below-within 128 (2 ^ 31) (energy_term recording t) (λ n l. square-within (sample_at recording (t + n)) 32768 (within (t + n))))

pub listed_are_small : (recording : List Sample) → ((i : ℕ) → IsWithin 32768 (sample_at recording i)) → All IsSmallHit (hits_of recording)
listed_are_small recording within k d inside =
    let hit : Hit = get_or (hits_of recording) k d in
    let h = listed_is_hit recording hit (Contains-get_or (hits_of recording) k d inside) in
    let energy = energy_small recording hit.t within in
    record {
      peak = subst (λ (x : Hit). x.peak ≤ 2 ^ 59) (sym h.measured) (small_peak recording hit.n2 hit.t h.root energy);
      energy = subst (λ (x : Hit). x.energy ≤ 2 ^ 38) (sym h.measured) energy;
    }
