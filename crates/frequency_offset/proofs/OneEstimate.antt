-- A recording has only one estimate.
use Rattle.std.proofs.Common.{◌≡◌, ℕ, ◌<◌, ◌≤◌, ◌⊎◌, inl, inr, List, [], length, get_or, Option, Some, None, arith, refl, ap, sym, subst, ◌∙◌, ℤ, pos}
use Rattle.std.proofs.lemmas.Bool.{cases_lt}
use Rattle.cs_num.specs.declared.Sample.{Sample}
use Rattle.explain.specs.Receiver.{one_port_receiver}
use Rattle.explain.proofs.Listed.{is_one_list}
use Rattle.frequency_offset.specs.declared.candidate.Candidate.{Candidate}
use Rattle.frequency_offset.specs.declared.estimation.OffsetEstimate.{OffsetEstimate}
use Rattle.frequency_offset.specs.Turned.{turned}
use Rattle.frequency_offset.specs.Candidates.{taken_of}
use Rattle.frequency_offset.specs.Estimation.{HasCells, Estimates, IsSilent, IsFirstWithCells, IsFirstWithoutCells, IsEstimatedBy, turn_of}
use Rattle.frequency_offset.specs.Laws.{HasOneEstimate, IsOneApplied, ReportedCellsAreListed}

one_count : (recording : List Sample) (a b : ℕ) → HasCells recording a → HasCells recording b → a ≡ b
one_count recording a b p q = sym p.many ∙ ap length (is_one_list one_port_receiver recording p.list q.list p.explained q.explained) ∙ q.many

estimate_triple : {t u : ℤ} {h i c d : ℕ} → t ≡ u → h ≡ i → c ≡ d →
    ◌≡◌ {A = OffsetEstimate} (record { turn = t; hits = h; cells = c }) (record { turn = u; hits = i; cells = d })
estimate_triple t h c = cc

estimated_is : (x y : OffsetEstimate) → x.turn ≡ y.turn → x.hits ≡ y.hits → x.cells ≡ y.cells → x ≡ y
estimated_is x y t h c = estimate_triple t h c

no_candidate : Candidate
no_candidate = record { coarse = pos 0; turn = pos 0; hits = 0; fraction = record { peak = 0; energy = 0; power = 0 } }

module _ (recording : List Sample) where
  one_estimates : (candidate : Candidate) (x y : OffsetEstimate) → Estimates recording candidate x → Estimates recording candidate y → x ≡ y
  one_estimates candidate x y p q = estimated_is x y (p.turn ∙ sym q.turn) (p.hits ∙ sym q.hits) (one_count (turned recording candidate.turn) x.cells y.cells p.cells q.cells)

  -- a candidate without cells has an estimate without cells
  silent_estimates : (candidate : Candidate) (x : OffsetEstimate) → IsSilent recording candidate → Estimates recording candidate x → x.cells ≡ 0
  silent_estimates candidate x s t = one_count (turned recording candidate.turn) x.cells 0 t.cells s

  module _ (taken : List Candidate) where
    -- the first candidate with a cell has the lowest index among those with a cell
    not_later : (x y : OffsetEstimate) (p : IsFirstWithCells recording taken x) (q : IsFirstWithCells recording taken y) → p.place ≤ q.place
    not_later x y p q = settle (cases_lt q.place p.place)
      where
        settle : (q.place < p.place) ⊎ (p.place ≤ q.place) → p.place ≤ q.place
        settle (inr m) = m
        settle (inl l) =
            let e = silent_estimates (get_or taken q.place no_candidate) y (p.silent q.place no_candidate (omega arith) l) (q.estimates no_candidate) in
            absurd (omega (arith, e, q.some))

    heard_heard : (x y : OffsetEstimate) → IsFirstWithCells recording taken x → IsFirstWithCells recording taken y → x ≡ y
    heard_heard x y p q =
        let l = not_later x y p q in
        let m = not_later y x q p in
        let same : p.place ≡ q.place = omega (arith, l, m) in
        one_estimates (get_or taken q.place no_candidate) x y (subst (λ k. Estimates recording (get_or taken k no_candidate) x) same (p.estimates no_candidate)) (q.estimates no_candidate)

    heard_silent : (x y : OffsetEstimate) → IsFirstWithCells recording taken x → IsFirstWithoutCells recording taken y → x ≡ y
    heard_silent x y p q =
        let s = q.silent p.place no_candidate p.inside in
        let e = silent_estimates _ x s (p.estimates no_candidate) in
        absurd (omega (arith, e, p.some))

    silent_silent : (x y : OffsetEstimate) → IsFirstWithoutCells recording taken x → IsFirstWithoutCells recording taken y → x ≡ y
    silent_silent x y p q = one_estimates (get_or taken 0 no_candidate) x y (p.estimates no_candidate) (q.estimates no_candidate)

    some_some : (x y : OffsetEstimate) → IsFirstWithCells recording taken x ⊎ IsFirstWithoutCells recording taken x → IsFirstWithCells recording taken y ⊎ IsFirstWithoutCells recording taken y → x ≡ y
    some_some x y (inl p) (inl q) = heard_heard x y p q
    some_some x y (inl p) (inr q) = heard_silent x y p q
    some_some x y (inr p) (inl q) = sym (heard_silent y x q p)
    some_some x y (inr p) (inr q) = silent_silent x y p q

    some_inside : (x : OffsetEstimate) → IsFirstWithCells recording taken x ⊎ IsFirstWithoutCells recording taken x → taken ≡ [] → ⊥
    some_inside x (inl p) e = let l = ap length e in absurd (omega (arith, l, p.inside))
    some_inside x (inr p) e = let l = ap length e in absurd (omega (arith, l, p.inside))

    one_estimated_by : (first second : Option OffsetEstimate) → IsEstimatedBy recording taken first → IsEstimatedBy recording taken second → first ≡ second
    one_estimated_by None None p q = refl
    one_estimated_by None (Some y) p q = absurd (some_inside y q p)
    one_estimated_by (Some x) None p q = absurd (some_inside x p q)
    one_estimated_by (Some x) (Some y) p q = ap Some (some_some x y p q)

pub has_one_estimate : HasOneEstimate
has_one_estimate recording first second p q = one_estimated_by recording (taken_of recording) first second p q

pub is_one_applied : IsOneApplied
is_one_applied recording first second p q =
    p.samples ∙ ap (λ estimate. turned recording (turn_of estimate)) (has_one_estimate recording p.estimate q.estimate p.is_estimated q.is_estimated) ∙ sym q.samples

-- the corrected recording has as many cells as the estimate states
cells_of : (recording : List Sample) (taken : List Candidate) (estimate : OffsetEstimate) → IsFirstWithCells recording taken estimate ⊎ IsFirstWithoutCells recording taken estimate →
    HasCells (turned recording estimate.turn) estimate.cells
cells_of recording taken estimate (inl p) = let t = p.estimates no_candidate in subst (λ turn. HasCells (turned recording turn) estimate.cells) (sym t.turn) t.cells
cells_of recording taken estimate (inr p) = let t = p.estimates no_candidate in subst (λ turn. HasCells (turned recording turn) estimate.cells) (sym t.turn) t.cells

pub reported_cells_are_listed : ReportedCellsAreListed
reported_cells_are_listed recording applied estimate is p =
    let e = p.samples ∙ ap (λ estimate. turned recording (turn_of estimate)) (has_one_estimate recording p.estimate (Some estimate) p.is_estimated is) in
    subst (λ samples. HasCells samples estimate.cells) (sym e) (cells_of recording (taken_of recording) estimate is)
