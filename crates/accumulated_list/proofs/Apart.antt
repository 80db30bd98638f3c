-- Two listed cells with one identity are more than 137 positions apart, and what supports a listed cell.
use Rattle.std.proofs.Common.{◌≡◌, ◌∙◌, inl, inr, ℕ, zero, suc, ◌*◌, ◌/◌, ◌<◌, ◌≤◌, List, true, min, arith, ap, sym, subst}
use Rattle.std.proofs.lemmas.Nat.{div_below}
use Rattle.std.proofs.lemmas.Bool.{cases_lt}
use Rattle.cs_num.specs.declared.Sample.{Sample}
use Rattle.finite.proofs.Sums.{total_below_none}
use Rattle.accumulated_pss.specs.Sums.{accumulated, ratio, row_of}
use Rattle.accumulated_pss.specs.Maxima.{IsMaximum, distance, precedes, steps}
use Rattle.accumulated_pss.proofs.Order.{precedes-either}
use Rattle.accumulated_pss.proofs.Ratios.{accumulated-below}
use Rattle.accumulated_pss.proofs.Rows.{rows_hold_sums}
use Rattle.accumulated_sss.specs.declared.detecting.Detection.{Detection}
use Rattle.accumulated_sss.specs.Detection.{IsDetection}
use Rattle.accumulated_sss.proofs.Detections.{only_one_detection}
use Rattle.accumulated_list.specs.declared.cell.DetectedCell.{DetectedCell}
use Rattle.accumulated_list.specs.Cells.{IsDetected, IsListed, cell_at, mean_ratio}
use Rattle.accumulated_list.specs.Laws.{CellsAreApart, CellsAreSupported}
use Rattle.accumulated_list.proofs.EchoTest.{same_signal}

near_back : (t u : ℕ) → distance t u ≤ 137 → distance u t ≤ 137
near_back t u near = by (steps t u) (steps u t) near
  where
    by : (a b : ℕ) → min a b ≤ 137 → min b a ≤ 137
    by a b l = omega (arith, l)

module _ (recording : List Sample) (halves : ℕ) where
  same_place : (n m t u : ℕ) (found other : Detection) → n ≡ m → t ≡ u → IsDetection recording halves t n found → IsDetection recording halves u m other →
      cell_at recording halves n t found ≡ cell_at recording halves m u other
  same_place n m t u found other e f is other_is =
      let moved = subst (λ k. IsDetection recording halves u k found) e (subst (λ s. IsDetection recording halves s n found) f is) in
      let same = only_one_detection recording halves u m found other moved other_is in
      λ i. cell_at recording halves (e i) (f i) (same i)

  -- at one position there is one cell
  one_cell : (a b : DetectedCell) → IsDetected recording halves a → IsDetected recording halves b → a.n2 ≡ b.n2 → a.position ≡ b.position → a ≡ b
  one_cell a b p q e f =
      p.fields ∙ same_place a.n2 b.n2 a.position b.position p.found q.found e f p.detection q.detection ∙ sym q.fields

  -- the earlier of two near cells is an echo, or the later one is
  not_near : (a b : DetectedCell) → IsListed recording halves a → IsListed recording halves b → a.id ≡ b.id →
      distance a.position b.position ≤ 137 → a.position < b.position → ⊥
  not_near a b p q e near l = elim (precedes-either (row_of recording halves b.n2) a.position b.position l) [
    | inl first ↦ q.no_echo a p.detected (record { identity = e; near = near; precedes = first })
    | inr second ↦
        p.no_echo b q.detected (record {
          identity = sym e;
          near = near_back a.position b.position near;
          precedes = subst (λ n. precedes (row_of recording halves n) b.position a.position ≡ true)
              (sym (same_signal recording halves a b p.detected q.detected e)) second;
        })
  ]

pub cells_are_apart : CellsAreApart
cells_are_apart recording halves a b p q e differ = elim (cases_lt 137 (distance a.position b.position)) [
  | inl far ↦ far
  | inr near ↦ absurd (elim (cases_lt a.position b.position) [
    | inl less ↦ not_near recording halves a b p q e near less
    | inr past ↦ elim (cases_lt b.position a.position) [
      | inl more ↦ not_near recording halves b a q p (sym e) (near_back a.position b.position near) more
      | inr last ↦
          differ (one_cell recording halves a b p.detected q.detected (same_signal recording halves a b p.detected q.detected e)
          (omega (arith, past, last)))
    ]
  ])
]

-- without half-frames there is no maximum
some_half_frame : (recording : List Sample) (halves n2 t : ℕ) → IsMaximum (row_of recording halves n2) t → 0 < halves
some_half_frame recording zero n2 t is =
    let none = rows_hold_sums recording 0 n2 t is.position ∙ total_below_none (ratio recording n2 t) in
    let positive = is.positive in
    omega (arith, none, positive)
some_half_frame recording (suc halves) n2 t is = omega arith

small_mean : (halves sum : ℕ) → 0 < halves → sum ≤ halves * 16777215 → mean_ratio halves sum ≤ 999
small_mean halves sum some within =
    let below : 1000 * sum / (16777216 * halves) < 1000 =
    div_below (1000 * sum) (16777216 * halves) 1000 (omega (arith, some)) (omega (arith, some, within)) in
    omega (arith, below)

pub cells_are_supported : CellsAreSupported
cells_are_supported recording halves cell is =
    let at = is.detected.candidate.maximum in
    let matches = ap (λ c. c.matches) is.detected.fields in
    let enough = is.detected.detection.enough in
    let ratio_is = ap (λ c. c.ratio) is.detected.fields in
    let small =
    small_mean halves (accumulated recording halves cell.n2 cell.position)
    (some_half_frame recording halves cell.n2 cell.position at)
    (accumulated-below recording halves cell.n2 cell.position) in
    (omega (arith, matches, enough), omega (arith, ratio_is, small), at)
