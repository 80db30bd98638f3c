-- The cells that are detected at the candidates of one primary signal.
use Rattle.std.proofs.Common.{◌≡◌, ◌∙◌, ℕ, ◌+◌, ◌*◌, ◌<◌, ◌≤◌, List, Option, Some, None, length, arith, refl, ap, sym, subst}
use Rattle.std.specs.Prelude.{option_map}
use Rattle.std.specs.List.{All, AllPairs, Contains}
use Rattle.std.proofs.lemmas.Option.{none-some, same_Some}
use Rattle.cs_num.specs.declared.Sample.{Sample}
use Rattle.accumulated_pss.specs.Sums.{IsPosition, row_of}
use Rattle.accumulated_pss.specs.Maxima.{candidates}
use Rattle.accumulated_pss.proofs.Listed.{list_is_right, list_is_in_order}
use Rattle.accumulated_pss.proofs.Short.{list_is_short}
use Rattle.accumulated_sss.specs.declared.detecting.Detection.{Detection}
use Rattle.accumulated_sss.specs.Detection.{IsDetection, detection_at}
use Rattle.accumulated_sss.proofs.Detections.{detection_is_right}
use Rattle.accumulated_list.specs.declared.cell.DetectedCell.{DetectedCell}
use Rattle.accumulated_list.specs.Cells.{IsDetected, cell_at}
use Rattle.accumulated_list.specs.Steps.{cell_found, detected_cells, order_of}
use Rattle.accumulated_list.proofs.Gathered.{All-from_Contains, gathered_from, gathered_has, gathered_order, gathered_few}

-- two cells have different numbers in the order
abbrev pub Differ : DetectedCell → DetectedCell → Type 0
Differ a b = order_of a ≡ order_of b → ⊥

module _ (recording : List Sample) (halves : ℕ) where
  found_is : (n2 t : ℕ) (cell : DetectedCell) → cell_found recording halves n2 t ≡ Some cell →
      (found : Detection) × IsDetection recording halves t n2 found × (cell ≡ cell_at recording halves n2 t found)
  unfolding cell_found
  found_is n2 t cell e = by (detection_at recording halves t n2) refl e
    where
      by : (o : Option Detection) → detection_at recording halves t n2 ≡ o → option_map (cell_at recording halves n2 t) o ≡ Some cell →
          (found : Detection) × IsDetection recording halves t n2 found × (cell ≡ cell_at recording halves n2 t found)
      by None e h = absurd (none-some cell h)
      by (Some found) e h =
          (found, (detection_is_right recording halves t n2 found).0 e, sym (same_Some (cell_at recording halves n2 t found) cell h))

  is_found : (n2 t : ℕ) (found : Detection) → IsDetection recording halves t n2 found →
      cell_found recording halves n2 t ≡ Some (cell_at recording halves n2 t found)
  unfolding cell_found
  is_found n2 t found is = ap (option_map (cell_at recording halves n2 t)) ((detection_is_right recording halves t n2 found).1 is)

  -- ---- what the list has

  pub detected_from : (n2 : ℕ) → n2 ≤ 2 → (cell : DetectedCell) → Contains (detected_cells recording halves n2) cell →
      IsDetected recording halves cell × (cell.n2 ≡ n2)
  unfolding detected_cells
  detected_from n2 member cell inside =
      let (t, there, is) = gathered_from (cell_found recording halves n2) (candidates (row_of recording halves n2)) cell inside in
      let (found, detection, e) = found_is n2 t cell is in
      let candidate = (list_is_right (row_of recording halves n2) t).0 there in
      let made : IsDetected recording halves (cell_at recording halves n2 t found) =
      record { found = found; member = member; candidate = candidate; detection = detection; fields = refl } in
      (subst (IsDetected recording halves) (sym e) made, ap (λ c. c.n2) e)

  pub detected_has : (cell : DetectedCell) → IsDetected recording halves cell → Contains (detected_cells recording halves cell.n2) cell
  unfolding detected_cells
  detected_has cell is =
      let row = row_of recording halves cell.n2 in
      gathered_has (cell_found recording halves cell.n2) (candidates row) cell.position cell
      ((list_is_right row cell.position).1 is.candidate)
      (is_found cell.n2 cell.position is.found is.detection ∙ ap Some (sym is.fields))

  pub detected_positions : (n2 : ℕ) → n2 ≤ 2 → All (λ cell. IsPosition cell.position) (detected_cells recording halves n2)
  detected_positions n2 member =
      All-from_Contains (λ cell. IsPosition cell.position) (detected_cells recording halves n2)
      (λ cell there. (detected_from n2 member cell there).0.candidate.maximum.position)

  -- ---- order and length

  pub detected_differ : (n2 : ℕ) → AllPairs Differ (detected_cells recording halves n2)
  unfolding detected_cells
  detected_differ n2 =
      gathered_order (cell_found recording halves n2) ◌<◌ Differ step (candidates (row_of recording halves n2)) (list_is_in_order (row_of recording halves n2))
    where
      order_is : (t : ℕ) (cell : DetectedCell) → cell_found recording halves n2 t ≡ Some cell → order_of cell ≡ 3 * t + n2
      order_is t cell e = let (found, detection, is) = found_is n2 t cell e in ap order_of is

      apart : (t u p q : ℕ) → t < u → p ≡ 3 * t + n2 → q ≡ 3 * u + n2 → p ≡ q → ⊥
      apart t u p q l e f same = omega (arith, l, e, f, same)

      step : (t u : ℕ) (a b : DetectedCell) → t < u → cell_found recording halves n2 t ≡ Some a → cell_found recording halves n2 u ≡ Some b → Differ a b
      step t u a b l e f same = apart t u (order_of a) (order_of b) l (order_is t a e) (order_is u b f) same

  pub detected_few : (n2 : ℕ) → length (detected_cells recording halves n2) ≤ 64
  unfolding detected_cells
  detected_few n2 =
      let short = list_is_short (row_of recording halves n2) in
      let fewer = gathered_few (cell_found recording halves n2) (candidates (row_of recording halves n2)) in
      omega (arith, short, fewer)
