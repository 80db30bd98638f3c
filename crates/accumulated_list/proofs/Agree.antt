-- Recordings that agree in the samples that the half-frames cover have one list.
use Rattle.std.proofs.Common.{◌≡◌, ◌∙◌, ℕ, ◌≤◌, List, take, arith, ap, sym, subst}
use Rattle.std.proofs.lemmas.List.{take-take}
use Rattle.cs_num.specs.declared.Sample.{Sample}
use Rattle.sample_file.specs.Recording.{AgreeBefore}
use Rattle.accumulated_pss.specs.Sums.{IsPosition, accumulated, covered, row_of, sum_at}
use Rattle.accumulated_pss.specs.Maxima.{IsCandidate, precedes}
use Rattle.accumulated_pss.proofs.Rows.{rows_hold_sums, first_samples_decide}
use Rattle.accumulated_sss.specs.declared.detecting.Detection.{Detection}
use Rattle.accumulated_sss.specs.Signs.{last_end}
use Rattle.accumulated_sss.specs.Detection.{IsDetection}
use Rattle.accumulated_sss.proofs.Agree.{first_samples_decide as first_decide}
use Rattle.accumulated_sss.proofs.Detections.{detection_is_right}
use Rattle.accumulated_list.specs.declared.cell.DetectedCell.{DetectedCell}
use Rattle.accumulated_list.specs.Cells.{IsDetected, IsEcho, IsListed, cell_with, cell_at}
use Rattle.accumulated_list.specs.Laws.{CoveredSamplesDecide}

module _ (halves : ℕ) (a b : List Sample) (agree : AgreeBefore (covered halves) a b) where
  rows_agree : (n2 : ℕ) → row_of a halves n2 ≡ row_of b halves n2
  rows_agree n2 = first_samples_decide halves n2 a b agree

  sums_agree : (n2 t : ℕ) → IsPosition t → accumulated a halves n2 t ≡ accumulated b halves n2 t
  sums_agree n2 t p =
      sym (rows_hold_sums a halves n2 t p) ∙ ap (λ row. sum_at row t) (rows_agree n2) ∙ rows_hold_sums b halves n2 t p

  cells_agree : (n2 t : ℕ) (found : Detection) → IsPosition t → cell_at a halves n2 t found ≡ cell_at b halves n2 t found
  cells_agree n2 t found p = ap (λ sum. cell_with halves n2 t sum found) (sums_agree n2 t p)

  detections_agree : (n2 t : ℕ) (found : Detection) → IsPosition t → IsDetection a halves t n2 found → IsDetection b halves t n2 found
  detections_agree n2 t found p is =
      let end = last_end halves t in
      let last = p.to_last in
      let before : end ≤ covered halves = omega (arith, last) in
      let agree_there : AgreeBefore end a b =
      sym (take-take end (covered halves) a before) ∙ ap (take end) agree ∙ take-take end (covered halves) b before in
      (detection_is_right b halves t n2 found).0
      (sym (first_decide a b halves t n2 agree_there) ∙ (detection_is_right a halves t n2 found).1 is)

  pub detected_agree : (cell : DetectedCell) → IsDetected a halves cell → IsDetected b halves cell
  detected_agree cell is =
      let p = is.candidate.maximum.position in
      record {
        found = is.found;
        member = is.member;
        candidate = subst (λ row. IsCandidate row cell.position) (rows_agree cell.n2) is.candidate;
        detection = detections_agree cell.n2 cell.position is.found p is.detection;
        fields = is.fields ∙ cells_agree cell.n2 cell.position is.found p;
      }

  pub echoes_agree : (other cell : DetectedCell) → IsEcho a halves other cell → IsEcho b halves other cell
  echoes_agree other cell is = record {
    identity = is.identity;
    near = is.near;
    precedes = sym (ap (λ row. precedes row other.position cell.position) (rows_agree cell.n2)) ∙ is.precedes;
  }

listed_agree : (halves : ℕ) (a b : List Sample) → AgreeBefore (covered halves) a b → (cell : DetectedCell) → IsListed a halves cell → IsListed b halves cell
listed_agree halves a b agree cell is = record {
  detected = detected_agree halves a b agree cell is.detected;
  no_echo = λ other other_is echo.
      is.no_echo other (detected_agree halves b a (sym agree) other other_is) (echoes_agree halves b a (sym agree) other cell echo);
}

pub covered_samples_decide_list : CoveredSamplesDecide
covered_samples_decide_list halves a b agree cells list = record {
  listed = λ cell. (
    λ there. listed_agree halves a b agree cell ((list.listed cell).0 there),
    λ is. (list.listed cell).1 (listed_agree halves b a (sym agree) cell is),
  );
  order = list.order;
}
