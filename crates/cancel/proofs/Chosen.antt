-- The code's choice of a gain is the definition's.
use Rattle.std.proofs.Common.{◌≡◌, ◌∙◌, ℕ, ◌<◌, sym, ap, subst, List, length, Option, Some}
use Rattle.std.proofs.Math.Path.{fun_ext}
use Rattle.finite.specs.Lists.{values_below}
use Rattle.finite.proofs.Lists.{values_below_at, values_below_same}
use Rattle.cs_num.specs.declared.Cpx.{Cpx}
use Rattle.cs_num.specs.declared.Sample.{Sample}
use Rattle.cs_num.specs.Complex.{minus, times, silence, sample_at, value_of, sample_of}
use Rattle.cs_num.specs.Rounding.{nearest_sample}
use Rattle.cell_plan.specs.declared.cell.CellPlan.{CellPlan}
use Rattle.cancel.specs.declared.choosing.GainChoice.{GainChoice}
use Rattle.cancel.specs.declared.subtracted.Subtracted.{Subtracted}
use Rattle.cancel.specs.Gain.{IsBest}
use Rattle.cancel.specs.Residue.{estimate_at, sent_at, left_at, greatest_left, residue_of, IsSubtracted}
use Rattle.cancel.specs.Steps.{left_of, greatest_of, IsChosen, IsTakenOff}
use Rattle.cancel.proofs.Best.{greatest_same}

-- ---- a recording, and the transmitted samples

module _ (recording : List Sample) (plan : CellPlan) (start number : ℕ) (sent : List Sample)
    (is_sent : sent ≡ values_below (length recording) (λ i. sample_of (sent_at plan start number i))) where
  sent_value : (i : ℕ) → i < length recording → sample_at sent i ≡ sent_at plan start number i
  sent_value i l =
      ap (λ (s : List Sample). sample_at s i) is_sent
      ∙ ap value_of (values_below_at (λ i. sample_of (sent_at plan start number i)) (length recording) i silence l)

  same_left : (gain : Cpx) (i : ℕ) → i < length recording → left_of recording sent gain i ≡ left_at recording plan start number gain i
  same_left gain i l = ap (λ (z : Cpx). minus (sample_at recording i) (times gain z)) (sent_value i l)

  same_greatest : greatest_of recording sent ≡ greatest_left recording plan start number
  same_greatest = fun_ext (λ gain. greatest_same (length recording) (left_of recording sent gain) (left_at recording plan start number gain) (same_left gain))

  same_residue : (gain : Cpx) → values_below (length recording) (λ i. nearest_sample (left_of recording sent gain i)) ≡ residue_of recording plan start number gain
  same_residue gain =
      values_below_same (length recording) (λ i. nearest_sample (left_of recording sent gain i)) (λ i. nearest_sample (left_at recording plan start number gain i))
      (λ i l. ap nearest_sample (same_left gain i l))

  pub subtracted : (choice : GainChoice) (taken : Subtracted) → IsChosen (greatest_of recording sent) (estimate_at recording plan start) (Some choice) → IsTakenOff recording sent choice taken
      → IsSubtracted recording plan start number taken
  subtracted choice taken chosen is = record {
    gain =
        subst (λ (g : Cpx). IsBest (greatest_left recording plan start number) (estimate_at recording plan start) g) (sym is.gain)
        (subst (λ (f : Cpx → ℕ). IsBest f (estimate_at recording plan start) choice.gain) same_greatest chosen.0);
    greatest =
        is.greatest
        ∙ chosen.1
        ∙ ap (λ (f : Cpx → ℕ). f choice.gain) same_greatest
        ∙ ap (λ (g : Cpx). greatest_left recording plan start number g) (sym is.gain);
    residue = is.residue ∙ same_residue choice.gain ∙ ap (λ (g : Cpx). residue_of recording plan start number g) (sym is.gain);
    before = is.before;
    after = is.after;
  }

-- the same choice for equal lists and an equal estimate
pub chosen_by : (samples recording others sent : List Sample) (middle estimate : Cpx) (found choice : Option GainChoice) → samples ≡ recording → others ≡ sent → middle ≡ estimate → found ≡ choice
    → IsChosen (greatest_of samples others) middle found → IsChosen (greatest_of recording sent) estimate choice
chosen_by samples recording others sent middle estimate found choice e f g h chosen =
    subst (λ (s : List Sample). IsChosen (greatest_of s sent) estimate choice) e
    (subst (λ (s : List Sample). IsChosen (greatest_of samples s) estimate choice) f
    (subst (λ (m : Cpx). IsChosen (greatest_of samples others) m choice) g
    (subst (λ (c : Option GainChoice). IsChosen (greatest_of samples others) middle c) h chosen)))

-- an equal count gives equal transmitted samples
pub sent_by : (recording : List Sample) (count : ℕ) (plan : CellPlan) (start number : ℕ) (sent : List Sample) → sent ≡ values_below count (λ i. sample_of (sent_at plan start number i)) →
    count ≡ length recording → sent ≡ values_below (length recording) (λ i. sample_of (sent_at plan start number i))
sent_by recording count plan start number sent is same = is ∙ ap (λ n. values_below n (λ i. sample_of (sent_at plan start number i))) same
