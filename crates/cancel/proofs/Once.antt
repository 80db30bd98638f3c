-- A cancellation has one answer.
use Rattle.std.proofs.Common.{◌≡◌, ℕ, ℤ, List, Some, None, refl, ap, sym, subst, ◌∙◌}
use Rattle.std.proofs.Props.{props}
use Rattle.cs_num.specs.declared.Cpx.{Cpx}
use Rattle.cs_num.specs.declared.Sample.{Sample}
use Rattle.cs_num.specs.Gain.{IsGain}
use Rattle.cell_plan.specs.Pair.{gain_of}
use Rattle.cell_plan.specs.declared.cell.CellPlan.{CellPlan}
use Rattle.cancel.specs.declared.subtracted.Subtracted.{Subtracted}
use Rattle.cancel.specs.Laws.{IsOneSubtraction}
use Rattle.cancel.specs.Residue.{estimate_at, greatest_left, residue_of, power_of, IsSubtracted}
use Rattle.cancel.proofs.Found.{best_is_one}

-- ---- answers with equal fields are equal

same_pair : (p q : ℤ × ℤ) → gain_of p ≡ gain_of q → p ≡ q
same_pair p q e = ap (λ (z : Cpx). (z.re, z.im)) e

gain_prop : (z : Cpx) → IsProp (IsGain z)
gain_prop z = hlevel props

same_gain : (a : Subtracted) (g : ℤ × ℤ) → a.gain ≡ g → (range : IsGain (gain_of g)) → a ≡ record a { gain = g; gain_range = range }
same_gain a g e = subst (λ h. (range : IsGain (gain_of h)) → a ≡ record a { gain = h; gain_range = range }) e
    (λ range. ap (λ r. record a { gain_range = r }) (gain_prop (gain_of a.gain) a.gain_range range))

same_answer : (a b : Subtracted) → a.gain ≡ b.gain → a.greatest ≡ b.greatest → a.before ≡ b.before → a.after ≡ b.after → a.residue ≡ b.residue → a ≡ b
same_answer a b gain greatest before after residue =
    let c : Subtracted = record a { gain = b.gain; gain_range = b.gain_range } in
    let d : Subtracted = record c { before = b.before } in
    let e : Subtracted = record d { after = b.after } in
    same_gain a b.gain gain b.gain_range ∙ ap (λ (n : ℕ). record c { before = n }) before ∙ ap (λ (n : ℕ). record d { after = n }) after
    ∙ ap (λ (n : ℕ). record e { greatest = n }) greatest ∙ ap (λ (r : List Sample). record b { residue = r }) residue

-- ---- uniqueness

pub one_subtracted : (recording : List Sample) (plan : CellPlan) (start number : ℕ) (a b : Subtracted) → IsSubtracted recording plan start number a → IsSubtracted recording plan start number b → a ≡ b
one_subtracted recording plan start number a b p q = same_answer a b (same_pair a.gain b.gain gains)
    (p.greatest ∙ ap (λ (z : Cpx). greatest_left recording plan start number z) gains ∙ sym q.greatest)
    (p.before ∙ sym q.before)
    (p.after ∙ ap (λ (r : List Sample). power_of r) residues ∙ sym q.after)
    residues
  where
    gains : gain_of a.gain ≡ gain_of b.gain
    gains = best_is_one (greatest_left recording plan start number) (estimate_at recording plan start) (gain_of a.gain) (gain_of b.gain) p.gain q.gain

    residues : a.residue ≡ b.residue
    residues = p.residue ∙ ap (λ (z : Cpx). residue_of recording plan start number z) gains ∙ sym q.residue

pub one_subtraction : IsOneSubtraction
one_subtraction recording plan start number None None p q = refl
one_subtraction recording plan start number None (Some b) p q = absurd (p (gain_of b.gain) q.gain.candidate)
one_subtraction recording plan start number (Some a) None p q = absurd (q (gain_of a.gain) p.gain.candidate)
one_subtraction recording plan start number (Some a) (Some b) p q = ap (λ (t : Subtracted). Some t) (one_subtracted recording plan start number a b p q)
