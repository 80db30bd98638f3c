-- The samples of recording n.
use Rattle.std.proofs.Common.{◌≡◌, ℕ, List, sym, subst}
use Rattle.std.specs.Prelude.{nat_abs}
use Rattle.cs_num.specs.declared.Cpx.{Cpx}
use Rattle.cs_num.specs.Complex.{value_at}
use Rattle.lte_types.specs.declared.carrier.Carrier.TheVariants.{TwoPorts}
use Rattle.cell_tx.specs.Clean.{IsCleanOfPorts}
use Rattle.capture_make.specs.Recipe.{plan, number, offset, first_gain, second_gain}
use Rattle.capture_make.specs.Made.{samples_by}
use Rattle.capture_make.proofs.Samples.{NumbersAreClean, one_of_number}
use Rattle.two_tx.specs.declared.made.TwoMade.{TwoMade}
use Rattle.two_tx.specs.Made.{IsMade, IsCleanlyMade}

-- every recording is clean at both ports
pub is_clean : NumbersAreClean → (n : ℕ) (made : TwoMade) → IsMade n made → IsCleanlyMade made
is_clean law n made m =
    let eps = nat_abs made.bound in
    let clean = law TwoPorts n made.bound m.bound in
    let whole : IsCleanOfPorts (samples_by TwoPorts n eps) (plan n) (number n) (offset n) (first_gain n) (second_gain n) eps = record {
      number = clean.number;
      samples = record { within = clean.within; gains = clean.gains_are; bound = clean.bound; near = clean.near };
    } in
    subst (λ (l : List Cpx). IsCleanOfPorts made.recording made.plan made.sfn made.offset (value_at l 0) (value_at l 1) eps) (sym m.gains_are)
    (subst (λ l. IsCleanOfPorts l made.plan made.sfn made.offset (first_gain n) (second_gain n) eps) (sym m.samples_are)
    (subst (λ p. IsCleanOfPorts (samples_by TwoPorts n eps) p made.sfn made.offset (first_gain n) (second_gain n) eps) (sym m.plan_is)
    (subst (λ s. IsCleanOfPorts (samples_by TwoPorts n eps) (plan n) s made.offset (first_gain n) (second_gain n) eps) (sym m.number_is)
    (subst (λ o. IsCleanOfPorts (samples_by TwoPorts n eps) (plan n) (number n) o (first_gain n) (second_gain n) eps) (sym m.offset_is) whole))))

-- two recordings with the same number are equal
pub one_recording : (n : ℕ) (a b : TwoMade) → IsMade n a → IsMade n b → a.recording ≡ b.recording
one_recording n a b p q = one_of_number TwoPorts n a.bound b.bound a.recording b.recording p.bound q.bound p.samples_are q.samples_are
