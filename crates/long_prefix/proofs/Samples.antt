-- The samples of a numbered recording.
use Rattle.std.proofs.Common.{ℕ, sym, subst}
use Rattle.std.specs.Prelude.{nat_abs}
use Rattle.cs_num.specs.declared.Cpx.{Cpx}
use Rattle.lte_types.specs.declared.carrier.Carrier.TheVariants.{LongPrefix}
use Rattle.cell_tx.specs.Clean.{IsCleanOf}
use Rattle.cell_plan.specs.Pair.{gain_of}
use Rattle.capture_make.specs.Recipe.{plan, number, offset, gain}
use Rattle.capture_make.specs.Made.{samples_by}
use Rattle.capture_make.proofs.Samples.{NumbersAreClean}
use Rattle.long_prefix.specs.declared.plan.LongPlan.{LongPlan}
use Rattle.long_prefix.specs.declared.made.LongMade.{LongMade}
use Rattle.long_prefix.specs.Sent.{HasPlan}
use Rattle.long_prefix.specs.Clean.{IsCleanOfLong}
use Rattle.long_prefix.specs.Made.{IsPlanOf, IsMadeLong, IsCleanlyMade}
use Rattle.long_prefix.proofs.SentPlan.{same_sent}

-- cell number n has the fields of the plan with this number
pub has_plan_of : (n : ℕ) (sent : LongPlan) → IsPlanOf n sent → HasPlan (plan n) sent
has_plan_of n sent p = record { identity = sym p.id; duration = sym p.block.duration; resource = sym p.block.resource; spare = sym p.block.spare }

-- the recording is clean
pub is_clean : NumbersAreClean → (n : ℕ) (made : LongMade) → IsMadeLong n made → IsCleanlyMade made
is_clean law n made m =
    let eps = nat_abs made.bound in
    let clean = law LongPrefix n made.bound m.bound in
    let sequence = same_sent (plan n) made.plan (has_plan_of n made.plan m.plan_is) (number n) in
    let whole : IsCleanOfLong (samples_by LongPrefix n eps) made.plan (number n) (offset n) (gain n) eps = record {
      number = clean.number;
      samples = subst (λ (sequence : ℕ → Cpx). IsCleanOf sequence (samples_by LongPrefix n eps) (offset n) (gain n) eps) sequence
          (record { within = clean.within; range = clean.gains_are; bound = clean.bound; near = clean.near });
    } in
    subst (λ l. IsCleanOfLong l made.plan made.sfn made.offset (gain_of made.gain) eps) (sym m.samples_are)
    (subst (λ s. IsCleanOfLong (samples_by LongPrefix n eps) made.plan s made.offset (gain_of made.gain) eps) (sym m.number_is)
    (subst (λ o. IsCleanOfLong (samples_by LongPrefix n eps) made.plan (number n) o (gain_of made.gain) eps) (sym m.offset_is)
    (subst (λ z. IsCleanOfLong (samples_by LongPrefix n eps) made.plan (number n) (offset n) z eps) (sym m.gain_is) whole)))
