-- A number has one recording.
use Rattle.std.proofs.Common.{◌≡◌, ℕ, ◌≤◌, ap, sym, subst, ◌∙◌, arith}
use Rattle.explain.proofs.Entries.{same_mib}
use Rattle.lte_types.specs.declared.carrier.Carrier.TheVariants.{LongPrefix}
use Rattle.capture_make.proofs.Samples.{one_of_number}
use Rattle.long_prefix.specs.declared.plan.LongPlan.{LongPlan}
use Rattle.long_prefix.specs.declared.made.LongMade.{LongMade}
use Rattle.long_prefix.specs.Made.{IsPlanOf, IsMadeLong}

same_plan : (a b : LongPlan) → a.id ≡ b.id → a.mib ≡ b.mib → a ≡ b
same_plan a b id block = ap (λ x. record a { id = x }) id ∙ ap (λ x. record b { mib = x }) block

-- a number has one plan
pub one_plan : (n : ℕ) (a b : LongPlan) → IsPlanOf n a → IsPlanOf n b → a ≡ b
one_plan n a b p q =
    same_plan a b (p.id ∙ sym q.id)
    (same_mib a.mib b.mib (p.block.bandwidth ∙ sym q.block.bandwidth) (p.block.duration ∙ sym q.block.duration) (p.block.resource ∙ sym q.block.resource)
    (p.block.upper ∙ sym q.block.upper) (p.block.spare ∙ sym q.block.spare))

-- the plan's identity is in its range
pub is_identity : (n : ℕ) (a : LongPlan) → IsPlanOf n a → a.id ≤ 503
is_identity n a p = subst (λ i. i ≤ 503) (sym p.id) (omega arith)

-- a number has one recording
pub one_recording : (n : ℕ) (a b : LongMade) → IsMadeLong n a → IsMadeLong n b → a.recording ≡ b.recording
one_recording n a b p q = one_of_number LongPrefix n a.bound b.bound a.recording b.recording p.bound q.bound p.samples_are q.samples_are
