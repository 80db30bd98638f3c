use Rattle.std.proofs.Common.{arith, ◌≡◌, ◌++◌, ◌∷◌, [], ◌∙◌, ap, ap₂, sym, ℤ, to_z, of_z, w32}
use Rattle.finite.specs.Lists.{values_below}
use Rattle.finite.proofs.Lists.{values_below_more}
use Rattle.tones.specs.Tones.{cosine}
use Rattle.tones.proofs.Entries.{kept_short, cosine_small}
use Rattle.tones.proofs.table.Tones.new.Goals as goal

pub loop-m-preserved : goal.loop-m-preserved
loop-m-preserved c =
    c.in_ok-push.ensures.items ∙ ap₂ (λ before last. before ++ (last ∷ [])) c.loop-m.invariant (ap (λ (z : ℤ). to_z w32 (of_z w32 z)) c.cosine_of.ensures ∙ kept_short (cosine c.loop-m.m) (cosine_small c.loop-m.m))
    ∙ sym (values_below_more c.loop-m.m cosine)

pub invariant_of-result : goal.invariant_of-result
invariant_of-result c =
    let last : c.loop-m.m ≡ 3584 = omega arith in
    record { listed = c.loop-m.invariant ∙ ap (λ n. values_below n cosine) last }
