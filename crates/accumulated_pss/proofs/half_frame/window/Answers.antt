use Rattle.std.proofs.Common.{◌≡◌, ◌∙◌, ◌+◌, ◌++◌, ◌∷◌, [], sym, ap, ap₂, arith, length, slice_index_or}
use Rattle.std.proofs.lemmas.Bool.{false≢true}
use Rattle.finite.specs.Lists.{values_below}
use Rattle.finite.proofs.Lists.{values_below_more, values_below-length}
use Rattle.cs_num.specs.Complex.{silence}
use Rattle.accumulated_pss.specs.Steps.{window_of}
use Rattle.accumulated_pss.proofs.half_frame.window.Goals as goal

pub loop-k-preserved : goal.loop-k-preserved
loop-k-preserved c =
    c.in_ok-push.ensures.items ∙ ap₂ (λ before last. before ++ (last ∷ [])) c.loop-k.invariant c.sample_or_silence.ensures
    ∙ sym (values_below_more c.loop-k.k (λ k. slice_index_or c.args.samples.now (c.args.start + k) silence))

pub unreachable-requires : goal.unreachable-requires
unreachable-requires c =
    let last : c.loop-k.k ≡ 57600 = omega arith in
    let size : length c.loop-k.copy.items ≡ 57600 =
    ap length c.loop-k.invariant ∙ values_below-length c.loop-k.k (λ k. slice_index_or c.args.samples.now (c.args.start + k) silence) ∙ last in
    false≢true (c.in-None.ensures.valid.1 (record { least = omega (arith, size); most = omega (arith, size) }))

pub returns : goal.returns
unfolding window_of
returns c =
    let last : c.loop-k.k ≡ 57600 = omega arith in
    c.in-Some.ensures.value ∙ c.loop-k.invariant ∙ ap (λ n. values_below n (λ k. slice_index_or c.args.samples.now (c.args.start + k) silence)) last
