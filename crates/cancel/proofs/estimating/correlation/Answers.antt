use Rattle.std.proofs.Common.{◌∙◌, ◌+◌, ℕ, arith, ap, ap₂, List}
use Rattle.cs_num.specs.declared.Cpx.{Cpx}
use Rattle.cs_num.specs.declared.Sample.{Sample}
use Rattle.cs_num.specs.Complex.{sample_at, value_of, times, conjugate}
use Rattle.cs_num.proofs.SoFar.{none_so_far, one_more, has_room, all_so_far}
use Rattle.pss_search.specs.Correlation.{wave}
use Rattle.cancel.proofs.WaveSizes.{wave_at}
use Rattle.cancel.proofs.estimating.correlation.Goals as goal

summand : List Sample → ℕ → ℕ → ℕ → Cpx
summand recording first n2 k = times (sample_at recording (first + k)) (conjugate (wave n2 k))

pub loop-n-init : goal.loop-n-init
unfolding summand
loop-n-init c = none_so_far 134217728 (summand c.args.recording.now c.args.first c.args.n2)

pub add-sum-requires : goal.add-sum-requires
unfolding summand
add-sum-requires c = has_room 134217728 c.loop-n.n (summand c.args.recording.now c.args.first c.args.n2) c.loop-n.sum c.term.result c.loop-n.invariant c.term.ensures.small (omega arith)

pub loop-n-preserved : goal.loop-n-preserved
unfolding summand
loop-n-preserved c =
    one_more 134217728 c.loop-n.n (summand c.args.recording.now c.args.first c.args.n2) c.loop-n.sum c.term.result c.add-sum.result c.loop-n.invariant
    (c.term.ensures.value
    ∙ ap₂ (λ (a b : Cpx). times a (conjugate b)) (ap value_of c.get.ensures) (wave_at c.args.n2 c.args.signal.now c.loop-n.n _ c.requires.signal (let l = c.loop-n-test.true in omega (arith, l))))
    c.term.ensures.small c.add-sum.ensures

pub returns : goal.returns
unfolding summand
returns c =
    let all = all_so_far 134217728 c.loop-n.n 128 (summand c.args.recording.now c.args.first c.args.n2) c.loop-n.sum c.loop-n.invariant (omega arith) in
    record { value = all.0; small = all.1 }
