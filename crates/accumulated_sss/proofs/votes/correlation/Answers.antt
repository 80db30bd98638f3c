use Rattle.std.proofs.Common.{◌≡◌, ◌∙◌, ◌+◌, ◌<◌, ℕ, arith, sym, subst, ap, List, get_or}
use Rattle.cs_num.specs.declared.Cpx.{Cpx}
use Rattle.cs_num.specs.Complex.{IsWithin, nothing, times, conjugate, sample_at}
use Rattle.cs_num.proofs.SoFar.{none_so_far, one_more, has_room, all_so_far}
use Rattle.finite.proofs.Lists.{values_below_at}
use Rattle.fold128.specs.Symbol.{useful_part}
use Rattle.pss_search.specs.Correlation.{wave, wave_list, peak_term}
use Rattle.pss_search.proofs.Symmetry.{wave_small}
use Rattle.accumulated_sss.proofs.votes.correlation.Goals as goal

wave_at : (n2 : ℕ) (samples : List Cpx) (n : ℕ) (d : Cpx) → samples ≡ wave_list n2 → n < 128 → get_or samples n d ≡ wave n2 n
unfolding useful_part wave
wave_at n2 samples n d e inside = ap (λ (s : List Cpx). get_or s n d) e ∙ values_below_at (wave n2) 128 n d inside

pub loop-n-init : goal.loop-n-init
loop-n-init c = none_so_far 16711680 (peak_term (wave c.args.n2) c.args.samples.now c.args.at)

pub term-requires : goal.term-requires
term-requires c =
    let inside : c.loop-n.n < 128 = omega arith in
    subst (IsWithin 255) (sym (wave_at c.args.n2 c.args.wave.now c.loop-n.n _ c.requires.wave inside)) (wave_small c.args.n2 c.loop-n.n (omega arith) inside)

pub add-sum-requires : goal.add-sum-requires
add-sum-requires c =
    has_room 16711680 c.loop-n.n (peak_term (wave c.args.n2) c.args.samples.now c.args.at) c.loop-n.sum c.term.result c.loop-n.invariant c.term.ensures.small (omega arith)

pub loop-n-preserved : goal.loop-n-preserved
loop-n-preserved c =
    let inside : c.loop-n.n < 128 = omega arith in
    one_more 16711680 c.loop-n.n (peak_term (wave c.args.n2) c.args.samples.now c.args.at) c.loop-n.sum c.term.result c.add-sum.result c.loop-n.invariant
    (c.term.ensures.value ∙ ap (λ (w : Cpx). times (sample_at c.args.samples.now (c.args.at + c.loop-n.n)) (conjugate w)) (wave_at c.args.n2 c.args.wave.now c.loop-n.n nothing c.requires.wave inside))
    c.term.ensures.small c.add-sum.ensures

pub returns : goal.returns
returns c =
    let all = all_so_far 16711680 c.loop-n.n 128 (peak_term (wave c.args.n2) c.args.samples.now c.args.at) c.loop-n.sum c.loop-n.invariant (omega arith) in
    record { value = all.0; small = all.1 }
