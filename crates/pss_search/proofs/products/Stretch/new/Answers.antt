use Rattle.std.proofs.Common.{◌≡◌, ℕ, ◌+◌, arith, subst}
use Rattle.cs_num.specs.declared.Cpx.{Cpx}
use Rattle.cs_num.specs.Complex.{sample_at}
use Rattle.pss_search.proofs.Filling.{Filled, filled_re, filled_im}
use Rattle.pss_search.proofs.products.Stretch.new.Goals as goal

pub returns-clause-held : goal.returns-clause-held
returns-clause-held c =
    let f : ℕ → Cpx = λ n. sample_at c.args.samples.now (c.args.t + n) in
    let last : c.loop-n.n ≡ 256 = omega arith in
    let all = subst (λ n. Filled f n c.loop-n.re c.loop-n.im) last c.loop-n.invariant in
    record { re = filled_re f c.loop-n.re c.loop-n.im all; im = filled_im f c.loop-n.re c.loop-n.im all }
