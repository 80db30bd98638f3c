use Rattle.std.proofs.Common.{◌≤◌, ◌^◌, sym, subst, arith}
use Rattle.pss_search.proofs.Peaks.{small_peak}
use Rattle.pss_search.proofs.choose.hit_of.Goals as goal

pub returns-then-stands_out-clause-small : goal.returns-then-stands_out-clause-small
returns-then-stands_out-clause-small c =
    let own = c.metric-own.ensures in
    let known = c.args.root.now.known in
    let energy = subst (λ e. e ≤ 2 ^ 38) own.energy own.small_energy in
    record {
      peak = subst (λ p. p ≤ 2 ^ 59) (sym own.peak) (small_peak c.args.recent.now.recording c.args.root.now.n2 c.args.t (omega (arith, known)) energy);
      energy = own.small_energy;
    }
