use Rattle.std.proofs.Common.{arith, sym, subst, ◌≤◌}
use Rattle.pss_search.proofs.Symmetry.{power_is, power_high, power_range}
use Rattle.pss_search.proofs.signals.signal_power.Goals as goal

pub returns-clause-value : goal.returns-clause-value
returns-clause-value c = power_is c.args.n2 (omega (arith, c.requires))

pub returns-clause-least : goal.returns-clause-least
returns-clause-least c =
    let known = c.requires in
    let e = power_is c.args.n2 (omega (arith, known)) in
    let range = power_high c.args.n2 (omega (arith, known)) in
    subst (λ p. 1990000 ≤ p) (sym e) range

pub returns-clause-few : goal.returns-clause-few
returns-clause-few c =
    let known = c.requires in
    let e = power_is c.args.n2 (omega (arith, known)) in
    let range = (power_range c.args.n2 (omega (arith, known))).1 in
    subst (λ p. p ≤ 2001665) (sym e) range
