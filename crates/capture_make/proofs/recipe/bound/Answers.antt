use Rattle.std.proofs.Common.{◌≡◌, pos, sym, ◌∙◌, rules}
use Rattle.lte_types.specs.declared.carrier.Carrier.TheVariants.{OnePort, TwoPorts, FourPorts}
use Rattle.capture_make.proofs.Samples.{last_count, bound_by_count}
use Rattle.capture_make.proofs.recipe.bound.Goals as goal

pub returns-in-1-clause-bound : goal.returns-in-1-clause-bound
returns-in-1-clause-bound c = bound_by_count OnePort c.args.carrier c.args.n (pos c.bound_of_one.result) (sym c.in-1.is ∙ c.ports.ensures) c.bound_of_one.ensures.bound

pub returns-in-2-clause-bound : goal.returns-in-2-clause-bound
returns-in-2-clause-bound c = bound_by_count TwoPorts c.args.carrier c.args.n (pos c.bound_of_two.result) (sym c.in-2.is ∙ c.ports.ensures) c.bound_of_two.ensures.bound

pub returns-in_default-clause-bound : goal.returns-in_default-clause-bound
returns-in_default-clause-bound c =
    let one : c.ports.result ≡ 1 → ⊥ = search rules in
    let two : c.ports.result ≡ 2 → ⊥ = search rules in
    let four = last_count c.args.carrier c.ports.result c.ports.ensures one two in
    bound_by_count FourPorts c.args.carrier c.args.n (pos c.bound_of_four.result) four c.bound_of_four.ensures.bound
