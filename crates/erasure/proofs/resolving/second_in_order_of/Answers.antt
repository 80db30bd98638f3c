use Rattle.std.proofs.Common.{arith, ◌∙◌}
use Rattle.turbo_code.specs.Encoder.{bit_at}
use Rattle.turbo_code.specs.Table.{step_of}
use Rattle.erasure.specs.Sets.{above_zero}
use Rattle.erasure.proofs.Agree.{second_by_marks}
use Rattle.turbo_code.proofs.Orders.{read_at_step}
use Rattle.erasure.proofs.resolving.second_in_order_of.Goals as goal

pub returns-clause-found : goal.returns-clause-found
returns-clause-found c = λ k inside.
    let below = (read_at_step c.args.row.now k c.requires.row inside).below in
    c.find.ensures.found (step_of c.args.row.now k) (omega (arith, below, c.front_of.ensures.count))
    ∙ second_by_marks c.args.row.now (above_zero c.args.counts.now) (bit_at c.args.known.now) _ _ c.own_in_order_of.result c.stream_of.result _ k
    c.front_of.ensures.count c.front_of.ensures.marks c.front_of-2.ensures.marks c.own_in_order_of.ensures.marks c.stream_of.ensures.marks c.tail_of.ensures
