use Rattle.wide_list.proofs.Lists.{on_ok, informed_are_valid}
use Rattle.wide_list.proofs.informing.inform_with_blocks.Goals as goal

pub returns-clause-valid : goal.returns-clause-valid
returns-clause-valid c valid =
    on_ok c.inform_each.result
    (λ all. informed_are_valid c.args.carrier c.args.wide.now c.args.list.now c.inform_each.new.list all valid) c.inform_each.ensures.informed
