use Rattle.std.proofs.Common.{List, sym, subst}
use Rattle.wide_list.specs.Frames.{Frame}
use Rattle.wide_list.specs.System.{AreTried}
use Rattle.wide_list.proofs.system.system_block_in.Goals as goal

pub returns-clause-bits : goal.returns-clause-bits
returns-clause-bits c =
    let wide = c.args.wide.now in
    let found = c.args.found.now in
    c.answer_of.ensures.bits wide found.cell found.start found.sfn c.in_ok-alone.ensures.read
    (λ reason e. subst (λ (frames : List Frame). AreTried wide found.cell found.start found.sfn frames) (sym c.deref.ensures.value) (c.in_ok-alone.ensures.tried reason e))
    c.in_ok-alone.ensures.bits
