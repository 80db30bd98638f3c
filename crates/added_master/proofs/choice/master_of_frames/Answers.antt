use Rattle.added_master.proofs.Choices.{choice_of_three}
use Rattle.added_master.proofs.choice.master_of_frames.Goals as goal

pub returns : goal.returns
returns c =
    rw (c.better.ensures, c.better-second.ensures)
    (choice_of_three c.args.id c.args.one.now c.args.two.now c.args.four.now _ _ _ c.master_with-first.ensures c.master_with.ensures c.master_with-2.ensures)
