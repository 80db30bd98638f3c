use Rattle.std.proofs.Common.{◌∙◌}
use Rattle.pbch.proofs.FrameSums.{front_received}
use Rattle.explain.proofs.slots.received_in.Goals as goal

pub returns-clause-values : goal.returns-clause-values
returns-clause-values g c =
    c.received.ensures.values ∙ front_received g.S.ReadSlot.values_by _ _ c.looks_at_front.ensures c.front_of-slot.ensures
