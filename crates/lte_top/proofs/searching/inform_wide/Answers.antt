use Rattle.std.proofs.Common.{sym}
use Rattle.std.proofs.lemmas.Result.{on_ok_weaker}
use Rattle.halving.specs.Wide.{narrowed}
use Rattle.evidence.specs.Receivers.{receiver_of}
use Rattle.wide_list.proofs.Lists.{listed_early}
use Rattle.lte_top.proofs.Carriers.{of_carrier, wide_list_holds}
use Rattle.lte_top.proofs.searching.inform_wide.Goals as goal

pub inform-requires : goal.inform-requires
inform-requires c = record { early = listed_early (receiver_of c.args.carrier) (narrowed c.args.wide.now) c.args.list.now c.requires.listed.explained }

pub returns : goal.returns
returns c =
    on_ok_weaker c.inform.result (wide_list_holds c.args.carrier c.args.wide.now c.inform.new.list c.requires.valid)
    (c.inform.ensures.list (receiver_of c.args.carrier) (sym (of_carrier c.args.carrier)) c.requires.listed.explained)
