use Rattle.explain.proofs.Valid.{starts_early}
use Rattle.explain.proofs.Granted.{grant_decoded, none_decoded}
use Rattle.explain.proofs.grant.grant_of.Goals as goal

pub place_in-place-requires : goal.place_in-place-requires
place_in-place-requires c = starts_early c.args.recording.now c.args.entry.now c.requires

pub returns-clause-grant : goal.returns-clause-grant
returns-clause-grant c =
    grant_decoded c.args.recording.now c.args.entry.now c.place_in-place.result c.master_in-master.result c.system_in.result.sib1 c.system_in.result.granted
    c.requires c.place_in-place.ensures c.master_in-master.ensures c.system_in.ensures.sib1 c.system_in.ensures.granted

pub returns-clause-none : goal.returns-clause-none
returns-clause-none c = none_decoded c.args.recording.now c.args.entry.now c.system_in.result.granted (returns-clause-grant c)
