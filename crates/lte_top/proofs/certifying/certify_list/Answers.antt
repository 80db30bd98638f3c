use Rattle.lte_top.proofs.SmallValues.{certifiable}
use Rattle.lte_top.proofs.certifying.certify_list.Goals as goal

pub certify-requires : goal.certify-requires
certify-requires g c κs within =
    let read = c.read_list.ensures in
    (within, rw (c.slice.ensures, c.readings.ensures) (certifiable g.receiver c.args.carrier c.requires.1 c.args.recording.now _ _ read.list read.readings))
