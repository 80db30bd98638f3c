use Rattle.wide_slot.proofs.Bounds.{product_has_room, product-within}
use Rattle.wide_slot.proofs.pilots.against.Goals as goal

pub mul-requires : goal.mul-requires
mul-requires c = rw c.conj.ensures (product_has_room c.args.seen c.args.sent c.requires.seen c.requires.sent)

pub returns-clause-small : goal.returns-clause-small
returns-clause-small c = rw (c.mul.ensures, c.conj.ensures) (product-within c.args.seen c.args.sent c.requires.seen c.requires.sent)
