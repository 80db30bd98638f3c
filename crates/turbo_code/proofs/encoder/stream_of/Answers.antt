use Rattle.std.proofs.Common.{◌∙◌}
use Rattle.turbo_code.proofs.Encoding.{stream_is}
use Rattle.turbo_code.proofs.encoder.stream_of.Goals as goal

pub returns : goal.returns
returns c = c.write_at-2.ensures ∙ stream_is c.args.bits.now c.args.tail.now c.requires c.told-tail c.write_at.new.stream c.write_at.ensures
