use Rattle.std.proofs.Common.{arith}
use Rattle.cs_num.proofs.Complex.{within_more}
use Rattle.long_prefix.proofs.made.pair.Goals as goal

pub pair_of-requires : goal.pair_of-requires
pair_of-requires c = within_more c.value.result 28 32767 (rw c.value.ensures.value c.value.ensures.within) (omega arith)
