use Rattle.std.proofs.Common.{◌∙◌, ap}
use Rattle.cs_num.specs.Complex.{value_at}
use Rattle.fold128.specs.Symbol.{useful_part}
use Rattle.pss_search.proofs.Waves.{wave_from, grid-all_within}
use Rattle.accumulated_sss.proofs.detecting.wave_of.Goals as goal

pub synth-requires : goal.synth-requires
synth-requires c = rw c.grid_of.ensures (grid-all_within c.args.n2)

pub returns : goal.returns
returns c = c.synth.ensures ∙ ap (λ grid. useful_part (value_at grid)) c.grid_of.ensures ∙ wave_from c.args.n2
