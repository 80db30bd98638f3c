use Rattle.std.proofs.Common.{◌∙◌, ap}
use Rattle.finite.specs.Lists.{values_below}
use Rattle.cs_num.specs.Complex.{value_at}
use Rattle.sync_seq.specs.Middle.{in_middle}
use Rattle.sync_seq.specs.Primary.{pss_at, pss_list}
use Rattle.sync_seq.proofs.Grids.{in_middle_list}
use Rattle.accumulated_sss.proofs.detecting.grid_of.Goals as goal

pub returns : goal.returns
unfolding pss_list
returns c =
    c.in_middle.ensures
    ∙ ap (λ values. values_below 72 (in_middle (value_at values))) c.pss.ensures
    ∙ in_middle_list (pss_at c.args.n2)
