use Rattle.std.proofs.Common.{ap, ◌∙◌}
use Rattle.cs_bits.specs.Checks.{with_check_16}
use Rattle.dci.specs.Fields.{system_information_rnti}
use Rattle.dci.specs.Format1A.{sent_word}
use Rattle.cell_grid.specs.Control.{control_word}
use Rattle.cell_grid.proofs.control.word_of.Goals as goal

pub returns : goal.returns
unfolding control_word
returns c = c.with_check.ensures ∙ ap (with_check_16 system_information_rnti) (c.write.ensures.word ∙ ap sent_word c.grant_of.ensures.grant)
