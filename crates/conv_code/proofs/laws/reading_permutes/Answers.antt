use Rattle.conv_code.proofs.Items.{permuting}
use Rattle.conv_code.proofs.laws.reading_permutes.Goals as goal

pub returns : goal.returns
returns c = permuting
