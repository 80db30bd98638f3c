use Rattle.conv_code.proofs.OneToOne.{one_to_one}
use Rattle.conv_code.proofs.laws.codewords_determine_words.Goals as goal

pub returns : goal.returns
returns c = one_to_one
