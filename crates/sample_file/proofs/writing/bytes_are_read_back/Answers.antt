use Rattle.sample_file.proofs.Samples.{samples_back}
use Rattle.sample_file.proofs.writing.bytes_are_read_back.Goals as goal

pub returns : goal.returns
returns c = samples_back
