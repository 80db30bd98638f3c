use Rattle.std.proofs.Common.{◌≡◌, take}
use Rattle.sample_file.specs.Recording.{bytes_of}
use Rattle.sample_file.proofs.writing.bytes_of.Given as goal

abbrev pub invariant-loop-sample : goal.invariant-loop-sample
invariant-loop-sample l = l.bytes.items ≡ bytes_of (take l.sample-index l.samples)
