use Rattle.std.proofs.Common.{◌≡◌, ◌*◌, length, take}
use Rattle.sample_file.specs.Recording.{bytes_of}
use Rattle.sample_file.proofs.writing.put_samples.Given as goal

abbrev pub invariant-loop-i : goal.invariant-loop-i
invariant-loop-i l = record {
  so_far : take (4 * l.i) l.buffer ≡ bytes_of (take l.i l.samples);
  long : length l.buffer ≡ length l.fn.buffer;
}
