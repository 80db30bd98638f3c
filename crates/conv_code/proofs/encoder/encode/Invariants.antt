use Rattle.std.proofs.Common.{◌≡◌, ℕ, ◌<◌, length, get_or, []}
use Rattle.conv_code.specs.Code.{coded_bits}
use Rattle.conv_code.proofs.encoder.encode.Given as goal

abbrev pub invariant-loop-k : goal.invariant-loop-k
invariant-loop-k g l = record { size : length l.coded ≡ g.row.N; at : (j : ℕ) → j < l.k → get_or l.coded j [] ≡ coded_bits l.bits j }
