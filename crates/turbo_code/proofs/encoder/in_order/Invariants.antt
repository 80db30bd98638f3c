use Rattle.std.proofs.Common.{◌≡◌, ℕ, ◌<◌, false, length, get_or}
use Rattle.turbo_code.specs.Table.{interleaver}
use Rattle.turbo_code.specs.Encoder.{bit_at}
use Rattle.turbo_code.proofs.encoder.in_order.Given as goal

abbrev pub invariant-loop-i : goal.invariant-loop-i
invariant-loop-i l = record { size : length l.bits ≡ 1024; at : (j : ℕ) → j < l.i → get_or l.bits j false ≡ bit_at l.word (interleaver l.row j) }
