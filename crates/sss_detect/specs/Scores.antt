-- The agreement of a secondary synchronisation sequence with two demodulated symbols. (own)
use Rattle.std.specs.Prelude.{ℕ, ℤ, ◌*ℤ◌}
use Rattle.finite.specs.Sums.{sum_below}
use Rattle.cs_num.specs.declared.Cpx.{Cpx}
use Rattle.cs_num.specs.Complex.{times, conjugate}
use Rattle.lte_types.specs.declared.frame.Half.{Half}
use Rattle.sync_seq.specs.Middle.{middle}
use Rattle.sync_seq.specs.Primary.{pss_at}
use Rattle.sync_seq.specs.Secondary.{sss_at}

-- A(n), the channel at value `n` of the primary sequence: the demodulated value times the conjugate of the transmitted
-- value
abbrev pub channel : (ℕ → Cpx) → ℕ → ℕ → Cpx
channel primary n2 n = times (primary (middle n)) (conjugate (pss_at n2 n))

-- the agreement at value `n`, re (B conj A): B is the demodulated value of the secondary symbol, and A the channel, at
-- the same subcarrier
abbrev pub agreement : (ℕ → Cpx) → (ℕ → Cpx) → ℕ → ℕ → ℤ
agreement primary secondary n2 n = (times (secondary (middle n)) (conjugate (channel primary n2 n))).re

-- the score of identity group `n1` in a half-frame: the sum of the agreements at 62 values, each multiplied by the
-- secondary sequence's value, 1 or -1
unfoldable pub score : (ℕ → Cpx) → (ℕ → Cpx) → ℕ → ℕ → Half → ℤ
score primary secondary n2 n1 half = sum_below 62 (λ n. sss_at n1 n2 half n *ℤ agreement primary secondary n2 n)
