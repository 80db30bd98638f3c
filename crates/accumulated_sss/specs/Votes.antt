-- What one half-frame says of the secondary signal at a candidate: a vote for each of its 62 signs. (own; the signals
-- are in TS 36.211 section 6.11)
use Rattle.std.specs.Prelude.{ℕ, ◌+◌, ◌-◌, ◌/◌, List, ℤ, pos, int_div}
use Rattle.cs_num.specs.declared.Sample.{Sample}
use Rattle.cs_num.specs.Complex.{times, conjugate}
use Rattle.lte_types.specs.Numerology.{normal, symbol_step}
use Rattle.sync_seq.specs.Middle.{middle}
use Rattle.pss_search.specs.Correlation.{energy}
use Rattle.pss_search.specs.Products.{correlation_at}
use Rattle.observe.specs.Seen.{seen}

-- the first sample of the secondary symbol's useful part, if that of the primary symbol after it is `at`
abbrev pub symbol_before : ℕ → ℕ
symbol_before at = at - symbol_step normal

-- re (B conj z) if the primary symbol's useful part begins at sample `at`: B is the demodulated secondary symbol at the
-- subcarrier of value `n`, and z is the correlation with the primary signal `n2`
unfoldable pub product : List Sample → ℕ → ℕ → ℕ → ℤ
product recording n2 at n =
    (times (seen recording (symbol_before at) (middle n)) (conjugate (correlation_at recording at n2))).re

-- e: the energy of both symbols
abbrev pub both_energies : List Sample → ℕ → ℕ
both_energies recording at = energy recording at + energy recording (symbol_before at)

-- a product as a vote: divided by a 4,096th of the energy, plus 1, and rounded toward 0
abbrev pub vote_of : ℕ → ℤ → ℤ
vote_of energy product = int_div product (pos (energy / 4096 + 1))

-- the vote on sign `n`, 0 to 61
unfoldable pub vote : List Sample → ℕ → ℕ → ℕ → ℤ
vote recording n2 at n = vote_of (both_energies recording at) (product recording n2 at n)
