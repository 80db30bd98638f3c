-- A cell's synchronisation signals in a recording, demodulated through a channel, such as several paths. (own; the
-- signals are in TS 36.211 section 6.11)
use Rattle.std.specs.Prelude.{ℕ, ◌-◌, ◌≤◌, List}
use Rattle.cs_num.specs.declared.Cpx.{Cpx}
use Rattle.cs_num.specs.declared.Sample.{Sample}
use Rattle.lte_types.specs.declared.frame.Half.{Half}
use Rattle.lte_types.specs.declared.numerology.Prefix.{Prefix}
use Rattle.lte_types.specs.Numerology.{symbol_step}
use Rattle.pss_search.specs.Correlation.{pss_grid}
use Rattle.observe.specs.Seen.{seen}
use Rattle.budget.specs.Received.{samples_from}
use Rattle.budget.specs.Peak.{IsPrimaryWithin}
use Rattle.budget.specs.Score.{sss_grid, AreSignals, AreSeenThrough, LeaveTermsRoom}
use Rattle.budget.specs.Paths.{Paths, AreFaint, IsReceivedOver}

-- Both synchronisation signals are demodulated through a channel whose bounds leave room, the PSS at sample `t` of a
-- recording and the SSS one symbol earlier (a symbol with `prefix`). Bounds are relative to a magnitude whose square is
-- `square`.
pub record AreSignalsThrough (prefix : Prefix) (recording : List Sample) (t n1 n2 : ℕ) (half : Half) : Type 0 where
  pub most : ℕ
  pub least : ℕ
  pub square : ℕ
  pub channel : ℕ → Cpx
  pub room : LeaveTermsRoom most least
  pub through :
      AreSeenThrough most least square channel n1 n2 half (seen recording t) (seen recording (t - symbol_step prefix))

-- synchronisation signals received with one gain are demodulated through a channel whose bounds leave room
abbrev pub SignalsAreThrough : Type 0
SignalsAreThrough =
    (prefix : Prefix) (recording : List Sample) (t n1 n2 : ℕ) (half : Half) →
    AreSignals prefix recording t n1 n2 half → AreSignalsThrough prefix recording t n1 n2 half

-- both synchronisation signals are received over the same paths, the PSS at sample `t` and the SSS one symbol earlier,
-- with error energies up to 1024 times the first gain's square
pub record AreSignalsOver (paths : Paths) (prefix : Prefix) (recording : List Sample) (t n1 n2 : ℕ) (half : Half) :
    Type 0 where
  pub group : n1 ≤ 167
  pub root : n2 ≤ 2
  pub primary : IsReceivedOver 1024 paths (pss_grid n2) (samples_from recording t)
  pub secondary : IsReceivedOver 1024 paths (sss_grid n1 n2 half) (samples_from recording (t - symbol_step prefix))

-- synchronisation signals received over the same paths are demodulated through a channel whose bounds leave room, if
-- later paths are faint
abbrev pub SignalsOverAreThrough : Type 0
SignalsOverAreThrough =
    (magnitudes : ℕ → ℕ) (paths : Paths) (prefix : Prefix) (recording : List Sample) (t n1 n2 : ℕ) (half : Half) →
    AreFaint magnitudes paths → AreSignalsOver paths prefix recording t n1 n2 half →
    AreSignalsThrough prefix recording t n1 n2 half

-- if faint later paths count as errors of the PSS, the error energy, sample errors included, is at most 14,000 times
-- the first gain's square
abbrev pub PrimaryOverIsWithin : Type 0
PrimaryOverIsWithin =
    (magnitudes : ℕ → ℕ) (paths : Paths) (recording : List Sample) (t n2 : ℕ) → AreFaint magnitudes paths → n2 ≤ 2 →
    IsReceivedOver 1024 paths (pss_grid n2) (samples_from recording t) → IsPrimaryWithin 14000 recording t n2
