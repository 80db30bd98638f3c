-- Correlation of a recording with the primary synchronisation signals. (own)
use Rattle.std.specs.Prelude.{ℕ, ◌+◌, List}
use Rattle.cs_num.specs.declared.Cpx.{Cpx}
use Rattle.cs_num.specs.declared.Sample.{Sample}
use Rattle.cs_num.specs.Complex.{times, conjugate, square, sample_at}
use Rattle.cs_num.specs.Sums.{complex_sum_below}
use Rattle.finite.specs.Sums.{total_below}
use Rattle.fold128.specs.Symbol.{useful_at, useful_part}
use Rattle.sync_seq.specs.Middle.{in_middle}
use Rattle.sync_seq.specs.Primary.{pss_at}
use Rattle.lte_types.specs.Numerology.{useful_length}

-- the grid of a symbol that carries only the primary sequence n2
abbrev pub pss_grid : ℕ → ℕ → Cpx
pss_grid n2 = in_middle (pss_at n2)

-- p(n): sample n of the useful part of a symbol that carries only the primary sequence n2
unfoldable pub wave : ℕ → ℕ → Cpx
wave n2 n = useful_at (pss_grid n2) n

-- p(0) to p(127): the complete useful part of a symbol that carries only the primary sequence n2
abbrev pub wave_list : ℕ → List Cpx
wave_list n2 = useful_part (pss_grid n2)

-- P: the power of the primary signal n2, the sum of |p(n)| ^ 2 over its 128 samples
unfoldable pub wave_power : ℕ → ℕ
wave_power n2 = total_below useful_length (λ n. square (wave n2 n))

-- term n of the correlation at position t: r(t + n) * conj p(n), where r is the recording
abbrev pub peak_term : (ℕ → Cpx) → List Sample → ℕ → ℕ → Cpx
peak_term p recording t n = times (sample_at recording (t + n)) (conjugate (p n))

-- C: the peak at position t, the squared magnitude of the sum of r(t + n) * conj p(n) over 128 samples
unfoldable pub peak : List Sample → ℕ → ℕ → ℕ
peak recording n2 t = square (complex_sum_below useful_length (peak_term (wave n2) recording t))

-- term n of the energy at position t: |r(t + n)| ^ 2
abbrev pub energy_term : List Sample → ℕ → ℕ → ℕ
energy_term recording t n = square (sample_at recording (t + n))

-- E: the energy at position t, the sum of |r(t + n)| ^ 2 over 128 samples
unfoldable pub energy : List Sample → ℕ → ℕ
energy recording t = total_below useful_length (energy_term recording t)
