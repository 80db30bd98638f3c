-- Bounds for the energy fraction that a PSS detection explains.
use Rattle.std.proofs.Common.{◌≡◌, ℕ, ◌*◌, ◌/◌, ◌%◌, ◌≤◌, ◌<◌, List, arith, ap, sym, subst, ◌∙◌}
use Rattle.std.proofs.Math.Nat.{div-le_of_le-mul}
use Rattle.std.proofs.lemmas.Nat.{le-div, mul-le}
use Rattle.cs_num.specs.declared.Sample.{Sample}
use Rattle.lte_types.specs.declared.carrier.Carrier.{Carrier}
use Rattle.lte_types.specs.declared.hit.Hit.{Hit}
use Rattle.lte_types.specs.declared.entry.Entry.{Entry}
use Rattle.pss_search.specs.Correlation.{peak, wave_power}
use Rattle.pss_search.proofs.Peaks.{peak_within}
use Rattle.pss_search.proofs.Symmetry.{power_range}
use Rattle.evidence.specs.Evidence.{IsHitOfEntry, thousandths}

-- the fraction is at most 1
pub at_most_whole : (peak whole : ℕ) → peak ≤ whole → 1000 * peak / whole ≤ 1000
at_most_whole peak whole h = div-le_of_le-mul whole (omega (arith, h))

-- the fraction is at least a quarter if four times the peak is at least the whole
pub at_least_quarter : (peak whole : ℕ) → 0 < whole → whole ≤ 4 * peak → 250 ≤ 1000 * peak / whole
at_least_quarter peak whole some h = le-div 250 (1000 * peak) whole some (omega (arith, h))

-- two nonzero numbers have a nonzero product
pub some_product : (a b : ℕ) → 0 < a → 0 < b → 0 < a * b
some_product a b p q = omega (arith, p, q, mul-le 1 1 a b p q)

-- ---- the entry's PSS detection

module _ (carrier : Carrier) (recording : List Sample) (entry : Entry) (hit : Hit) (h : IsHitOfEntry carrier recording entry hit) where
  -- the PSS detection has energy
  pub hit_sounds : 0 < hit.energy
  hit_sounds = subst (λ (x : Hit). 0 < x.energy) (sym h.is_hit.measured) h.is_hit.is_hit.sounds

  -- the peak is at most the whole
  pub hit_within : hit.peak ≤ hit.energy * wave_power hit.n2
  hit_within = subst (λ (x : Hit). x.peak ≤ x.energy * wave_power hit.n2) (sym h.is_hit.measured) (peak_within recording hit.n2 hit.t)

  -- the fraction is at least a quarter
  pub hit_is_clear : 250 ≤ 1000 * hit.peak / (hit.energy * wave_power hit.n2)
  hit_is_clear = at_least_quarter hit.peak (hit.energy * wave_power hit.n2)
      (some_product hit.energy (wave_power hit.n2) hit_sounds (power_range hit.n2 h.is_hit.root).0)
      (subst (λ (x : Hit). x.energy * wave_power hit.n2 ≤ 4 * x.peak) (sym h.is_hit.measured) h.is_hit.is_hit.clear)

  -- the fraction equals that of its sample for the entry's n2
  pub hit_fraction : 1000 * hit.peak / (hit.energy * wave_power hit.n2) ≡ thousandths recording (entry.id % 3) hit.t
  hit_fraction =
      ap (λ p. 1000 * p / (hit.energy * wave_power hit.n2)) (ap (λ (x : Hit). x.peak) h.is_hit.measured)
      ∙ ap (λ e. 1000 * peak recording hit.n2 hit.t / (e * wave_power hit.n2)) (ap (λ (x : Hit). x.energy) h.is_hit.measured)
      ∙ ap (λ n2. thousandths recording n2 hit.t) h.root
