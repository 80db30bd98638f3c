-- An entry's PSS detection for a cell to which a recording is faithful: the PSS explains at least 0.999 of the energy.
use Rattle.std.proofs.Common.{◌≡◌, ℕ, ◌+◌, ◌*◌, ◌/◌, ◌%◌, ◌<◌, ◌≤◌, arith, sym, subst, ◌∙◌, List, [], ◌∷◌}
use Rattle.std.proofs.lemmas.Nat.{le-div}
use Rattle.cs_num.specs.declared.Cpx.{Cpx}
use Rattle.cs_num.specs.declared.Sample.{Sample}
use Rattle.lte_types.specs.declared.carrier.Carrier.TheVariants.{OnePort}
use Rattle.lte_types.specs.declared.frame.Half.{Half}
use Rattle.lte_types.specs.declared.frame.Half.TheVariants.{Zero, Five}
use Rattle.lte_types.specs.declared.entry.Entry.{Entry}
use Rattle.lte_types.specs.Timing.{start_of}
use Rattle.sss_detect.specs.Place.{start_by_hit}
use Rattle.sss_detect.specs.Identity.{identity_of}
use Rattle.pss_search.specs.Correlation.{peak, energy, wave_power}
use Rattle.pss_search.proofs.Listed.{list_is_right}
use Rattle.pss_search.proofs.Symmetry.{power_range}
use Rattle.cell_plan.specs.declared.cell.CellPlan.{CellPlan}
use Rattle.cell_grid.specs.Grid.{Elements}
use Rattle.budget.specs.Peak.{StandsOut}
use Rattle.budget.proofs.Peaks.{primary_stands_out}
use Rattle.evidence.specs.Evidence.{IsDetectedBy, thousandths}
use Rattle.evidence.proofs.Fractions.{some_product}
use Rattle.clean_air.specs.Faithful.{IsFaithful}
use Rattle.clean_air.proofs.SentSymbols.{IsTruePlace}
use Rattle.clean_air.proofs.Signals.{primary_at}

-- a position that implies the start of the cell's frames is one of its true positions
detected_place_of : (offset t : ℕ) (half : Half) → offset < 19200 → start_by_hit t half ≡ start_of offset → IsTruePlace offset t half
detected_place_of offset t Zero within detected = record { frame = (t + offset) / 19200; place = omega (arith, within, detected) }
detected_place_of offset t Five within detected = record { frame = (t + offset) / 19200; place = omega (arith, within, detected) }

fraction : (c e w : ℕ) → 0 < e → 0 < w → 999 * (e * w) ≤ 1000 * c → 999 ≤ 1000 * c / (e * w)
fraction c e w some power h = le-div 999 (1000 * c) (e * w) (some_product e w some power) h

-- the fraction at such a position is at least 0.999
pub peak_is_high : (recording : List Sample) (plan : CellPlan) (grid : Elements) (sfn offset : ℕ) (gain : Cpx) (entry : Entry) (t : ℕ) →
    IsFaithful recording plan grid sfn offset gain → entry.id ≡ plan.identity → entry.start ≡ start_of offset → IsDetectedBy OnePort recording entry t → 999 ≤ thousandths recording (entry.id % 3) t
peak_is_high recording plan grid sfn offset gain entry t faithful id start detected =
    let is = (list_is_right recording detected.hit).0 detected.listed in
    let first : 137 ≤ detected.hit.t = is.is_hit.from_first in
    let last : detected.hit.t ≤ 19336 = is.is_hit.to_last in
    let half = (identity_of recording detected.hit).1 in
    let at = detected_place_of offset detected.hit.t half faithful.within (detected.start ∙ start) in
    let primary = primary_at OnePort recording plan (λ port. grid) sfn offset (gain ∷ []) faithful detected.hit.t half at (omega (arith, first)) (omega (arith, last)) in
    let stands : StandsOut recording detected.hit.t (plan.identity % 3) = primary_stands_out recording detected.hit.t (plan.identity % 3) primary in
    subst (λ n. 999 ≤ thousandths recording (n % 3) t) (sym id)
    (subst (λ n. 999 ≤ thousandths recording (plan.identity % 3) n) detected.place
    (fraction (peak recording (plan.identity % 3) detected.hit.t) (energy recording detected.hit.t) (wave_power (plan.identity % 3)) stands.sounds (power_range (plan.identity % 3) (omega arith)).0 stands.clear))
