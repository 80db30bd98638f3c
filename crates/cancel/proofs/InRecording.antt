-- A cell cancelled in a recording that is clean except for load.
use Rattle.std.proofs.Common.{Result, Ok, Err, Option, Some, None, ◌≡◌, ℕ, ◌+◌, ◌*◌, ◌/◌, ◌%◌, ◌<◌, ◌≤◌, arith, ap, ap₂, sym, subst, ◌∙◌, List, length, [], ◌∷◌}
use Rattle.std.specs.Prelude.{IsSomeAnd, IfOk}
use Rattle.std.specs.declared.alloc.AllocError.{AllocError}
use Rattle.finite.proofs.Lists.{values_below_at, values_below-length}
use Rattle.cs_num.specs.declared.Cpx.{Cpx}
use Rattle.cs_num.specs.declared.Sample.{Sample}
use Rattle.cs_num.specs.Complex.{IsWithin, square, minus, times, sample_at, silence, value_of}
use Rattle.cs_num.proofs.Complex.{within_more}
use Rattle.cs_num.specs.Rounding.{nearest_sample}
use Rattle.cs_num.proofs.Samples.{nearest_sample-kept}
use Rattle.norms.proofs.Naturals.{root-le}
use Rattle.fold128.specs.Symbol.{useful_at}
use Rattle.lte_types.specs.declared.carrier.Carrier.TheVariants.{OnePort}
use Rattle.lte_types.specs.Numerology.{primary_start}
use Rattle.lte_types.specs.declared.frame.Half.TheVariants.{Zero}
use Rattle.lte_types.specs.Timing.{start_of, number_at_start}
use Rattle.lte_types.proofs.Timings.{same_offset, same_number}
use Rattle.pss_search.specs.Correlation.{pss_grid, wave}
use Rattle.cell_plan.specs.declared.cell.CellPlan.{CellPlan}
use Rattle.cell_grid.specs.Grid.{element}
use Rattle.cell_grid.specs.Grid.{Elements}
use Rattle.cell_tx.specs.Sent.{sent}
use Rattle.cell_tx.specs.Clean.{IsClean}
use Rattle.budget.specs.Received.{samples_from}
use Rattle.budget.proofs.PeakSums.{wave_is_sharp}
use Rattle.clean_air.specs.Load.{IsLoaded}
use Rattle.clean_air.proofs.Carrying.{clean_is_loaded}
use Rattle.clean_air.proofs.SentSymbols.{IsTruePlace}
use Rattle.clean_air.proofs.Signals.{primary_is}
use Rattle.cell_plan.specs.Pair.{gain_of}
use Rattle.cancel.specs.declared.subtracted.Subtracted.{Subtracted}
use Rattle.cancel.specs.Gain.{IsCandidate, IsBest}
use Rattle.cancel.specs.Laws.{IsGainSeen, AnswerTakesLoadedOff, AnswerTakesCleanOff}
use Rattle.cancel.specs.Residue.{estimate_at, left_at, greatest_left, residue_of, IsSubtracted, IsSubtraction, IsLeftWithin, TakesLoadedOff, TakesCleanOff}
use Rattle.cancel.proofs.Estimates.{gain_is_candidate}
use Rattle.cancel.proofs.Best.{best_leaves_least}

-- ---- the estimate

true_place : (offset : ℕ) → offset < 19200 → IsTruePlace offset (start_of offset + primary_start Zero) Zero
true_place offset within = record { frame = (start_of offset + offset) / 19200; place = omega (arith, within) }

module _ (recording : List Sample) (plan : CellPlan) (grid : Elements) (sfn offset : ℕ) (gain : Cpx) (eps : ℕ) (clean : IsLoaded recording plan grid sfn offset gain eps) (long : 57600 ≤ length recording) where
  -- the PSS samples equal the signal times the true gain, up to eps
  primary_near : (n : ℕ) → n < 128 → IsWithin eps (minus (samples_from recording (start_of offset + primary_start Zero) n) (times gain (useful_at (pss_grid (plan.identity % 3)) n)))
  primary_near n l =
      subst (λ (z : Cpx). IsWithin eps (minus (samples_from recording (start_of offset + primary_start Zero) n) z))
      (primary_is OnePort plan (λ port. grid) clean.carries sfn offset (gain ∷ []) (start_of offset + primary_start Zero) Zero (true_place offset clean.within) n l)
      (clean.near (start_of offset + primary_start Zero + n) (omega (arith, long, l)))

  seen : IsGainSeen eps gain (samples_from recording (start_of offset + primary_start Zero)) (wave (plan.identity % 3))
  unfolding wave
  seen = record {
    range = clean.gains_are;
    quiet = clean.bound;
    power = (wave_is_sharp (plan.identity % 3) (omega arith)).power;
    near = primary_near;
  }

  candidate : IsCandidate (estimate_at recording plan (start_of offset)) gain
  candidate = gain_is_candidate eps gain (samples_from recording (start_of offset + primary_start Zero)) (wave (plan.identity % 3)) seen

-- ---- the residual

-- an error bound fits 16 bits
small_eps : (eps n : ℕ) → n ≤ 784 → eps * eps ≤ 4 * n → eps ≤ 32767
small_eps eps n most h = root-le eps 32767 (omega (arith, most, h))

-- the best candidate's residual does not exceed the true gain's
module _ (recording : List Sample) (plan : CellPlan) (grid : Elements) (sfn offset : ℕ) (gain : Cpx) (eps most : ℕ) (clean : IsLoaded recording plan grid sfn offset gain eps) (long : 57600 ≤ length recording)
    (few : most ≤ 32767) (near : (i : ℕ) → i < length recording → IsWithin most (left_at recording plan (start_of offset) (number_at_start sfn offset) gain i)) where
  abbrev start : ℕ
  start = start_of offset

  abbrev number : ℕ
  number = number_at_start sfn offset

  record IsQuiet (best : Cpx) : Type 0 where
    greatest : greatest_left recording plan start number best ≤ most
    each : (i : ℕ) → i < length recording → IsWithin most (left_at recording plan start number best i)

  quiet : (best : Cpx) → IsBest (greatest_left recording plan start number) (estimate_at recording plan start) best → IsQuiet best
  quiet best is =
      let all = best_leaves_least (length recording) (left_at recording plan start number) (estimate_at recording plan start) best gain most is
      (candidate recording plan grid sfn offset gain eps clean long) near in
      record { greatest = all.0; each = all.1 }

  taken_is_left : (taken : Subtracted) → IsSubtracted recording plan start number taken → IsLeftWithin most taken
  taken_is_left taken is = record { greatest = subst (λ n. n ≤ most) (sym is.greatest) all.greatest; each = each }
    where
      best : Cpx
      best = (gain_of taken.gain)

      all : IsQuiet (gain_of taken.gain)
      all = quiet (gain_of taken.gain) is.gain

      left_kept : (i : ℕ) → i < length recording → sample_at (residue_of recording plan start number (gain_of taken.gain)) i ≡ left_at recording plan start number (gain_of taken.gain) i
      left_kept i l =
          ap value_of (values_below_at (λ j. nearest_sample (left_at recording plan start number (gain_of taken.gain) j)) (length recording) i silence l)
          ∙ nearest_sample-kept (left_at recording plan start number (gain_of taken.gain) i)
          (within_more (left_at recording plan start number (gain_of taken.gain) i) most 32767 (all.each i l) few)

      inside : (i : ℕ) → i < length taken.residue → i < length recording
      inside i l =
          let e = ap (λ (r : List Sample). length r) is.residue ∙ values_below-length (length recording) (λ j. nearest_sample (left_at recording plan start number (gain_of taken.gain) j)) in
          omega (arith, e, l)

      each : (i : ℕ) → i < length taken.residue → IsWithin most (sample_at taken.residue i)
      each i l =
          subst (λ (r : List Sample). IsWithin most (sample_at r i)) (sym is.residue)
          (subst (λ (z : Cpx). IsWithin most z) (sym (left_kept i (inside i l))) (all.each i (inside i l)))

  -- the cell is cancelled
  taken_off : (answer : Option Subtracted) → IsSubtraction recording plan start number answer → IsSomeAnd answer (IsLeftWithin most)
  taken_off None is = absurd (is gain (candidate recording plan grid sfn offset gain eps clean long))
  taken_off (Some taken) is = taken_is_left taken is

pub takes_loaded_off : (recording : List Sample) (plan : CellPlan) (start number : ℕ) (answer : Option Subtracted) → 57600 ≤ length recording →
    IsSubtraction recording plan start number answer → TakesLoadedOff recording plan start number answer
takes_loaded_off recording plan first frame answer long is grid sfn offset gain eps most clean same_start same_sfn few near =
    taken_off recording plan grid sfn offset gain eps most clean long few
    (subst (λ s. (i : ℕ) → i < length recording → IsWithin most (left_at recording plan s (number_at_start sfn offset) gain i)) same_start
    (subst (λ n. (i : ℕ) → i < length recording → IsWithin most (left_at recording plan first n gain i)) same_sfn near)) answer
    (subst (λ s. IsSubtraction recording plan s (number_at_start sfn offset) answer) same_start (subst (λ n. IsSubtraction recording plan first n answer) same_sfn is))

-- without load the true gain leaves the errors
left_by_gain : (recording : List Sample) (plan : CellPlan) (sfn offset : ℕ) (gain : Cpx) (eps : ℕ) → IsClean recording plan sfn offset gain eps → (i : ℕ) → i < length recording →
    IsWithin eps (left_at recording plan (start_of offset) (number_at_start sfn offset) gain i)
left_by_gain recording plan sfn offset gain eps clean i l =
    subst (λ (z : Cpx). IsWithin eps z)
    (sym (ap₂ (λ s o. minus (sample_at recording i) (times gain (sent (element plan) s (i + o)))) (same_number sfn offset clean.number clean.samples.within) (same_offset offset clean.samples.within))) (clean.samples.near i l)

pub takes_clean_off : (recording : List Sample) (plan : CellPlan) (start number : ℕ) (answer : Option Subtracted) → TakesLoadedOff recording plan start number answer → TakesCleanOff recording plan start number answer
takes_clean_off recording plan first frame answer loaded sfn offset gain eps clean same_start same_sfn =
    loaded (element plan) sfn offset gain eps eps (clean_is_loaded recording plan sfn offset gain eps clean) same_start same_sfn (small_eps eps (square gain) clean.samples.range.most clean.samples.bound)
    (subst (λ s. (i : ℕ) → i < length recording → IsWithin eps (left_at recording plan s frame gain i)) (sym same_start)
    (subst (λ n. (i : ℕ) → i < length recording → IsWithin eps (left_at recording plan (start_of offset) n gain i)) (sym same_sfn) (left_by_gain recording plan sfn offset gain eps clean)))

-- ---- laws

pub answer_takes_loaded_off : AnswerTakesLoadedOff
answer_takes_loaded_off recording plan first frame answer is taken = takes_loaded_off recording plan first frame answer is.least taken

pub answer_takes_clean_off : AnswerTakesCleanOff
answer_takes_clean_off recording plan first frame answer is taken =
    takes_clean_off recording plan first frame answer (answer_takes_loaded_off recording plan first frame answer is taken)

pub answer_is_loaded : (recording : List Sample) (plan : CellPlan) (start number : ℕ) (answer : Result (Option Subtracted) AllocError) → 57600 ≤ length recording →
    IfOk answer (IsSubtraction recording plan start number) → IfOk answer (TakesLoadedOff recording plan start number)
answer_is_loaded recording plan first frame (Ok found) long is = takes_loaded_off recording plan first frame found long is
answer_is_loaded recording plan first frame (Err wanting) long is = tt

pub answer_is_clean : (recording : List Sample) (plan : CellPlan) (start number : ℕ) (answer : Result (Option Subtracted) AllocError) →
    IfOk answer (TakesLoadedOff recording plan start number) → IfOk answer (TakesCleanOff recording plan start number)
answer_is_clean recording plan first frame (Ok found) loaded = takes_clean_off recording plan first frame found loaded
answer_is_clean recording plan first frame (Err wanting) loaded = tt
