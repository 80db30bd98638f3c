use Rattle.std.proofs.Common.{◌≡◌, ◌∙◌, ◌+◌, ◌*◌, ◌≤◌, ℕ, List, arith, ap, ap₂, sym, subst, get_or}
use Rattle.pss_search.specs.declared.measure.Metric.{Metric}
use Rattle.pss_search.specs.Correlation.{wave_power}
use Rattle.pss_search.proofs.Peaks.{peak_within}
use Rattle.accumulated_pss.specs.Sums.{ratio_of, ratio_at, row_in}
use Rattle.accumulated_pss.specs.Steps.{added_to}
use Rattle.accumulated_pss.proofs.Rows.{three_same}
use Rattle.accumulated_pss.proofs.sums.Accumulated.add_next.Goals as goal

abbrev none : Metric
none = record { peak = 0; energy = 0 }

-- the peak of metric n2 is at most its energy times the power
abbrev IsSmall : ℕ → List Metric → Type 0
IsSmall n2 metrics = (get_or metrics n2 none).peak ≤ (get_or metrics n2 none).energy * wave_power n2

abbrev ratio_by : ℕ → List Metric → ℕ
ratio_by n2 metrics = ratio_of (get_or metrics n2 none).peak (get_or metrics n2 none).energy (wave_power n2)

pub ratio-requires-clause-peak : goal.ratio-requires-clause-peak
ratio-requires-clause-peak c =
    subst (IsSmall 0) (sym c.in-Some.ensures.value) (peak_within c.args.sweep.now.recording 0 c.args.sweep.now.place)

pub ratio-requires-in-Some-clause-peak : goal.ratio-requires-in-Some-clause-peak
ratio-requires-in-Some-clause-peak c =
    subst (IsSmall 1) (sym c.in-Some.ensures.value) (peak_within c.args.sweep.now.recording 1 c.args.sweep.now.place)

pub ratio-requires-in-Some-2-clause-peak : goal.ratio-requires-in-Some-2-clause-peak
ratio-requires-in-Some-2-clause-peak c =
    subst (IsSmall 2) (sym c.in-Some.ensures.value) (peak_within c.args.sweep.now.recording 2 c.args.sweep.now.place)

pub add-requires-clause-room : goal.add-requires-clause-room
add-requires-clause-room c =
    let room = c.requires.room 0 (omega arith) in
    let is = ap (λ (rows : List (List ℕ)). get_or (row_in rows 0) c.args.i 0) c.self.view_is in
    omega (arith, room, is, c.ratio.ensures.below)

pub add-requires-in-Some-clause-room : goal.add-requires-in-Some-clause-room
add-requires-in-Some-clause-room c =
    let room = c.requires.room 1 (omega arith) in
    let is = ap (λ (rows : List (List ℕ)). get_or (row_in rows 1) c.args.i 0) c.self.view_is in
    omega (arith, room, is, c.ratio-in-Some.ensures.below)

pub add-requires-in-Some-2-clause-room : goal.add-requires-in-Some-2-clause-room
add-requires-in-Some-2-clause-room c =
    let room = c.requires.room 2 (omega arith) in
    let is = ap (λ (rows : List (List ℕ)). get_or (row_in rows 2) c.args.i 0) c.self.view_is in
    omega (arith, room, is, c.ratio-in-Some-2.ensures.below)

pub returns-in-Some-clause-rows : goal.returns-in-Some-clause-rows
unfolding ratio_at
returns-in-Some-clause-rows c =
    let recording = c.args.sweep.now.recording in
    let metrics = c.in-Some.ensures.value in
    let r0 : c.ratio.result ≡ ratio_at recording 0 (137 + c.args.i) = c.ratio.ensures.value ∙ ap (ratio_by 0) metrics ∙ ap (ratio_at recording 0) c.requires.place in
    let r1 : c.ratio-in-Some.result ≡ ratio_at recording 1 (137 + c.args.i) = c.ratio-in-Some.ensures.value ∙ ap (ratio_by 1) metrics ∙ ap (ratio_at recording 1) c.requires.place in
    let r2 : c.ratio-in-Some-2.result ≡ ratio_at recording 2 (137 + c.args.i) = c.ratio-in-Some-2.ensures.value ∙ ap (ratio_by 2) metrics ∙ ap (ratio_at recording 2) c.requires.place in
    three_same _ _ _ _ _ _
    (c.add.ensures ∙ ap₂ (λ (rows : List (List ℕ)) (r : ℕ). added_to (row_in rows 0) c.args.i r) c.self.view_is r0)
    (c.add-in-Some.ensures ∙ ap₂ (λ (rows : List (List ℕ)) (r : ℕ). added_to (row_in rows 1) c.args.i r) c.self.view_is r1)
    (c.add-in-Some-2.ensures ∙ ap₂ (λ (rows : List (List ℕ)) (r : ℕ). added_to (row_in rows 2) c.args.i r) c.self.view_is r2)
