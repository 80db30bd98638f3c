use Rattle.std.proofs.Common.{◌≡◌, ℕ, ap, arith, [], ◌∷◌, slice_index_or}
use Rattle.std.proofs.lemmas.Bool.{leb-false}
use Rattle.pss_search.specs.Correlation.{peak}
use Rattle.pss_search.proofs.NoHit.{IsFaint, no_hits}
use Rattle.pss_search.proofs.choose.may_be_hit.Goals as goal

pub returns : goal.returns
returns c = λ e.
    let recording = c.args.recent.now.recording in
    let row = c.row-row.ensures in
    let peak_is : (n2 : ℕ) → slice_index_or {A = ℕ} c.row-row.result.peaks n2 0 ≡ slice_index_or {A = ℕ} (peak recording 0 c.args.t ∷ peak recording 1 c.args.t ∷ peak recording 2 c.args.t ∷ []) n2 0 =
    λ n2. ap (λ peaks. slice_index_or {A = ℕ} peaks n2 0) row.peaks in
    let p0 : slice_index_or {A = ℕ} c.row-row.result.peaks 0 0 ≡ peak recording 0 c.args.t = peak_is 0 in
    let p1 : slice_index_or {A = ℕ} c.row-row.result.peaks 1 0 ≡ peak recording 1 c.args.t = peak_is 1 in
    let p2 : slice_index_or {A = ℕ} c.row-row.result.peaks 2 0 ≡ peak recording 2 c.args.t = peak_is 2 in
    let first : IsFaint recording c.args.t 0 = omega (arith, c.if-least-first.false, p0, row.energy) in
    let second : IsFaint recording c.args.t 1 = omega (arith, c.if-least-second.false, p1, row.energy) in
    let third : IsFaint recording c.args.t 2 = omega (arith, leb-false _ _ e, p2, row.energy) in
    no_hits recording c.args.t first second third
