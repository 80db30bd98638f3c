-- A recording has one list over half-frames, which the samples that are used decide.
use Rattle.std.proofs.Common.{◌≡◌, ◌∙◌, ℕ, ◌≤◌, List, length, take, arith, ap, sym, subst}
use Rattle.std.proofs.lemmas.List.{length-take, take-take}
use Rattle.cs_num.specs.declared.Sample.{Sample}
use Rattle.sample_file.specs.Recording.{AgreeBefore}
use Rattle.accumulated_pss.specs.Sums.{covered, half_frames_in}
use Rattle.accumulated_list.specs.declared.cell.DetectedCell.{DetectedCell}
use Rattle.accumulated_list.specs.Cells.{IsList}
use Rattle.accumulated_list.proofs.Agree.{covered_samples_decide_list}
use Rattle.accumulated_list.proofs.Ordered.{only_one_list}
use Rattle.lte_args.specs.declared.form.Output.{Output}
use Rattle.lte_args.specs.declared.form.Span.{Span}
use Rattle.lte_args.specs.declared.form.Span.TheVariants.{First, All}
use Rattle.lte_top.specs.Deep.{FirstFramesDecideDeep, IsDeep, IsDeepText, deep_text, used_length}

-- the samples that the half-frames of `count` samples cover
covered_below : (most count : ℕ) → 264 ≤ most → count ≤ most → covered (half_frames_in count) ≤ most
covered_below most count some few = omega arith

used_above : (span : Span) → 264 ≤ used_length span
used_above First = omega arith
used_above All = omega arith

-- the list over the half-frames of the samples used is the same in the recording and in these samples
pub used_list : (span : Span) (samples : List Sample) (cells : List DetectedCell) → IsList samples (half_frames_in (length (take (used_length span) samples))) cells →
    IsList (take (used_length span) samples) (half_frames_in (length (take (used_length span) samples))) cells
used_list span samples cells is =
    let most = used_length span in
    let used = take most samples in
    let few : length used ≤ most = omega (arith, length-take most samples) in
    let halves = half_frames_in (length used) in
    let agree : AgreeBefore (covered halves) samples used = sym (take-take (covered halves) most samples (covered_below most (length used) (used_above span) few)) in
    covered_samples_decide_list halves samples used agree cells is

pub one_deep : (span : Span) (output : Output) (samples : List Sample) (first second : List ℕ) → IsDeep span output samples first → IsDeep span output samples second → first ≡ second
one_deep span output samples first second a b =
    let used = take (used_length span) samples in
    let halves = half_frames_in (length used) in
    a.text_is ∙ ap (deep_text output halves) (only_one_list used halves a.cells b.cells a.is_list b.is_list) ∙ sym b.text_is

-- the list of the samples that are kept is the recording's list
pub kept_deep : (span : Span) (output : Output) (samples : List Sample) (text : List ℕ) → IsDeep span output (take (used_length span) samples) text → IsDeep span output samples text
kept_deep span output samples text is =
    subst (λ (used : List Sample). IsDeepText output used text) (take-take (used_length span) (used_length span) samples (omega arith)) is

pub first_frames_decide_deep : FirstFramesDecideDeep
first_frames_decide_deep output first second text agree is = subst (λ (used : List Sample). IsDeepText output used text) agree is
