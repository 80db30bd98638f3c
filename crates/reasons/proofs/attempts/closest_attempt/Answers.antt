use Rattle.std.proofs.Common.{◌≡◌, ◌∙◌, ◌*◌, ℕ, ℤ, List, [], ◌∷◌, subst}
use Rattle.std.specs.List.{flat_map}
use Rattle.lte_types.specs.Frames.{frames_from}
use Rattle.pbch.specs.Values.{summed_values}
use Rattle.explain.specs.Receiver.{sums_by}
use Rattle.reasons.specs.declared.reason.Attempt.{Attempt}
use Rattle.reasons.specs.Attempt.{IsAttempt}
use Rattle.reasons.proofs.Closest.{first_is_closest, closest_more}
use Rattle.reasons.proofs.Steps.{one_frame}
use Rattle.reasons.proofs.attempts.closest_attempt.Goals as goal

pub returns : goal.returns
returns g c =
    let receiver = g.F.FrameReader.receiver in
    let recording = c.args.recording.now in
    let place = c.args.place in
    let values : ℕ → List (List ℤ) = λ phase. sums_by receiver recording place (frames_from 1 0 phase) in
    let frame = c.received-frame.result in
    let size : c.len-size.result ≡ receiver.count = c.len-size.ensures.value ∙ c.received-frame.ensures.length in
    let at : (id phase : ℕ) (a : Attempt) → id ≡ place.id →
    IsAttempt (summed_values id (c.len-size.result * phase) (flat_map (λ values. values) (frame ∷ []))) phase a → IsAttempt (values phase) phase a =
    λ id phase a named is. subst (λ (sums : List (List ℤ)). IsAttempt sums phase a) (one_frame receiver recording place frame id c.len-size.result phase named size c.received-frame.ensures.values) is in
    let first = first_is_closest values c.attempt_at-first.result (at c.id.result 0 c.attempt_at-first.result c.id.ensures c.attempt_at-first.ensures) in
    let second = closest_more values 1 c.attempt_at-first.result c.attempt_at-second.result c.closer.result (c.closer.ensures values) first
    (at c.id-2.result 1 c.attempt_at-second.result c.id-2.ensures c.attempt_at-second.ensures) in
    let third = closest_more values 2 c.closer.result c.attempt_at-third.result c.closer-2.result (c.closer-2.ensures values) second
    (at c.id-3.result 2 c.attempt_at-third.result c.id-3.ensures c.attempt_at-third.ensures) in
    closest_more values 3 c.closer-2.result c.attempt_at-fourth.result c.closer-3.result (c.closer-3.ensures values) third
    (at c.id-4.result 3 c.attempt_at-fourth.result c.id-4.ensures c.attempt_at-fourth.ensures)
