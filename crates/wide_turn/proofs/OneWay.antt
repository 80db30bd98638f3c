-- A wide recording is corrected in one way.
use Rattle.std.proofs.Common.{ap, sym, ◌∙◌, refl}
use Rattle.halving.specs.Wide.{narrowed}
use Rattle.frequency_offset.specs.Turned.{turned_at as turned_narrow_at}
use Rattle.frequency_offset.specs.Estimation.{turn_of}
use Rattle.frequency_offset.proofs.OneEstimate.{has_one_estimate}
use Rattle.wide_turn.specs.Turned.{front, turned, turned_at}
use Rattle.wide_turn.specs.Laws.{IsOneApplied, IsTurnedAlike}

pub one_applied : IsOneApplied
one_applied rate samples first second p q =
    p.samples_are ∙ ap (λ estimate. turned rate samples (turn_of estimate))
    (has_one_estimate (narrowed (front rate samples)) p.estimate q.estimate p.is_estimated q.is_estimated) ∙ sym q.samples_are

pub turned_alike : IsTurnedAlike
unfolding turned_at turned_narrow_at
turned_alike samples m = refl
