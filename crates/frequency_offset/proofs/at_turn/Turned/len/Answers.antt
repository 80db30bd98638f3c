use Rattle.std.proofs.Common.{◌≡◌, ◌∙◌, arith, ap, sym, length}
use Rattle.frequency_offset.proofs.TurnedSamples.{turned-length}
use Rattle.frequency_offset.proofs.at_turn.Turned.len.Goals as goal

pub returns-clause-value : goal.returns-clause-value
returns-clause-value c = sym (turned-length c.self.inside.samples.now c.self.inside.turn) ∙ ap length c.self.view_is

pub returns-clause-valid : goal.returns-clause-valid
returns-clause-valid c =
    let e : length c.self.inside.samples.now ≡ length c.args.self.now = returns-clause-value c in
    let valid = c.self.invariant.valid in
    record { least = omega (arith, e, valid.least); most = omega (arith, e, valid.most) }
