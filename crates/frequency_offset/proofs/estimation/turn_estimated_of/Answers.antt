use Rattle.std.proofs.Common.{◌∙◌, rules, ap, refl, sym, length, take, w16, FitsSigned}
use Rattle.std.proofs.lemmas.Int.{to_z-of_z}
use Rattle.explain.specs.Deciding.{deciding_length}
use Rattle.frequency_offset.specs.Turned.{turned}
use Rattle.frequency_offset.proofs.Fronts.{cells_of_front}
use Rattle.frequency_offset.proofs.estimation.turn_estimated_of.Goals as goal

pub returns : goal.returns
returns c =
    let f : FitsSigned w16 c.args.candidate.now.turn = search rules in
    let back = to_z-of_z w16 c.args.candidate.now.turn f in
    let front = c.in_ok-front.ensures ∙ ap (take deciding_length) (c.turned.ensures ∙ ap (turned c.args.centred.now) back) in
    record {
      turn = back;
      hits = refl;
      cells = cells_of_front (turned c.args.centred.now c.args.candidate.now.turn) _ (length c.slice.result.now) front
          (record { list = c.explain.new.list; explained = c.explain.ensures.list; many = ap length (sym c.slice.ensures) });
    }
