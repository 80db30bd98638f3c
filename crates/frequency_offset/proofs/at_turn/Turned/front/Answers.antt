use Rattle.std.proofs.Common.{◌≡◌, length, min, arith}
use Rattle.explain.specs.Deciding.{deciding_length}
use Rattle.frequency_offset.proofs.Fronts.{front_made}
use Rattle.frequency_offset.proofs.at_turn.Turned.front.Goals as goal

pub returns : goal.returns
returns c =
    let few : c.min-count.result ≡ min deciding_length (length c.args.self.now) = omega (arith, c.min-count.ensures, c.len.ensures.value) in
    front_made c.args.self.now c.min-count.result deciding_length c.with_first.result few c.with_first.ensures.length c.with_first.ensures.value
