use Rattle.std.proofs.Common.{All, ◌^◌, arith}
use Rattle.std.proofs.lemmas.List.Elements.{All-get_or}
use Rattle.cs_num.specs.Complex.{IsWithin}
use Rattle.soft_bits.proofs.Magnitudes.{value_at-within}
use Rattle.soft_bits.proofs.slot.PortSlot.seen.Goals as goal

pub returns-clause-small : goal.returns-clause-small
returns-clause-small g c =
    let whole = c.self.told in
    let inside = c.requires.symbol in
    rw c.at.ensures (value_at-within _ c.args.k (All-get_or (All (IsWithin (2 ^ 25))) c.self.inside.symbols c.args.symbol _ (omega (arith, whole, inside)) c.self.invariant.small))
