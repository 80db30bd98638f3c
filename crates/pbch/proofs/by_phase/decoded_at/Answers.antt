use Rattle.std.proofs.Common.{◌≤◌, pos, nat_abs, arith}
use Rattle.std.proofs.lemmas.List.Elements.{All-replicate}
use Rattle.finite.specs.Sizes.{AllWithin}
use Rattle.pbch.proofs.by_phase.decoded_at.Goals as goal

pub new-requires : goal.new-requires
new-requires c = All-replicate (AllWithin 2032) 40 _ (All-replicate (λ value. nat_abs value ≤ 2032) 3 (pos 0) (omega arith))
