use Rattle.std.proofs.Common.{refl, sym, subst}
use Rattle.std.specs.Prelude.{Bool, List}
use Rattle.evidence.specs.Blocks.{IsSystemBlock}
use Rattle.evidence.proofs.support.support_of.Goals as goal

pub returns : goal.returns
returns g c = record {
  measured = c.measured_and_slot-measured.ensures.measured;
  slot = c.measured_and_slot-measured.ensures.slot;
  master = refl;
  block = subst (λ (bits : List Bool). IsSystemBlock g.receiver c.args.recording.now c.args.entry.now bits) (sym c.in_ok-block.ensures) c.requires.1.1.block;
}
