use Rattle.std.proofs.Common.{◌∙◌, ◌+◌, ◌++◌, ◌∷◌, [], ℕ, List, ap, ap₂, sym}
use Rattle.finite.proofs.Lists.{values_below_more}
use Rattle.soft_bits.specs.Kept.{SeenLine, seen_line, slot_of}
use Rattle.soft_bits.specs.Lines.{line_of}
use Rattle.soft_bits.specs.Soft.{SeenSlot}
use Rattle.soft_bits.proofs.slot.lines_of.Goals as goal

pub loop-port-preserved : goal.loop-port-preserved
loop-port-preserved c =
    let slot : SeenSlot = slot_of c.args.seen.now in
    record {
      so_far =
          c.push.ensures.items
          ∙ ap₂ (λ (lines : List SeenLine) (one : SeenLine). lines ++ (one ∷ [])) c.loop-port.invariant.so_far c.pilots_of.ensures
          ∙ sym (values_below_more c.loop-port.port (λ (port : ℕ). seen_line (line_of c.args.seen.now.carrier port slot) slot));
      count = c.push.ensures.len ∙ ap (λ (n : ℕ). n + 1) c.loop-port.invariant.count;
    }
