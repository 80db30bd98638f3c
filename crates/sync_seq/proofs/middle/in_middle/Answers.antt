use Rattle.std.proofs.Common.{arith, ◌≡◌, ◌∙◌, length-set}
use Rattle.std.proofs.lemmas.List.FromFn.{fill_by_all}
use Rattle.std.proofs.lemmas.List.Edits.{fill_by_more}
use Rattle.cs_num.specs.Complex.{nothing, value_at}
use Rattle.sync_seq.specs.Middle.{in_middle}
use Rattle.sync_seq.proofs.middle.in_middle.Goals as goal

pub loop-k-preserved : goal.loop-k-preserved
loop-k-preserved c = record {
  whole = length-set c.loop-k.grid c.loop-k.k _ ∙ c.loop-k.invariant.whole;
  each = rw c.middle_value.ensures (fill_by_more (in_middle (value_at c.args.values.now)) c.loop-k.grid c.loop-k.k nothing (omega arith) c.loop-k.invariant.each);
}

pub returns : goal.returns
returns c =
    let last : c.loop-k.k ≡ 72 = omega arith in
    fill_by_all (in_middle (value_at c.args.values.now)) c.loop-k.grid 72 nothing c.loop-k.invariant.whole (λ k l. c.loop-k.invariant.each k (omega arith))
