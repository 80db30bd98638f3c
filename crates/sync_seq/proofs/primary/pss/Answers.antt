use Rattle.std.proofs.Common.{arith, ◌≡◌, ◌∙◌, length-set}
use Rattle.std.proofs.lemmas.List.FromFn.{fill_by_all}
use Rattle.std.proofs.lemmas.List.Edits.{fill_by_more}
use Rattle.cs_num.specs.Complex.{nothing}
use Rattle.sync_seq.specs.Primary.{pss_at, pss_list}
use Rattle.sync_seq.proofs.primary.pss.Goals as goal

pub loop-n-preserved : goal.loop-n-preserved
loop-n-preserved c = record {
  whole = length-set c.loop-n.values c.loop-n.n _ ∙ c.loop-n.invariant.whole;
  each = rw c.pss_value.ensures (fill_by_more (pss_at c.args.n2) c.loop-n.values c.loop-n.n nothing (omega arith) c.loop-n.invariant.each);
}

pub returns : goal.returns
unfolding pss_list
returns c =
    let last : c.loop-n.n ≡ 62 = omega arith in
    fill_by_all (pss_at c.args.n2) c.loop-n.values 62 nothing c.loop-n.invariant.whole (λ k l. c.loop-n.invariant.each k (omega arith))
