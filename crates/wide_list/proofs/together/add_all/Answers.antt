use Rattle.std.proofs.Common.{◌∙◌, ap, ap₂, sym, arith}
use Rattle.wide_list.specs.Together.{like_in, with_offer}
use Rattle.wide_list.proofs.Sums.{total_more}
use Rattle.wide_list.proofs.together.add_all.Goals as goal

pub loop-frame-preserved : goal.loop-frame-preserved
loop-frame-preserved c =
    let before = c.loop-frame.invariant in
    let count = c.add_like.ensures.count in
    let more = before.count in
    record {
      count = omega (arith, count, more);
      sums = c.add_like.ensures.sums ∙ ap₂ with_offer before.sums (ap (like_in c.args.period c.args.grant.now) c.frame-item.is)
          ∙ sym (total_more c.args.frames.now c.loop-frame.frame-index c.args.period c.args.grant.now c.frame-item.result c.loop-frame-test.true);
    }
