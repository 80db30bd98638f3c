use Rattle.std.proofs.Common.{◌≡◌, ◌≤◌, take}
use Rattle.wide_block.specs.Sums.{total}
use Rattle.wide_list.specs.Together.{like_offers}
use Rattle.wide_list.proofs.together.add_all.Given as goal

abbrev pub invariant-loop-frame : goal.invariant-loop-frame
invariant-loop-frame l = record {
  count : l.sums.count ≤ l.frame-index;
  sums : l.sums.sums ≡ total (like_offers (take l.frame-index l.frames) l.period l.grant);
}
