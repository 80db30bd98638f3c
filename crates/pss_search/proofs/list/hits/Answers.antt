use Rattle.std.proofs.Common.{◌≡◌, ◌∙◌, arith, sym, ap, subst}
use Rattle.std.specs.List.{All}
use Rattle.std.proofs.lemmas.List.Elements.{All-nil}
use Rattle.pss_search.specs.Hits.{IsInSpan, IsSmallHit, hits_before}
use Rattle.pss_search.proofs.Listed.{listed_in_span}
use Rattle.pss_search.proofs.Room.{hits_before_none}
use Rattle.pss_search.proofs.list.hits.Goals as goal

pub loop-i-init : goal.loop-i-init
loop-i-init c = record {
  list = c.clear.ensures ∙ sym (hits_before_none c.args.recording.now);
  small = rw c.clear.ensures (All-nil IsSmallHit);
  recording = c.new-recent.ensures.recording;
  place = c.new-recent.ensures.place;
}

pub returns : goal.returns
returns c =
    let last : c.loop-i.i ≡ 19200 = omega arith in
    let whole = c.loop-i.invariant.list ∙ ap (hits_before c.args.recording.now) last in
    record { list = whole; span = subst (All IsInSpan) (sym whole) (listed_in_span c.args.recording.now); small = c.loop-i.invariant.small }
