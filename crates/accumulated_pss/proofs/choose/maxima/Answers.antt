use Rattle.std.proofs.Common.{◌≡◌, ◌∙◌, ◌+◌, ap, sym, arith, filter}
use Rattle.std.proofs.lemmas.List.FromFn.{filter_of_map_range_with_len_more}
use Rattle.finite.specs.Lists.{values_below}
use Rattle.accumulated_pss.specs.Tests.{is_maximum}
use Rattle.accumulated_pss.specs.Maxima.{maxima}
use Rattle.accumulated_pss.proofs.choose.maxima.Goals as goal

pub loop-i-preserved : goal.loop-i-preserved
loop-i-preserved c =
    let before = c.loop-i.invariant in
    let test = c.is_maximum.ensures in
    c.in_ok-add.ensures ∙ rw (before, test) (sym (filter_of_map_range_with_len_more (is_maximum c.args.row.now) (λ i. 137 + i) 0 c.loop-i.i c.loop-i.i (omega arith)))

pub returns : goal.returns
unfolding maxima
returns c =
    let last : c.loop-i.i ≡ 9600 = omega arith in
    c.loop-i.invariant ∙ ap (λ n. filter (is_maximum c.args.row.now) (values_below n (λ i. 137 + i))) last
