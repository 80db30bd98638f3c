use Rattle.std.proofs.Common.{◌≡◌, ◌∙◌, sym, refl, arith}
use Rattle.finite.proofs.Lists.{values_below_more}
use Rattle.wide_grant.specs.Grants.{is_allocated as is_allocated_of, allocated_blocks as allocated_blocks_of}
use Rattle.wide_grant.proofs.allocated.allocated_blocks.Goals as goal

pub loop-b-preserved : goal.loop-b-preserved
loop-b-preserved c =
    c.in_ok-push.ensures.items ∙ rw (c.loop-b.invariant, c.is_allocated.ensures) (sym (values_below_more c.loop-b.b (is_allocated_of c.blocks-blocks.result c.args.grant.now c.args.odd)))

pub returns : goal.returns
unfolding allocated_blocks_of
returns c =
    let past = c.loop-b-test.false in
    let end = c.loop-b.auto.b-end in
    let last : c.loop-b.b ≡ c.blocks-blocks.result = omega (arith, past, end) in
    c.loop-b.invariant ∙ rw (last, c.blocks-blocks.ensures.value) refl
