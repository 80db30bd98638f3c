use Rattle.std.proofs.Common.{◌≡◌, ◌∙◌, inl, inr, false, nat_eq, sym, subst, arith}
use Rattle.std.proofs.lemmas.Bool.{cases_lt, ne_eqb, eq-eqb}
use Rattle.wide_grant.specs.Grants.{block_at}
use Rattle.wide_grant.proofs.Any.{none_passes, one_passes}
use Rattle.wide_grant.proofs.allocated.is_allocated.Goals as goal

pub returns-then-block_at-b : goal.returns-then-block_at-b
returns-then-block_at-b c =
    let grant = c.args.grant.now in
    sym (one_passes (λ v. nat_eq (block_at c.args.blocks grant.mapping c.args.odd v) c.args.b) grant.run.start grant.run.blocks c.loop-v.v
    c.loop-v.auto.v c.loop-v-test.true (eq-eqb _ _ (sym c.block_at.ensures ∙ c.if-block_at-b.true)))

pub loop-v-preserved : goal.loop-v-preserved
loop-v-preserved c =
    let grant = c.args.grant.now in
    λ k l m. elim (cases_lt k c.loop-v.v) [
      | inl before ↦ c.loop-v.invariant k l before
      | inr past ↦
          let same : c.loop-v.v ≡ k = omega (arith, past, m) in
          subst (λ n. nat_eq (block_at c.args.blocks grant.mapping c.args.odd n) c.args.b ≡ false) same
          (ne_eqb _ _ (λ e. c.if-block_at-b.false (c.block_at.ensures ∙ e)))
    ]

pub returns : goal.returns
returns c =
    let grant = c.args.grant.now in
    let past = c.loop-v-test.false in
    sym (none_passes (λ v. nat_eq (block_at c.args.blocks grant.mapping c.args.odd v) c.args.b) grant.run.start grant.run.blocks
    (λ k l m. c.loop-v.invariant k l (omega (arith, past, m))))
