use Rattle.std.proofs.Common.{◌≡◌, ◌∙◌, inl, inr, false, nat_eq, length, get_or, sym, ap, subst, arith}
use Rattle.std.proofs.lemmas.Bool.{cases_lt, ne_eqb}
use Rattle.finite.proofs.Lists.{values_below-length, values_below_at}
use Rattle.grid_map.specs.Control.{quadruplet_at}
use Rattle.grid_map.proofs.Carried.{some_group}
use Rattle.wide_grid.proofs.Carried.{found}
use Rattle.wide_grid.proofs.pdcch.quadruplet_group.Goals as goal

pub bounds-order-r : goal.bounds-order-r
bounds-order-r c =
    let count = length c.args.groups.now in
    let size : length c.args.order.now ≡ count = ap length c.requires.order ∙ values_below-length count (quadruplet_at c.args.cell.now.identity count) in
    omega (arith, size)

pub returns-then-order-r : goal.returns-then-order-r
returns-then-order-r c =
    let count = length c.args.groups.now in
    let at = ap (λ order. get_or order c.loop-r.r 0) c.requires.order ∙ values_below_at (quadruplet_at c.args.cell.now.identity count) count c.loop-r.r 0 c.loop-r-test.true in
    found c.args.cell.now c.args.groups.now c.args.q c.loop-r.r c.loop-r-test.true c.loop-r.invariant (sym at ∙ c.if-order-r.true)

pub loop-r-preserved : goal.loop-r-preserved
loop-r-preserved c =
    let count = length c.args.groups.now in
    let at = ap (λ order. get_or order c.loop-r.r 0) c.requires.order ∙ values_below_at (quadruplet_at c.args.cell.now.identity count) count c.loop-r.r 0 c.loop-r-test.true in
    λ k l. elim (cases_lt k c.loop-r.r) [
      | inl before ↦ c.loop-r.invariant k before
      | inr past ↦
          let same : c.loop-r.r ≡ k = omega (arith, past, l) in
          subst (λ n. nat_eq (quadruplet_at c.args.cell.now.identity count n) c.args.q ≡ false) same
          (ne_eqb _ _ (λ e. c.if-order-r.false (at ∙ e)))
    ]

pub unreachable-requires : goal.unreachable-requires
unreachable-requires c = some_group c.args.cell.now.identity (length c.args.groups.now) c.args.q c.loop-r.r c.requires.q (omega arith) c.loop-r.invariant
