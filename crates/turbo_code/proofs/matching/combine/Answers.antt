use Rattle.std.specs.Prelude.{◌*◌, ◌^◌}
use Rattle.std.proofs.Common.{◌+◌, subst, sym, arith, refl, ap, ◌∙◌}
use Rattle.std.proofs.Math.Nat.{zero-mod}
use Rattle.finite.specs.Sizes.{RowsWithin}
use Rattle.finite.proofs.Tables.{sums_none, sums_more}
use Rattle.sub_block.specs.declared.Item.{Item}
use Rattle.turbo_code.specs.Reading.{item_of}
use Rattle.turbo_code.specs.Walk.{Standing, standing}
use Rattle.turbo_code.proofs.Walking.{item_here, one_more}
use Rattle.turbo_code.proofs.TableFacts.{is_small, row_size}
use Rattle.turbo_code.proofs.Magnitudes.{magnitudes}
use Rattle.turbo_code.proofs.Sums.{sums_all}
use Rattle.turbo_code.proofs.matching.combine.Goals as goal

pub loop-value-init : goal.loop-value-init
loop-value-init c = record {
  sums = sums_none 3 1028 (2 ^ 15) _ _ c.args.values.now;
  at = c.new-walk.ensures ∙ ap (standing c.args.row.k c.args.rv) (sym (zero-mod (3 * (c.args.row.k + 4))));
}

pub new-walk-requires-clause-size : goal.new-walk-requires-clause-size
new-walk-requires-clause-size c = row_size c.args.row c.requires.row

pub add_at-requires-clause-index : goal.add_at-requires-clause-index
add_at-requires-clause-index c =
    let high = (is_small c.args.row c.requires.row).high in
    let inside = c.step.ensures.inside in
    let k = ap (λ (s : Standing). s.k) c.loop-value.invariant.at in
    omega (arith, high, inside, k)

pub add_at-requires-clause-room : goal.add_at-requires-clause-room
add_at-requires-clause-room c =
    let below = add_at-requires-clause-index c in
    let small = c.loop-value.invariant.sums.small c.step.result.stream c.step.result.index c.step.ensures.below_three below in
    let count = c.requires.count in
    omega (arith, small, count, c.loop-value-test.true)

pub loop-value-preserved : goal.loop-value-preserved
loop-value-preserved c =
    let k = c.args.row.k in
    let at = c.loop-value.invariant.at in
    let item = c.step.ensures.item ∙ item_here k c.args.rv c.loop-value.value-index c.loop-value.walk (row_size c.args.row c.requires.row) at in
    let high = (is_small c.args.row c.requires.row).high in
    let inside = c.step.ensures.inside in
    let same = ap (λ (s : Standing). s.k) at in
    record {
      sums =
          rw c.add_at.ensures.sum
          (sums_more 3 1028 (2 ^ 15) (λ i. (item_of c.args.row.k c.args.rv i).stream) (λ i. (item_of c.args.row.k c.args.rv i).index) c.args.values.now c.loop-value.value-index c.loop-value.d _ _ _
          (ap (λ (p : Item). p.stream) item) (ap (λ (p : Item). p.index) item) c.step.ensures.below_three (omega (arith, high, inside, same)) refl c.add_at.ensures.magnitude c.loop-value.invariant.sums);
      at = c.step.ensures.next ∙ one_more k c.args.rv c.loop-value.value-index c.loop-value.walk at;
    }

pub returns-clause-d : goal.returns-clause-d
returns-clause-d c = sums_all c.args.row.k c.args.rv c.args.values.now c.loop-value.value-index c.loop-value.d (omega arith) c.loop-value.invariant.sums

pub returns-clause-magnitudes : goal.returns-clause-magnitudes
returns-clause-magnitudes c bound rounds small few =
    let is = sums_all c.args.row.k c.args.rv c.args.values.now c.loop-value.value-index c.loop-value.d (omega arith) c.loop-value.invariant.sums in
    subst (RowsWithin (rounds * bound)) (sym is)
    (magnitudes c.args.row.k c.args.rv (row_size c.args.row c.requires.row) c.requires.version c.args.values.now bound rounds small few)
