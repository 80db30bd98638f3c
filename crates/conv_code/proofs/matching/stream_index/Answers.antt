use Rattle.std.proofs.Common.{◌≡◌, ◌-◌, ◌*◌, ◌<◌, ◌≤◌, List, suc, length, get_or, ap, ◌∙◌, arith}
use Rattle.sub_block.specs.declared.Code.TheVariants.{Convolutional}
use Rattle.sub_block.specs.declared.Item.{Item}
use Rattle.sub_block.specs.Items.{item, cells_read}
use Rattle.sub_block.proofs.Cells.{length-cells_read}
use Rattle.sub_block.proofs.Search.{left_first, left_null, left_bit, left_found, left_none}
use Rattle.conv_code.proofs.Streams.{cell_is, count_of_stream, order_at}
use Rattle.conv_code.proofs.matching.stream_index.Goals as goal
use Rattle.conv_code.proofs.matching.stream_index.Goals.{then-cell-nulls+else-left-eq0, else-cell-nulls}

pub loop-m-init : goal.loop-m-init
loop-m-init c =
    let r = c.div_ceil-rows.result in
    let count = count_of_stream c.args.n r (omega arith) in
    left_first (32 * r - c.args.n) (cells_read Convolutional r 0) c.args.p (let below = c.requires.bits in omega (arith, count, below))

pub returns-then-left-eq0-clause-index : goal.returns-then-left-eq0-clause-index
returns-then-left-eq0-clause-index c =
    let r = c.div_ceil-rows.result in
    let cells : List Item = cells_read Convolutional r 0 in
    let count = length-cells_read Convolutional r 0 in
    let is = cell_is r c.loop-m.m c.cell_at-cell.result c.loop-m-test.true c.cell_at-cell.ensures.cell in
    let index : (get_or cells c.loop-m.m (item 0 0)).index ≡ c.cell_at-cell.result = ap (λ (p : Item). p.index) is in
    let bit : 32 * r - c.args.n ≤ (get_or cells c.loop-m.m (item 0 0)).index = omega (arith, index, c.if-cell-nulls.true) in
    let inside : c.loop-m.m < length cells = omega (arith, count, c.loop-m-test.true) in
    let found = left_found (32 * r - c.args.n) cells c.args.p c.loop-m.m inside bit (rw c.if-left-eq0.true at c.loop-m.invariant) in
    order_at c.args.n r c.args.p (c.cell_at-cell.result - (32 * r - c.args.n)) (omega arith) c.requires.bits
    (found ∙ ap (λ (p : Item). item p.stream (p.index - (32 * r - c.args.n))) is)

pub loop-m-preserved : goal.loop-m-preserved
loop-m-preserved c =
    let r = c.div_ceil-rows.result in
    let cells : List Item = cells_read Convolutional r 0 in
    let count = length-cells_read Convolutional r 0 in
    let is = cell_is r c.loop-m.m c.cell_at-cell.result c.loop-m-test.true c.cell_at-cell.ensures.cell in
    let index : (get_or cells c.loop-m.m (item 0 0)).index ≡ c.cell_at-cell.result = ap (λ (p : Item). p.index) is in
    let inside : c.loop-m.m < length cells = omega (arith, count, c.loop-m-test.true) in
    elim c.if-cell-nulls.branch [
      | then-cell-nulls+else-left-eq0 w ↦
          let e : c.loop-m.left ≡ suc c.if-cell-nulls.left = omega arith in
          left_bit (32 * r - c.args.n) cells c.args.p c.loop-m.m c.if-cell-nulls.left inside (let h = w.if-cell-nulls in omega (arith, index, h)) (rw e at c.loop-m.invariant)
      | else-cell-nulls w ↦
          rw w.left-is (left_null (32 * r - c.args.n) cells c.args.p c.loop-m.m c.loop-m.left inside (let h = w.if-cell-nulls in omega (arith, index, h)) c.loop-m.invariant)
    ]

pub unreachable-requires : goal.unreachable-requires
unreachable-requires c =
    let r = c.div_ceil-rows.result in
    let count = length-cells_read Convolutional r 0 in
    left_none (32 * r - c.args.n) (cells_read Convolutional r 0) c.args.p c.loop-m.m c.loop-m.left (omega (arith, count, c.loop-m-test.false)) c.loop-m.invariant
