use Rattle.std.proofs.Common.{◌≡◌, ◌-◌, ◌*◌, ◌<◌, ◌≤◌, ℕ, List, length, length-set, get_or, arith, sym, ap, ◌∙◌}
use Rattle.std.proofs.lemmas.List.{ext_get_or, length-replicate}
use Rattle.sub_block.specs.declared.Code.TheVariants.{Convolutional}
use Rattle.sub_block.specs.declared.Item.{Item}
use Rattle.sub_block.specs.Items.{item, cells_read}
use Rattle.std.proofs.lemmas.List.Edits.{fill_by_more}
use Rattle.sub_block.proofs.Cells.{length-cells_read}
use Rattle.sub_block.proofs.Search.{IsLeft, left_found}
use Rattle.sub_block.specs.Matrix.{cell as cell_of}
use Rattle.conv_code.specs.Reading.{stream_order}
use Rattle.conv_code.proofs.Orders.{is_order}
use Rattle.conv_code.proofs.Streams.{cell_is, count_of_stream, order_at}
use Rattle.conv_code.proofs.Walk.{walk_first, walk_null, walk_room, walk_bit, walk_end}
use Rattle.conv_code.proofs.matching.stream_indices.Goals as goal
use Rattle.conv_code.proofs.matching.stream_indices.Goals.{then-place-nulls, else-place-nulls}

pub loop-m-init : goal.loop-m-init
loop-m-init g c = record {
  whole = length-replicate g.row.N 0;
  walked = let r = c.div_ceil-rows.result in walk_first (32 * r - g.row.N) g.row.N (cells_read Convolutional r 0) (count_of_stream g.row.N r (omega arith));
  each = λ k below. absurd (omega (arith, below));
}

-- cell m is the one that was read
index_is : (r m cell : ℕ) → m < 32 * r → cell ≡ cell_of Convolutional r m → (get_or (cells_read Convolutional r 0) m (item 0 0)).index ≡ cell
index_is r m cell inside is = ap (λ (p : Item). p.index) (cell_is r m cell inside is)

cell_inside : (r m : ℕ) → m < 32 * r → m < length (cells_read Convolutional r 0)
cell_inside r m inside = let count = length-cells_read Convolutional r 0 in omega (arith, count, inside)

pub bounds-order-p : goal.bounds-order-p
bounds-order-p g c =
    let r = c.div_ceil-rows.result in
    let m = c.loop-m.m in
    let index = index_is r m c.cell_at-place.result c.loop-m-test.true c.cell_at-place.ensures.cell in
    walk_room (32 * r - g.row.N) g.row.N (cells_read Convolutional r 0) c.loop-m.p m (cell_inside r m c.loop-m-test.true)
    (omega (arith, index, c.if-place-nulls.true)) c.loop-m.invariant.walked

pub loop-m-preserved : goal.loop-m-preserved
loop-m-preserved g c =
    let n : ℕ = g.row.N in
    let r = c.div_ceil-rows.result in
    let m = c.loop-m.m in
    let p = c.loop-m.p in
    let nulls = 32 * r - n in
    let cells : List Item = cells_read Convolutional r 0 in
    let known = c.loop-m.invariant in
    let inside = cell_inside r m c.loop-m-test.true in
    let is = cell_is r m c.cell_at-place.result c.loop-m-test.true c.cell_at-place.ensures.cell in
    let index : (get_or cells m (item 0 0)).index ≡ c.cell_at-place.result = ap (λ (p : Item). p.index) is in
    elim c.if-place-nulls.branch [
      | then-place-nulls w ↦
          let bit : nulls ≤ (get_or cells m (item 0 0)).index = let h = w.if-place-nulls in omega (arith, index, h) in
          let room : p < n = walk_room nulls n cells p m inside bit known.walked in
          let first : IsLeft nulls cells p m 0 = let e : p - p ≡ 0 = omega arith in rw e at (known.walked.ahead p (omega arith) room) in
          let found = left_found nulls cells p m inside bit first in
          let value = order_at n r p (c.cell_at-place.result - nulls) (omega arith) room
          (found ∙ ap (λ (p : Item). item p.stream (p.index - nulls)) is) in
          rw (w.order-is, w.p-is) (record {
            whole = length-set c.loop-m.order p _ ∙ known.whole;
            walked = walk_bit nulls n cells p m inside bit known.walked;
            each = rw value (fill_by_more (λ k. get_or (stream_order n) k 0) c.loop-m.order p 0 (omega (arith, known.whole, room)) known.each);
          })
      | else-place-nulls w ↦
          let null : (get_or cells m (item 0 0)).index < nulls = let h = w.if-place-nulls in omega (arith, index, h) in
          rw (w.order-is, w.p-is) (record {
            whole = known.whole;
            walked = walk_null nulls n cells p m inside null known.walked;
            each = known.each;
          })
    ]

pub returns : goal.returns
returns g c =
    let n : ℕ = g.row.N in
    let r = c.div_ceil-rows.result in
    let order = is_order n in
    let count = order.count in
    let whole = c.loop-m.invariant.whole in
    let cells = length-cells_read Convolutional r 0 in
    let all = walk_end (32 * r - n) n (cells_read Convolutional r 0) c.loop-m.p c.loop-m.m (omega (arith, cells, c.loop-m-test.false)) c.loop-m.invariant.walked in
    ext_get_or 0 c.loop-m.order (stream_order n) (whole ∙ sym count)
    (λ k below. c.loop-m.invariant.each k (omega (arith, whole, below, all)))
