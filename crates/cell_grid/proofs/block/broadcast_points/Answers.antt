use Rattle.std.proofs.Common.{◌≡◌, ℕ, ◌+◌, ◌*◌, ◌%◌, Bool, List, ap, ◌∙◌}
use Rattle.finite.specs.Lists.{values_below}
use Rattle.cs_num.specs.declared.Cpx.{Cpx}
use Rattle.cell_grid.specs.Ports.{port_block_bits}
use Rattle.cell_grid.specs.Points.{point_of}
use Rattle.cell_grid.specs.Block.{scrambled_bit, port_word, port_bit, port_point}
use Rattle.cell_grid.proofs.block.broadcast_points.Goals as goal

-- a word's QPSK symbols from bit `first`
points_from : ℕ → List Bool → ℕ → List Cpx
points_from identity word first = values_below 240 (point_of (λ i. scrambled_bit identity word (first + i)))

pub returns : goal.returns
unfolding port_point port_bit points_from
returns c =
    let plan = c.args.cell.now in
    let word : List Bool = port_word c.args.port plan c.args.sfn in
    let is : c.fill_broadcast.new.points ≡ points_from c.id.result c.word_of.result (c.block_bits.result * (c.value.result % 4)) = c.fill_broadcast.ensures in
    is
    ∙ ap (λ (identity : ℕ). points_from identity c.word_of.result (c.block_bits.result * (c.value.result % 4))) c.id.ensures.value
    ∙ ap (λ (w : List Bool). points_from plan.identity w (c.block_bits.result * (c.value.result % 4))) c.word_of.ensures
    ∙ ap (λ (n : ℕ). points_from plan.identity word (n * (c.value.result % 4))) c.block_bits.ensures.value
    ∙ ap (λ (n : ℕ). points_from plan.identity word (port_block_bits c.args.port * (n % 4))) c.value.ensures.value
