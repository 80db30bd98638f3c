use Rattle.std.proofs.Common.{◌/◌, ap, ◌∙◌}
use Rattle.cell_json.proofs.Ranges.{gains_by_squares}
use Rattle.cell_json.proofs.reading.are_gains.Goals as goal

pub returns-then-first-ge1 : goal.returns-then-first-ge1
returns-then-first-ge1 c =
    c.are_together.ensures
    ∙ gains_by_squares c.args.carrier c.args.gains.now c.norm-first.result c.power-second.result c.power-third.result c.power-fourth.result _
    c.norm-first.ensures c.power-second.ensures c.power-third.ensures c.power-fourth.ensures (ap (λ ports. 784 / ports) c.ports.ensures) c.if-first-ge1.true
