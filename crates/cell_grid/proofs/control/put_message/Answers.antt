use Rattle.std.proofs.Common.{◌≡◌, length, ap, ◌∙◌}
use Rattle.std.proofs.lemmas.List.{take_at}
use Rattle.cell_grid.proofs.control.put_message.Goals as goal

pub returns : goal.returns
returns c =
    let copied : c.copy_from_slice.new.self ≡ c.args.message.now = c.copy_from_slice.ensures.after ∙ c.slice.ensures.bits in
    take_at c.copy_from_slice.new.self _ 21 (ap length copied ∙ c.slice.ensures.count) ∙ copied
