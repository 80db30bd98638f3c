use Rattle.std.proofs.Common.{◌≡◌, ◌∙◌, ap, sym, List}
use Rattle.cs_num.specs.declared.Cpx.{Cpx}
use Rattle.wide_slot.specs.Slot.{slot_from, seen_slot}
use Rattle.wide_slot.proofs.Lengths.{own_symbols}
use Rattle.wide_slot.proofs.slot.WideSlot.receive.Goals as goal

pub returns : goal.returns
returns c =
    let e : seen_slot c.args.wide.now c.args.cell.now c.args.frame c.args.number ≡ slot_from c.in_ok-symbols.symbols.items c.args.cell.now c.args.number =
    sym (ap (λ (xs : List (List Cpx)). slot_from xs c.args.cell.now c.args.number) c.in_ok-symbols.ensures.value
    ∙ own_symbols c.args.wide.now c.args.cell.now c.args.frame c.args.number) in
    rw e c.of_symbols.ensures
