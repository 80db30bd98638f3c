use Rattle.std.proofs.Common.{◌∙◌, ℕ, ap, List}
use Rattle.cs_num.specs.declared.Cpx.{Cpx}
use Rattle.soft_bits.specs.Soft.{SeenSlot}
use Rattle.explain.specs.Frame.{seen_slot}
use Rattle.explain.proofs.slots.slot_of.Goals as goal

pub returns : goal.returns
unfolding seen_slot
returns g c =
    let made : List (List Cpx) → SeenSlot = λ symbols. record { symbols = symbols; number = c.args.number; identity = c.args.place.id } in
    c.of.ensures ∙ ap (λ (id : ℕ). record { symbols = c.symbols_of.result; number = c.args.number; identity = id }) c.id.ensures ∙ ap made c.symbols_of.ensures.symbols
