use Rattle.std.proofs.Common.{arith, ◌≡◌, ◌∙◌, ◌<◌, ◌/◌, ap, ap₂, ℕ, List, [], length, get_or}
use Rattle.finite.proofs.Lists.{values_below-length, values_below_at}
use Rattle.cs_num.specs.Complex.{multiple}
use Rattle.soft_bits.specs.Kept.{SeenLine, along}
use Rattle.wide_slot.specs.Slot.{WideSeen, slot_from, port_line, port_channel}
use Rattle.wide_slot.proofs.slot.WideSlot.channel.Goals.{After-deref}
use Rattle.wide_slot.proofs.slot.WideSlot.channel.Goals as goal

module _ (c : After-deref) where
  inside : WideSeen
  inside = record { cell = c.self.inside.cell; weights = c.self.inside.weights; slot = slot_from c.self.inside.symbols.items c.self.inside.cell c.self.inside.number }

  port_inside : c.args.port < c.self.inside.cell.ports
  port_inside = let same = ap (λ (s : WideSeen). s.cell.ports) c.self.view_is in omega (arith, c.requires, same)

  none : SeenLine
  none = record { step = 0; first = 0; pilots = [] }

  line_is : get_or c.deref.result.now c.args.port none ≡ port_line inside c.args.port
  unfolding inside
  line_is =
      ap (λ (lines : List SeenLine). get_or lines c.args.port none) (c.deref.ensures.value ∙ c.self.invariant.lines)
      ∙ values_below_at (port_line inside) c.self.inside.cell.ports c.args.port none port_inside

pub line_at-requires : goal.line_at-requires
unfolding inside
line_at-requires c =
    let long = ap (λ (lines : List SeenLine). length lines) (c.deref.ensures.value ∙ c.self.invariant.lines) ∙ values_below-length c.self.inside.cell.ports (port_line (inside c)) in
    omega (arith, long, port_inside c)

pub returns-clause-value : goal.returns-clause-value
unfolding inside
returns-clause-value c =
    let before = c.before.before.before in
    c.scaled_channel.ensures.value
    ∙ ap₂ (λ (n : ℕ) (line : SeenLine). multiple (n / line.step) (along line c.args.k)) c.scale_of.ensures.value (c.line_at.ensures (none before) ∙ line_is before)
    ∙ ap (λ (s : WideSeen). port_channel s c.args.port c.args.k) c.self.view_is
