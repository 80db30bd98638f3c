use Rattle.std.proofs.Common.{◌≡◌, List, length, Some, None, option_and_then, sym, ap, ◌∙◌, arith}
use Rattle.serde_json.specs.Find.{as_array}
use Rattle.serde_json.specs.View.{view, items_view}
use Rattle.serde_json.specs.declared.value.Value.{Value}
use Rattle.cell_json.specs.Description.{pair_in, pair_of}
use Rattle.cell_json.proofs.Forms.{no_pair}
use Rattle.cell_json.proofs.description.pair_in.Goals as goal

not_two : (value : Value) (values : List Value) → Some (items_view values) ≡ as_array (view value) → (length values ≡ 2 → ⊥) → None ≡ pair_of (view value)
not_two value values is h = sym (ap (option_and_then pair_in) (sym is) ∙ no_pair values h)

pub returns-then-len-ne2 : goal.returns-then-len-ne2
returns-then-len-ne2 c = not_two c.args.value.now c.in_ok-items.items.now.items c.in_ok-items.ensures (λ two. c.if-len-ne2.true (omega (arith, c.len.ensures, two)))
