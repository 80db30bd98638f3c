use Rattle.std.proofs.Common.{◌≡◌, Option, Some, None, ap, sym, ◌∙◌}
use Rattle.cs_num.specs.declared.Cpx.{Cpx}
use Rattle.cell_grid.proofs.Elements.{first_of, system_found}
use Rattle.cell_grid.proofs.channels.system_at.Goals as goal

-- `Some` ends a chain of options, and `None` passes to the rest
is_first : (value : Cpx) (result option other : Option Cpx) → result ≡ Some value → result ≡ option → Some value ≡ first_of option other
is_first value result option other e f = ap (λ o. first_of o other) (sym e ∙ f)

is_later : (found result option other : Option Cpx) → result ≡ None → result ≡ option → found ≡ other → found ≡ first_of option other
is_later found result option other e f g = g ∙ ap (λ o. first_of o other) (sym e ∙ f)

pub returns-in-Some : goal.returns-in-Some
returns-in-Some c =
    is_first c.in-Some.value c.indicator_at.result _ _ c.in-Some.is c.indicator_at.ensures
    ∙ sym (system_found c.args.signals.now.port c.args.signals.now.cell.now c.args.signals.now.sfn c.args.subframe c.args.here.symbol c.args.here.k)

pub returns-in-Some-control_at : goal.returns-in-Some-control_at
returns-in-Some-control_at c =
    is_later _ c.indicator_at.result _ _ c.in_default.is c.indicator_at.ensures
    (is_first c.in-Some-control_at.value c.control_at.result _ _ c.in-Some-control_at.is c.control_at.ensures)
    ∙ sym (system_found c.args.signals.now.port c.args.signals.now.cell.now c.args.signals.now.sfn c.args.subframe c.args.here.symbol c.args.here.k)

pub returns : goal.returns
returns c =
    is_later _ c.indicator_at.result _ _ c.in_default.is c.indicator_at.ensures
    (is_later _ c.control_at.result _ _ c.in_default-control_at.is c.control_at.ensures c.shared_at.ensures)
    ∙ sym (system_found c.args.signals.now.port c.args.signals.now.cell.now c.args.signals.now.sfn c.args.subframe c.args.here.symbol c.args.here.k)
