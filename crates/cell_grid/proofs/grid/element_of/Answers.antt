use Rattle.std.proofs.Common.{◌≡◌, ℕ, ◌-◌, ◌%◌, ◌<◌, Bool, true, nat_eq, nat_le, nat_lt, Option, None, List, get_or, arith, refl, sym, ap, ◌∙◌}
use Rattle.std.specs.Prelude.{◌&&◌, ◌||◌}
use Rattle.std.proofs.lemmas.Bool.{and_parts, ltb-true}
use Rattle.finite.specs.Lists.{values_below}
use Rattle.finite.proofs.Lists.{values_below_at}
use Rattle.cs_num.specs.declared.Cpx.{Cpx}
use Rattle.cs_num.specs.Complex.{value_at}
use Rattle.sync_seq.specs.Middle.{is_middle}
use Rattle.sync_seq.proofs.PrimaryValues.{pss_list_at}
use Rattle.cell_grid.specs.declared.antenna.Port.{Port}
use Rattle.cell_grid.specs.Ports.{port_symbols, port_slot, sent_signal}
use Rattle.cell_grid.specs.Grid.{is_synchronised, is_primary}
use Rattle.cell_grid.specs.Rows.{port_reference_if}
use Rattle.cell_grid.proofs.Elements.{sent_of_reference, sent_of_primary, sent_of_secondary, sent_beside}
use Rattle.cell_grid.proofs.grid.element_of.Goals as goal

read_row : (port : Port) (row : List (Option Cpx)) (identity slot symbol k : ℕ) → k < 72 → row ≡ values_below 72 (port_reference_if port identity slot symbol) → get_or row k None ≡ port_reference_if port identity slot symbol k
read_row port row identity slot symbol k inside is = ap (λ list. get_or list k None) is ∙ values_below_at (port_reference_if port identity slot symbol) 72 k None inside

pub returns-in-Some : goal.returns-in-Some
returns-in-Some c =
    let signals = c.args.signals.now in
    let plan = signals.cell.now in
    let row = read_row signals.port c.args.references.now plan.identity (port_slot signals.port c.args.subframe c.args.symbol) (c.args.symbol % port_symbols signals.port) c.args.k c.requires.k c.requires.references in
    sent_of_reference signals.port plan signals.sfn c.args.subframe c.args.symbol c.args.k signals.load c.in-Some.value (sym row ∙ c.in-Some.is)

-- the row of reference signals has no value at the resource element
none_at : (port : Port) (row : List (Option Cpx)) (identity slot symbol k : ℕ) → k < 72 → row ≡ values_below 72 (port_reference_if port identity slot symbol) → get_or row k None ≡ None → port_reference_if port identity slot symbol k ≡ None
none_at port row identity slot symbol k inside is none = sym (read_row port row identity slot symbol k inside is) ∙ none

-- `is_synchronised` for a slot's last symbol, by its number
last_is : (symbols n last subframe symbol k : ℕ) → symbols ≡ n → last ≡ symbols - 1 → is_synchronised last subframe symbol k ≡ is_synchronised (n - 1) subframe symbol k
last_is symbols n last subframe symbol k e f = rw (f, e) refl

before_is : (symbols n last subframe symbol k : ℕ) → symbols ≡ n → last ≡ symbols - 1 → is_synchronised (last - 1) subframe symbol k ≡ is_synchronised (n - 2) subframe symbol k
before_is symbols n last subframe symbol k e f = let same : last - 1 ≡ n - 2 = omega (arith, e, f) in rw same refl

abbrev is_row : ℕ → ℕ → ℕ → Bool
is_row signal subframe symbol = (nat_eq subframe 0 || nat_eq subframe 5) && nat_eq symbol signal

last_place : (signal subframe symbol k : ℕ) → is_synchronised signal subframe symbol k ≡ true → k - 5 < 62
last_place signal subframe symbol k e =
    let parts = and_parts (is_row signal subframe symbol) (is_middle k) e in
    let ends = and_parts (nat_le 5 k) (nat_lt k 67) parts.1 in
    omega (arith, ltb-true k 67 ends.1)

pub returns-then-is_signal : goal.returns-then-is_signal
returns-then-is_signal c =
    let signals = c.args.signals.now in
    let plan = signals.cell.now in
    let none = none_at signals.port c.args.references.now plan.identity (port_slot signals.port c.args.subframe c.args.symbol) (c.args.symbol % port_symbols signals.port) c.args.k c.requires.k c.requires.references c.in_default.is in
    let last = last_is c.symbols-last.result (port_symbols signals.port) (c.symbols-last.result - 1) c.args.subframe c.args.symbol c.args.k c.symbols-last.ensures.value refl in
    let here : is_primary signals.port c.args.subframe c.args.symbol c.args.k ≡ true = sym last ∙ sym c.is_signal.ensures ∙ c.if-is_signal.true in
    c.sent_signal.ensures
    ∙ ap (sent_signal signals.port)
    (ap (λ values. value_at values (c.args.k - 5)) signals.layout_is.primary
    ∙ pss_list_at (plan.identity % 3) (c.args.k - 5) (last_place (port_symbols signals.port - 1) c.args.subframe c.args.symbol c.args.k here))
    ∙ sym (sent_of_primary signals.port plan signals.sfn c.args.subframe c.args.symbol c.args.k signals.load none here)

pub returns-then-is_signal-2 : goal.returns-then-is_signal-2
returns-then-is_signal-2 c =
    let signals = c.args.signals.now in
    let plan = signals.cell.now in
    let none = none_at signals.port c.args.references.now plan.identity (port_slot signals.port c.args.subframe c.args.symbol) (c.args.symbol % port_symbols signals.port) c.args.k c.requires.k c.requires.references c.in_default.is in
    let last = last_is c.symbols-last.result (port_symbols signals.port) (c.symbols-last.result - 1) c.args.subframe c.args.symbol c.args.k c.symbols-last.ensures.value refl in
    let before = before_is c.symbols-last.result (port_symbols signals.port) (c.symbols-last.result - 1) c.args.subframe c.args.symbol c.args.k c.symbols-last.ensures.value refl in
    c.sent_signal-then-is_signal-2.ensures ∙ ap (sent_signal signals.port) c.secondary_of.ensures
    ∙ sym (sent_of_secondary signals.port plan signals.sfn c.args.subframe c.args.symbol c.args.k signals.load none
    (sym last ∙ sym c.is_signal.ensures ∙ c.if-is_signal.false) (sym before ∙ sym c.is_signal-else-is_signal.ensures ∙ c.if-is_signal-2.true))

pub returns-else-is_signal-2 : goal.returns-else-is_signal-2
returns-else-is_signal-2 c =
    let signals = c.args.signals.now in
    let plan = signals.cell.now in
    let none = none_at signals.port c.args.references.now plan.identity (port_slot signals.port c.args.subframe c.args.symbol) (c.args.symbol % port_symbols signals.port) c.args.k c.requires.k c.requires.references c.in_default.is in
    let last = last_is c.symbols-last.result (port_symbols signals.port) (c.symbols-last.result - 1) c.args.subframe c.args.symbol c.args.k c.symbols-last.ensures.value refl in
    let before = before_is c.symbols-last.result (port_symbols signals.port) (c.symbols-last.result - 1) c.args.subframe c.args.symbol c.args.k c.symbols-last.ensures.value refl in
    c.value_beside.ensures
    ∙ sym (sent_beside signals.port plan signals.sfn c.args.subframe c.args.symbol c.args.k signals.load none
    (sym last ∙ sym c.is_signal.ensures ∙ c.if-is_signal.false) (sym before ∙ sym c.is_signal-else-is_signal.ensures ∙ c.if-is_signal-2.false))
