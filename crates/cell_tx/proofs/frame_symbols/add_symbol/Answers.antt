use Rattle.std.proofs.Common.{◌≡◌, ℕ, ◌+◌, ◌-◌, ◌*◌, ◌/◌, ◌%◌, ◌<◌, ◌≤◌, List, slice_index_or, arith, sym, subst, ap, ap₂, ◌∙◌, length-set}
use Rattle.cs_num.specs.declared.Cpx.{Cpx}
use Rattle.cs_num.specs.declared.Sample.{Sample}
use Rattle.cs_num.specs.Complex.{IsWithin, square, plus, times, value_of, value_at, sample_of, silence}
use Rattle.fold128.specs.Symbol.{useful_part}
use Rattle.cell_grid.specs.declared.grid.Signals.{Signals}
use Rattle.cell_grid.specs.Ports.{port_prefix, port_symbols}
use Rattle.cell_tx.specs.Sending.{elements_of, sample_in, symbol_start}
use Rattle.cell_tx.specs.Emitting.{is_between, AreChanged, added}
use Rattle.cell_grid.proofs.Bounds.{sent_element-square}
use Rattle.cell_tx.proofs.Bounds.{frame-square}
use Rattle.cell_grid.proofs.Prefixes.{port_prefix_known}
use Rattle.cell_tx.proofs.Symbols.{value_there, first-mono}
use Rattle.cell_tx.proofs.Changes.{between, after, kept_there, set_changed}
use Rattle.cell_tx.proofs.frame_symbols.add_symbol.Goals as goal

-- the value to add
value_is : (s : Signals) (symbol i last : ℕ) (useful : List Cpx)
    → useful ≡ useful_part (elements_of s s.sfn (symbol / port_symbols s.port / 2) (port_symbols s.port * (symbol / port_symbols s.port % 2) + symbol % port_symbols s.port))
    → last ≡ symbol_start s (symbol + 1) → symbol_start s symbol ≤ i → i < last → value_at useful ((i + 256 - last) % 128) ≡ sample_in s i
value_is s symbol i last useful is e low high = value_there (port_prefix s.port) (elements_of s) s.sfn symbol i last useful (port_prefix_known s.port) is e low high

pub sum_of-requires-clause-value : goal.sum_of-requires-clause-value
sum_of-requires-clause-value c =
    let s = c.args.signals.now in
    let i : ℕ = c.loop-i.i in
    let low : symbol_start s c.args.symbol ≤ i = omega (arith, c.first_sample_of-i.ensures.value, c.loop-i.auto.i, c.loop-i-test.true) in
    subst (λ (z : Cpx). square z ≤ 1153 * 1153)
    (sym (value_is s c.args.symbol i c.first_sample_of-last.result c.useful_at-useful.result c.useful_at-useful.ensures c.first_sample_of-last.ensures.value low c.loop-i-test.true))
    (frame-square (port_prefix s.port) (elements_of s) (sent_element-square s.load s.port s.cell.now) s.sfn i)

pub sum_of-requires-clause-small : goal.sum_of-requires-clause-small
sum_of-requires-clause-small c =
    let s = c.args.signals.now in
    let i : ℕ = c.loop-i.i in
    let low : symbol_start s c.args.symbol ≤ i = omega (arith, c.first_sample_of-i.ensures.value, c.loop-i.auto.i, c.loop-i-test.true) in
    let high : i < symbol_start s (c.args.symbol + 1) = omega (arith, c.first_sample_of-last.ensures.value, c.loop-i-test.true) in
    let inside : i < 19200 = omega (arith, c.first_sample_of-last.ensures.inside, c.loop-i-test.true) in
    let is = value_is s c.args.symbol i c.first_sample_of-last.result c.useful_at-useful.result c.useful_at-useful.ensures c.first_sample_of-last.ensures.value low c.loop-i-test.true in
    let there = kept_there (is_between (symbol_start s c.args.symbol) i) (added c.args.gain.now (sample_in s)) c.args.out.now c.loop-i.out c.loop-i.invariant.done i inside
    (after (symbol_start s c.args.symbol) i i (omega arith)) in
    subst (IsWithin 32767) (sym (ap₂ (λ (a : Sample) (z : Cpx). plus (value_of a) (times c.args.gain.now z)) there is))
    (c.requires.small i inside (between (symbol_start s c.args.symbol) (symbol_start s (c.args.symbol + 1)) i low high))

pub loop-i-preserved : goal.loop-i-preserved
loop-i-preserved c =
    let s = c.args.signals.now in
    let i : ℕ = c.loop-i.i in
    let out : List Sample = c.loop-i.out in
    let low : symbol_start s c.args.symbol ≤ i = omega (arith, c.first_sample_of-i.ensures.value, c.loop-i.auto.i, c.loop-i-test.true) in
    let inside : i < 19200 = omega (arith, c.first_sample_of-last.ensures.inside, c.loop-i-test.true) in
    let is = value_is s c.args.symbol i c.first_sample_of-last.result c.useful_at-useful.result c.useful_at-useful.ensures c.first_sample_of-last.ensures.value low c.loop-i-test.true in
    record {
      whole = length-set out i _ ∙ c.loop-i.invariant.whole;
      done = set_changed (added c.args.gain.now (sample_in s)) (symbol_start s c.args.symbol) i c.args.out.now out c.sum_of.result
          (omega (arith, inside, c.loop-i.invariant.whole)) low
          (c.sum_of.ensures ∙ ap (λ (z : Cpx). sample_of (plus (value_of (slice_index_or out i silence)) (times c.args.gain.now z))) is)
          c.loop-i.invariant.done inside;
    }

pub returns : goal.returns
returns c =
    let s = c.args.signals.now in
    let up : symbol_start s c.args.symbol ≤ symbol_start s (c.args.symbol + 1) = first-mono (port_prefix s.port) c.args.symbol (c.args.symbol + 1) (port_prefix_known s.port) (omega arith) in
    let e : c.loop-i.i ≡ symbol_start s (c.args.symbol + 1) = omega (arith, c.loop-i.auto.i, c.loop-i-test.false, c.first_sample_of-i.ensures.value, c.first_sample_of-last.ensures.value, up) in
    subst (λ (n : ℕ). AreChanged (is_between (symbol_start s c.args.symbol) n) (added c.args.gain.now (sample_in s)) c.args.out.now c.loop-i.out) e c.loop-i.invariant.done
