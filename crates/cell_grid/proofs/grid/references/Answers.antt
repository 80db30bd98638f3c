use Rattle.std.proofs.Common.{◌≡◌, ◌⊎◌, inl, inr, length-set, false, nat_eq, None, ap, arith, sym, ◌∙◌}
use Rattle.std.proofs.lemmas.Bool.Decides.{nat_tests}
use Rattle.std.proofs.lemmas.List.FromFn.{fill_by_all}
use Rattle.std.proofs.lemmas.List.Edits.{fill_by_more}
use Rattle.finite.proofs.Lists.{values_below_same}
use Rattle.crs.specs.Reference.{pattern_list}
use Rattle.crs.specs.declared.pattern.Pattern.{Pattern}
use Rattle.cell_grid.specs.Ports.{first_pattern}
use Rattle.cell_grid.specs.Rows.{port_reference_if}
use Rattle.cell_grid.proofs.Elements.{no_port_reference}
use Rattle.cell_grid.proofs.grid.references.Goals as goal
use Rattle.cell_grid.proofs.grid.references.Goals.{then-symbol-eq0-via-then-symbol-eq0, then-symbol-eq0-via-else-symbol-eq0+then-symbol-pattern}

pub loop-k-preserved : goal.loop-k-preserved
loop-k-preserved c =
    let pattern = c.pattern_of-pattern.ensures.pattern in
    let row : (c.args.symbol ≡ 0) ⊎ (c.args.symbol ≡ (first_pattern c.args.port).later) =
    elim c.then-symbol-eq0.branch [
      | then-symbol-eq0-via-then-symbol-eq0 w ↦ inl w.if-symbol-eq0.true
      | then-symbol-eq0-via-else-symbol-eq0+then-symbol-pattern w ↦ inr (w.if-symbol-pattern.true ∙ ap (λ (p : Pattern). p.later) pattern)
    ] in
    let pilots = c.pattern_pilots-pilots.ensures.pilots ∙ ap (λ (p : Pattern). pattern_list p c.args.id c.args.slot c.args.symbol) pattern in
    let here = c.reference_of.ensures c.args.id c.args.slot c.args.symbol row pilots in
    record {
      whole = length-set c.loop-k.row c.loop-k.k _ ∙ c.loop-k.invariant.whole;
      each = rw here (fill_by_more (port_reference_if c.args.port c.args.id c.args.slot c.args.symbol) c.loop-k.row c.loop-k.k None (omega arith) c.loop-k.invariant.each);
    }

pub returns-after-loop-k : goal.returns-after-loop-k
returns-after-loop-k c =
    fill_by_all (port_reference_if c.args.port c.args.id c.args.slot c.args.symbol) c.loop-k.row 72 None c.loop-k.invariant.whole
    (λ k inside. c.loop-k.invariant.each k (omega arith))

-- only symbols 0 and 1 and the pattern's later symbol have reference positions
pub returns-else-symbol-pattern : goal.returns-else-symbol-pattern
returns-else-symbol-pattern c =
    let e : nat_eq c.args.symbol 0 ≡ false = let other = c.if-symbol-eq0.false in grind (arith, nat_tests) in
    let f : nat_eq c.args.symbol c.pattern_of-pattern.result.later ≡ false = let other = c.if-symbol-pattern.false in grind (arith, nat_tests) in
    let one : nat_eq c.args.symbol 1 ≡ false = let other = c.if-symbol-eq1.false in grind (arith, nat_tests) in
    let g : nat_eq c.args.symbol (first_pattern c.args.port).later ≡ false = sym (ap (λ (p : Pattern). nat_eq c.args.symbol p.later) c.pattern_of-pattern.ensures.pattern) ∙ f in
    values_below_same 72 (λ k. None) (port_reference_if c.args.port c.args.id c.args.slot c.args.symbol) (λ k inside. sym (no_port_reference c.args.port c.args.id c.args.slot c.args.symbol k e one g))
