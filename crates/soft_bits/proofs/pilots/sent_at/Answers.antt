use Rattle.std.proofs.Common.{◌≡◌, ◌∙◌, ◌/◌, ◌<◌, arith, ap, slice_index_or, ℕ, List}
use Rattle.std.proofs.lemmas.Bool.Decides.{nat_tests}
use Rattle.cs_num.specs.declared.Cpx.{Cpx}
use Rattle.crs.specs.declared.pattern.Pattern.{Pattern}
use Rattle.crs.specs.Reference.{pattern_list, pattern_reference}
use Rattle.crs.proofs.Values.{no_pair, get_or-pattern_list}
use Rattle.soft_bits.specs.Layout.{symbol_with}
use Rattle.soft_bits.proofs.Magnitudes.{pattern_reference-within}
use Rattle.soft_bits.proofs.pilots.sent_at.Goals as goal

-- value k / 6 of a symbol
found : (pattern : Pattern) (identity number symbol other k : ℕ) (values : List (ℕ × Cpx)) → values ≡ pattern_list pattern identity number symbol → k < 72 → symbol ≡ other →
    (slice_index_or values (k / 6) no_pair).1 ≡ pattern_reference pattern identity number other (k / 6)
found pattern identity number symbol other k values e fits s =
    ap (λ (xs : List (ℕ × Cpx)). (slice_index_or xs (k / 6) no_pair).1) e
    ∙ ap (λ (pair : ℕ × Cpx). pair.1) (get_or-pattern_list pattern identity number symbol (k / 6) no_pair (omega (arith, fits)))
    ∙ ap (λ (n : ℕ). pattern_reference pattern identity number n (k / 6)) s

pub returns-then-k-layout-clause-value : goal.returns-then-k-layout-clause-value
returns-then-k-layout-clause-value c =
    let layout = c.args.layout.now in
    found layout.pattern c.args.seen.now.id c.args.seen.now.number layout.early (symbol_with layout c.args.k) c.args.k c.args.early.now c.requires.early c.requires.k (grind (arith, nat_tests))

pub returns-then-k-layout-clause-small : goal.returns-then-k-layout-clause-small
returns-then-k-layout-clause-small c =
    rw (returns-then-k-layout-clause-value c) (pattern_reference-within c.args.layout.now.pattern c.args.seen.now.id c.args.seen.now.number (symbol_with c.args.layout.now c.args.k) (c.args.k / 6))

pub returns-else-k-layout-clause-value : goal.returns-else-k-layout-clause-value
returns-else-k-layout-clause-value c =
    let layout = c.args.layout.now in
    found layout.pattern c.args.seen.now.id c.args.seen.now.number layout.late (symbol_with layout c.args.k) c.args.k c.args.late.now c.requires.late c.requires.k (grind (arith, nat_tests))

pub returns-else-k-layout-clause-small : goal.returns-else-k-layout-clause-small
returns-else-k-layout-clause-small c =
    rw (returns-else-k-layout-clause-value c) (pattern_reference-within c.args.layout.now.pattern c.args.seen.now.id c.args.seen.now.number (symbol_with c.args.layout.now c.args.k) (c.args.k / 6))
