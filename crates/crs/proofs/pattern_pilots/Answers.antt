use Rattle.std.proofs.Common.{ℕ, ◌≡◌, ◌*◌, ◌+◌, arith, ap, ap₂, ◌∙◌, length-set, get_or, false, subst, sym, List, All}
use Rattle.std.proofs.lemmas.List.FromFn.{fill_by_all}
use Rattle.std.proofs.lemmas.List.Edits.{fill_by_more}
use Rattle.cs_num.specs.declared.Cpx.{Cpx}
use Rattle.gold.specs.Gold.{gold_bits}
use Rattle.crs.specs.Qpsk.{IsPoint}
use Rattle.crs.specs.Reference.{value_by, pattern_reference, pattern_c_init, pattern_pair, pattern_list}
use Rattle.crs.proofs.Values.{no_pair, value_by-gold_bits, pattern_list-full}
use Rattle.crs.proofs.pattern_pilots.Goals as goal

pub loop-m-preserved : goal.loop-m-preserved
loop-m-preserved c =
    let m : ℕ = c.loop-m.m in
    let bits : c.fill.new.out ≡ gold_bits (pattern_c_init c.args.pattern c.args.id c.args.slot c.args.symbol) 232 =
    c.fill.ensures ∙ ap (λ (seed : ℕ). gold_bits seed 232) c.c_init.ensures.value in
    let value : c.value_of.result ≡ pattern_reference c.args.pattern c.args.id c.args.slot c.args.symbol m =
    c.value_of.ensures ∙ ap (λ bits. value_by (λ n. get_or bits n false) m) bits
    ∙ value_by-gold_bits c.args.pattern c.args.id c.args.slot c.args.symbol m (omega arith) in
    let pair : (6 * m + c.first_of_pattern-first.result, c.value_of.result) ≡ pattern_pair c.args.pattern c.args.id c.args.slot c.args.symbol m =
    ap₂ (λ (first : ℕ) (value : Cpx). (6 * m + first, value)) c.first_of_pattern-first.ensures.value value in
    record {
      whole = length-set c.loop-m.pilots m _ ∙ c.loop-m.invariant.whole;
      each = rw pair (fill_by_more (pattern_pair c.args.pattern c.args.id c.args.slot c.args.symbol) c.loop-m.pilots m no_pair (omega arith) c.loop-m.invariant.each);
    }

pub returns : goal.returns
unfolding pattern_list
returns c =
    let all : c.loop-m.pilots ≡ pattern_list c.args.pattern c.args.id c.args.slot c.args.symbol =
    fill_by_all (pattern_pair c.args.pattern c.args.id c.args.slot c.args.symbol) c.loop-m.pilots 12 no_pair c.loop-m.invariant.whole (λ k few. c.loop-m.invariant.each k (omega arith)) in
    let P : List (ℕ × Cpx) → Type 0 = All (λ pilot. IsPoint pilot.1) in
    record {
      pilots = all;
      full = subst P (sym all) (pattern_list-full c.args.pattern c.args.id c.args.slot c.args.symbol);
    }
