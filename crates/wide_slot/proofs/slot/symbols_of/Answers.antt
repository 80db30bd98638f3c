use Rattle.std.proofs.Common.{arith, ◌≡◌, ◌^◌, ◌++◌, ◌∷◌, [], ◌∙◌, ap, ap₂, sym, subst, List, ℕ}
use Rattle.std.specs.Prelude.{All}
use Rattle.std.proofs.lemmas.List.Elements.{All-push}
use Rattle.finite.specs.Lists.{values_below}
use Rattle.finite.proofs.Lists.{values_below_more}
use Rattle.cs_num.specs.declared.Cpx.{Cpx}
use Rattle.cs_num.specs.Complex.{IsWithin}
use Rattle.tones.specs.Seen.{seen_symbol, wide_start}
use Rattle.soft_bits.specs.Soft.{AreSmall}
use Rattle.wide_slot.specs.Slot.{seen_slot}
use Rattle.wide_slot.proofs.slot.symbols_of.Goals as goal

pub loop-symbol-preserved : goal.loop-symbol-preserved
loop-symbol-preserved c =
    let start = c.wide_start-start.ensures ∙ ap (λ r. wide_start r c.args.frame c.args.number c.loop-symbol.symbol) c.rate.ensures.value in
    let values = c.new.ensures ∙ c.in_ok-values.ensures.value ∙ ap₂ (λ (n s : ℕ). seen_symbol c.args.wide.now n s) c.blocks-in-loop-symbol.ensures.value start in
    record {
      value = c.in_ok-push.ensures.items ∙ ap₂ (λ (before : List (List Cpx)) (last : List Cpx). before ++ (last ∷ [])) c.loop-symbol.invariant.value values
          ∙ sym (values_below_more c.loop-symbol.symbol (λ symbol. seen_symbol c.args.wide.now c.args.cell.now.blocks (wide_start c.args.wide.now.rate c.args.frame c.args.number symbol)));
      small = subst AreSmall (sym c.in_ok-push.ensures.items)
          (All-push (All (IsWithin (2 ^ 25))) _ _ c.loop-symbol.invariant.small (subst (All (IsWithin (2 ^ 25))) (sym c.new.ensures) c.in_ok-values.ensures.small));
    }

pub returns-clause-value : goal.returns-clause-value
unfolding seen_slot
returns-clause-value c =
    let last : c.loop-symbol.symbol ≡ 7 = omega arith in
    c.loop-symbol.invariant.value ∙ ap (λ n. values_below n (λ symbol. seen_symbol c.args.wide.now c.args.cell.now.blocks (wide_start c.args.wide.now.rate c.args.frame c.args.number symbol))) last
