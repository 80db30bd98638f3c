use Rattle.std.proofs.Common.{arith, ◌*◌, ◌^◌, ◌++◌, ◌∷◌, [], ◌∙◌, ap₂, sym, subst}
use Rattle.std.specs.Prelude.{All}
use Rattle.std.proofs.lemmas.List.Elements.{All-push}
use Rattle.finite.proofs.Lists.{values_below_more}
use Rattle.cs_num.specs.declared.Cpx.{Cpx}
use Rattle.cs_num.specs.Complex.{IsWithin, times, conjugate}
use Rattle.soft_bits.specs.Lines.{line_pilot}
use Rattle.wide_slot.specs.Lines.{laid_out}
use Rattle.wide_slot.specs.Slot.{slot_from}
use Rattle.wide_slot.proofs.pilots.pilots_of.Goals as goal

pub overflow_add-i-end : goal.overflow_add-i-end
overflow_add-i-end c = let few = c.requires.layout.few in omega (arith, few)

pub loop-i-preserved : goal.loop-i-preserved
loop-i-preserved c =
    let pilot = c.against.ensures.value ∙ ap₂ (λ (seen sent : Cpx). times seen (conjugate sent)) c.seen_at-seen.ensures.value c.sent_at-sent.ensures.value in
    record {
      value = c.in_ok-push.ensures.items ∙ ap₂ (λ before last. before ++ (last ∷ [])) c.loop-i.invariant.value pilot
          ∙ sym (values_below_more c.loop-i.i (line_pilot (laid_out c.args.layout.now c.args.cell.now c.args.number) (slot_from c.args.symbols.now c.args.cell.now c.args.number)));
      small = subst (All (IsWithin (180 * 2 ^ 25))) (sym c.in_ok-push.ensures.items) (All-push (IsWithin (180 * 2 ^ 25)) _ _ c.loop-i.invariant.small c.against.ensures.small);
    }
