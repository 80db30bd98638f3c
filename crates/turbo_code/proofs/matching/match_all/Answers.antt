use Rattle.std.proofs.Common.{ℕ, ◌+◌, ◌*◌, ◌∙◌, ap, sym, refl, arith, length-set, false}
use Rattle.std.proofs.Math.Nat.{zero-mod}
use Rattle.std.proofs.lemmas.List.Edits.{fill_by_more}
use Rattle.finite.proofs.Lists.{values_below_is}
use Rattle.turbo_code.specs.Reading.{bit_of, item_of}
use Rattle.turbo_code.specs.Walk.{standing}
use Rattle.turbo_code.proofs.Walking.{item_here, one_more}
use Rattle.turbo_code.proofs.matching.match_all.Goals as goal

pub loop-i-init : goal.loop-i-init
loop-i-init c = record {
  whole = refl;
  each = λ k none. absurd (omega (arith, none));
  at = c.new-walk.ensures ∙ ap (standing c.args.coded.now.k c.args.rv) (sym (zero-mod (3 * (c.args.coded.now.k + 4))));
}

pub loop-i-preserved : goal.loop-i-preserved
loop-i-preserved c =
    let k : ℕ = c.args.coded.now.k in
    let at = c.loop-i.invariant.at in
    let item = c.step.ensures.item ∙ item_here k c.args.rv c.loop-i.i c.loop-i.walk c.requires.size at in
    let here = c.bit_at.ensures ∙ ap (bit_of c.args.coded.now.d) item in
    record {
      whole = length-set c.loop-i.bits c.loop-i.i _ ∙ c.loop-i.invariant.whole;
      each = rw here (fill_by_more (λ (i : ℕ). bit_of c.args.coded.now.d (item_of k c.args.rv i)) c.loop-i.bits c.loop-i.i false (omega (arith, c.loop-i.invariant.whole)) c.loop-i.invariant.each);
      at = c.step.ensures.next ∙ one_more k c.args.rv c.loop-i.i c.loop-i.walk at;
    }

pub returns : goal.returns
returns c =
    values_below_is false _ (λ (i : ℕ). bit_of c.args.coded.now.d (item_of c.args.coded.now.k c.args.rv i)) c.loop-i.bits c.loop-i.invariant.whole
    (λ k inside. c.loop-i.invariant.each k (omega (arith, inside, c.loop-i-test.false, c.loop-i.invariant.whole)))
