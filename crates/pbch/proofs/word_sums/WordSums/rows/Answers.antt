use Rattle.std.proofs.Common.{◌≤◌, ◌∙◌, [], nat_abs, pos, refl, arith}
use Rattle.std.proofs.lemmas.List.{ext_get_or}
use Rattle.std.proofs.lemmas.List.Elements.{All-replicate}
use Rattle.finite.specs.Sizes.{AllWithin}
use Rattle.pbch.proofs.word_sums.WordSums.rows.Goals as goal

pub loop-k-init : goal.loop-k-init
loop-k-init c = record {
  whole = refl;
  each = λ j below. absurd (omega (arith, below));
  small = All-replicate (AllWithin 2032) 40 _ (All-replicate (λ value. nat_abs value ≤ 2032) 3 (pos 0) (omega arith));
}

pub returns-clause-rows : goal.returns-clause-rows
returns-clause-rows c =
    let whole = c.loop-k.invariant.whole in
    let last = c.loop-k-test.false in
    let decoded = c.self.invariant in
    ext_get_or [] c.loop-k.rows c.self.inside.rows (omega (arith, whole, decoded)) (λ j below. c.loop-k.invariant.each j (omega (arith, below, whole, last))) ∙ c.self.view_is
