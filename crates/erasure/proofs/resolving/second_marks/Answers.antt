use Rattle.std.proofs.Common.{◌≡◌, ℕ, ◌<◌, ◌+◌, false, get_or, set, refl, subst, sym, arith, ◌∙◌}
use Rattle.std.proofs.lemmas.List.{length-set}
use Rattle.turbo_code.specs.Table.{interleaver}
use Rattle.turbo_code.proofs.TableFacts.{is_small}
use Rattle.turbo_code.proofs.Orders.{placed_more}
use Rattle.erasure.proofs.Agree.{placed_all}
use Rattle.erasure.proofs.resolving.second_marks.Goals as goal

pub bounds-found-i : goal.bounds-found-i
bounds-found-i c = let high = (is_small c.args.row.now c.requires.row).high in omega (arith, high, c.loop-i-test.true)

pub bounds-marks-interleaver : goal.bounds-marks-interleaver
bounds-marks-interleaver c = let high = (is_small c.args.row.now c.requires.row).high in omega (arith, high, c.interleaver.ensures.inside)

pub loop-i-preserved : goal.loop-i-preserved
loop-i-preserved c =
    let known = c.loop-i.invariant in
    let found = c.second_in_order_of-found.result in
    record {
      size = length-set c.loop-i.marks _ _ ∙ known.size;
      at = subst (λ p. (j : ℕ) → j < c.loop-i.i + 1 → get_or (set c.loop-i.marks p (get_or found c.loop-i.i false)) (interleaver c.args.row.now j) false ≡ get_or found j false)
          (sym c.interleaver.ensures.bit)
          (placed_more false c.args.row.now found c.loop-i.marks c.loop-i.i _ c.requires.row (omega (arith, c.loop-i-test.true)) known.size refl known.at);
    }

pub returns-clause-found : goal.returns-clause-found
returns-clause-found c = λ k inside.
    placed_all c.args.row.now c.second_in_order_of-found.result c.loop-i.marks c.loop-i.i k c.requires.row (omega (arith, c.loop-i-test.false)) c.loop-i.invariant.at inside
    ∙ c.second_in_order_of-found.ensures.found k inside
