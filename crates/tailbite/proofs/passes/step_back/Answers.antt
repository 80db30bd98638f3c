use Rattle.std.proofs.Common.{◌≡◌, ◌+◌, ◌*◌, ◌^◌, ◌<◌, ◌≤◌, false, get_or, set, sym, ◌∙◌, arith, length, length-set}
use Rattle.trellis.specs.Rows.{least_out}
use Rattle.trellis.proofs.Rows.{row_more}
use Rattle.tailbite.specs.Machine.{shift}
use Rattle.tailbite.specs.Costs.{shared_cost}
use Rattle.tailbite.proofs.Pairs.{even_out, odd_out, even_half, odd_half}
use Rattle.tailbite.proofs.passes.step_back.Goals as goal

pub loop-h-preserved : goal.loop-h-preserved
loop-h-preserved c =
    let h = c.loop-h.h in
    let costs = c.args.costs.now in
    let row = c.args.row.now in
    let known = c.loop-h.invariant in
    let low_small = c.requires.small h (omega arith) in
    let high_small = c.requires.small (h + 32) (omega arith) in
    record {
      even_size = simp length-set known.even_size;
      odd_size = simp length-set known.odd_size;
      even_least = row_more (λ k v. v ≡ least_out shift (shared_cost costs) row (2 * k)) _ _ _ (omega (arith, known.even_size)) known.even_least (c.min.ensures ∙ sym (even_out costs row h));
      even_growth = row_more (λ k v. v ≤ get_or row k 0 + 3 * 2 ^ 20) _ _ _ (omega (arith, known.even_size)) known.even_growth (omega (arith, c.min.ensures, low_small));
      odd_least = row_more (λ k v. v ≡ least_out shift (shared_cost costs) row (2 * k + 1)) _ _ _ (omega (arith, known.odd_size)) known.odd_least (c.min-in-loop-h.ensures ∙ sym (odd_out costs row h));
      odd_growth = row_more (λ k v. v ≤ get_or row k 0 + 3 * 2 ^ 20) _ _ _ (omega (arith, known.odd_size)) known.odd_growth (omega (arith, c.min-in-loop-h.ensures, high_small));
    }

pub loop-h-2-preserved : goal.loop-h-2-preserved
loop-h-2-preserved c =
    let h = c.loop-h-2.h in
    let costs = c.args.costs.now in
    let row = c.args.row.now in
    let done = c.loop-h.invariant in
    let here : h < c.loop-h.h = omega arith in
    let known = c.loop-h-2.invariant in
    let inside : 2 * h + 1 < length (set c.loop-h-2.earlier (2 * h) (get_or c.loop-h.even h 0)) = simp length-set (omega (arith, known.size)) in
    record {
      size = simp length-set known.size;
      least = λ k below.
          row_more (λ k v. v ≡ least_out shift (shared_cost costs) row k) _ _ _ inside
          (row_more (λ k v. v ≡ least_out shift (shared_cost costs) row k) _ _ _ (omega (arith, known.size)) known.least (done.even_least h here))
          (done.odd_least h here) k (omega (arith, below));
      growth = λ k below.
          row_more (λ k v. v ≤ get_or row (shift k false) 0 + 3 * 2 ^ 20) _ _ _ inside
          (row_more (λ k v. v ≤ get_or row (shift k false) 0 + 3 * 2 ^ 20) _ _ _ (omega (arith, known.size)) known.growth (rw (even_half h) (done.even_growth h here)))
          (rw (odd_half h) (done.odd_growth h here)) k (omega (arith, below));
    }
