use Rattle.std.proofs.Common.{◌≡◌, ℕ, ◌+◌, ◌-◌, ◌*◌, ◌%◌, ◌<◌, ◌≤◌, inl, inr, get_or, List, sym, ◌∙◌, arith, length-set}
use Rattle.std.proofs.lemmas.Bool.{cases_lt}
use Rattle.tailbite.proofs.Pairs.{low_in, high_in, halves_more}
use Rattle.tailbite.proofs.passes.step_on.Invariants.{IsLeastIn, IsSteppedOn}
use Rattle.tailbite.proofs.passes.step_on.Goals as goal

pub loop-h-preserved : goal.loop-h-preserved
loop-h-preserved c =
    let h = c.loop-h.h in
    let costs = c.args.costs.now in
    let row = c.args.row.now in
    let inside : h < 32 = c.loop-h-test.true in
    let low_small = c.requires.small h (omega (arith, inside)) in
    let high_small = c.requires.small (h + 32) (omega (arith, inside)) in
    let from : 2 * (h % 32) ≡ 2 * h = omega (arith, inside) in
    let from' : 2 * ((h + 32) % 32) ≡ 2 * h = omega (arith, inside) in
    let both =
    halves_more (IsLeastIn costs row) c.loop-h.later h c.min.result c.min-in-loop-h.result inside c.loop-h.invariant.size c.loop-h.invariant.low c.loop-h.invariant.high
    (c.min.ensures ∙ sym (low_in costs row h inside), rw from (omega (arith, c.min.ensures, low_small)))
    (c.min-in-loop-h.ensures ∙ sym (high_in costs row h inside), rw from' (omega (arith, c.min-in-loop-h.ensures, high_small))) in
    record { size = simp length-set c.loop-h.invariant.size; low = both.0; high = both.1 }

-- a property of both halves holds for all states
all_of : (costs row later : List ℕ) (h : ℕ) → IsSteppedOn costs row later h → 32 ≤ h → (x : ℕ) → x < 64 → IsLeastIn costs row x (get_or later x 0)
all_of costs row later h done all x below = elim (cases_lt x 32) [
  | inl low ↦ done.low x (omega (arith, low, all))
  | inr high ↦ let e : x - 32 + 32 ≡ x = omega (arith, high) in rw e at (done.high (x - 32) (omega (arith, high, below, all)))
]

pub returns-clause-least : goal.returns-clause-least
returns-clause-least c x below = (all_of _ _ _ _ c.loop-h.invariant (omega arith) x below).0

pub returns-clause-size : goal.returns-clause-size
returns-clause-size c = c.loop-h.invariant.size

pub returns-clause-growth : goal.returns-clause-growth
returns-clause-growth c x below = (all_of _ _ _ _ c.loop-h.invariant (omega arith) x below).1
