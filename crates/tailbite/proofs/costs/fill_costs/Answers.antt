use Rattle.std.proofs.Common.{◌≡◌, ◌≢◌, ℕ, ◌+◌, ◌<◌, List, [], length, get_or, set, ℤ, inl, inr, arith, get_or-set_other, get_or-set_same}
use Rattle.std.proofs.lemmas.Bool.{cases_lt}
use Rattle.tailbite.specs.Costs.{AreCosts, HaveCosts}
use Rattle.tailbite.proofs.costs.fill_costs.Goals as goal

costs_more : (values : List (List ℤ)) (tables : List (List ℕ)) (k : ℕ) (costs : List ℕ) → k < length tables →
    HaveCosts values tables k → AreCosts (get_or values k []) costs → HaveCosts values (set tables k costs) (k + 1)
costs_more values tables k costs inside known here = record {
  place = λ i below. elim (cases_lt i k) [
    | inl h ↦ let ne : i ≢ k = omega (arith, h) in rw (get_or-set_other tables k i costs [] ne) (known.place i h)
    | inr h ↦ let e : i ≡ k = omega (arith, h, below) in rw (e, get_or-set_same tables k costs [] inside) here
  ];
}

pub loop-k-init : goal.loop-k-init
loop-k-init c = record { place = λ i below. absurd (omega (arith, below)) }

pub loop-k-preserved : goal.loop-k-preserved
loop-k-preserved c =
    costs_more c.args.values.now _ _ _ (omega (arith, c.loop-k.auto.tables, c.requires.room, c.loop-k-test.true)) c.loop-k.invariant c.costs_of.ensures

pub returns-clause-costs : goal.returns-clause-costs
returns-clause-costs c = record { place = λ i below. c.loop-k.invariant.place i (omega (arith, below, c.loop-k-test.false)) }
