-- Rounds in succession.
use Rattle.std.proofs.Common.{◌≡◌, ℕ, zero, suc, ◌-◌, ◌<◌, arith, sym, subst, List, ◌∷◌, Bool, Option, Some}
use Rattle.cs_num.specs.declared.Sample.{Sample}
use Rattle.lte_types.specs.declared.entry.Entry.{Entry}
use Rattle.successive_cancel.specs.declared.round.Round.{Round}
use Rattle.successive_cancel.specs.Rounds.{IsRound, AreRounds}
use Rattle.successive_cancel.specs.Steps.{IsNextRound}

pub next_round : (most : ℕ) (recording : List Sample) (list : List Entry) (round : Round) (found : Option Round) (others : List Entry) (rest rounds : List Round) (ended : Bool) → 0 < most →
    IsNextRound recording list found → found ≡ Some round → others ≡ round.list → AreRounds (most - 1) round.taken.residue others rest ended → rounds ≡ round ∷ rest →
    AreRounds most recording list rounds ended
next_round zero recording list round found others rest rounds ended some is same its more e = absurd (omega (arith, some))
next_round (suc n) recording list round found others rest rounds ended some is same its more e =
    let less : suc n - 1 ≡ n = omega arith in
    subst (λ (rs : List Round). AreRounds (suc n) recording list rs ended) (sym e) (
      subst (IsNextRound recording list) same is,
      subst (λ m. AreRounds m round.taken.residue round.list rest ended) less (subst (λ (l : List Entry). AreRounds (suc n - 1) round.taken.residue l rest ended) its more),
    )

-- a found round is the next round
pub round_found : (recording : List Sample) (list : List Entry) (round : Round) (found : Option Round) → IsNextRound recording list found → found ≡ Some round → IsRound recording list round
round_found recording list round found is same = subst (IsNextRound recording list) same is
