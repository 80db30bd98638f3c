-- Rounds in plain words.
use Rattle.std.proofs.Common.{◌∙◌, ℕ, zero, suc, ◌<◌, arith, refl, sym, subst, List, [], ◌∷◌, length, Bool, true≢false}
use Rattle.std.specs.List.{Contains}
use Rattle.std.proofs.lemmas.List.Elements.{Contains-append_right}
use Rattle.cs_num.specs.declared.Sample.{Sample}
use Rattle.lte_types.specs.declared.entry.Entry.{Entry}
use Rattle.successive_cancel.specs.declared.round.Round.{Round}
use Rattle.successive_cancel.specs.Rounds.{IsRound, AreRounds}
use Rattle.successive_cancel.specs.Laws.{IsRoundIn, AreInPlainWords, RoundsInPlainWords}

here : (recording : List Sample) (list : List Entry) (round : Round) (rest : List Round) → IsRound recording list round → IsRoundIn recording list (round ∷ rest) 0
here recording list round rest is = record {
  entry = is.entry;
  round = round;
  inside = subst (λ (l : List Entry). Contains l is.entry) (sym is.split) (Contains-append_right is.before (is.entry ∷ is.after) is.entry (0, omega arith, refl));
  taken = is.taken;
  residue = refl;
  listed = is.listed;
}

later : (recording : List Sample) (list : List Entry) (round : Round) (rest : List Round) (n : ℕ) → IsRoundIn round.taken.residue round.list rest n → IsRoundIn recording list (round ∷ rest) (suc n)
later recording list round rest n is = record { entry = is.entry; round = is.round; inside = is.inside; taken = is.taken; residue = is.residue; listed = is.listed }

none_each : (recording : List Sample) (list : List Entry) (n : ℕ) → n < 0 → IsRoundIn recording list [] n
none_each recording list n inside = absurd (omega (arith, inside))

each_more : (recording : List Sample) (list : List Entry) (round : Round) (rest : List Round) → IsRound recording list round →
    ((n : ℕ) → n < length rest → IsRoundIn round.taken.residue round.list rest n) → (n : ℕ) → n < length (round ∷ rest) → IsRoundIn recording list (round ∷ rest) n
each_more recording list round rest is more zero inside = here recording list round rest is
each_more recording list round rest is more (suc n) inside = later recording list round rest n (more n (omega (arith, inside)))

in_plain_words : (most : ℕ) (recording : List Sample) (list : List Entry) (rounds : List Round) (ended : Bool) → AreRounds most recording list rounds ended → AreInPlainWords most recording list rounds ended
in_plain_words zero recording list rounds ended are =
    subst (λ (r : List Round). AreInPlainWords 0 recording list r ended) (sym are.0) (record {
      few = omega arith;
      each = none_each recording list;
      fewer = (λ e. absurd (true≢false (sym e ∙ are.1)), λ less. absurd (omega (arith, less)));
      last = λ e. absurd (true≢false (sym e ∙ are.1));
    })
in_plain_words (suc n) recording list [] ended are = record {
  few = omega arith;
  each = none_each recording list;
  fewer = (λ e. omega arith, λ less. are.0);
  last = λ e. are.1;
}
in_plain_words (suc n) recording list (round ∷ rest) ended are =
    let more = in_plain_words n round.taken.residue round.list rest ended are.1 in
    let few = more.few in
    record {
      few = omega (arith, few);
      each = each_more recording list round rest are.0 more.each;
      fewer = (λ e. let less = more.fewer.0 e in omega (arith, less), λ less. more.fewer.1 (omega (arith, less)));
      last = more.last;
    }

pub rounds_are_in_plain_words : RoundsInPlainWords
rounds_are_in_plain_words recording rounds is = in_plain_words 4 recording rounds.first rounds.taken.items rounds.ended is.follow
