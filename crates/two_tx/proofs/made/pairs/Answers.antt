use Rattle.std.proofs.Common.{◌≡◌, ℕ, ap, ap₂, ◌∙◌, List, [], ◌∷◌, arith, subst, sym}
use Rattle.std.proofs.lemmas.Int.{ints}
use Rattle.cs_num.specs.declared.Cpx.{Cpx}
use Rattle.cs_num.specs.Complex.{IsWithin, value_at}
use Rattle.lte_types.specs.declared.carrier.Carrier.TheVariants.{TwoPorts}
use Rattle.capture_make.specs.Recipe.{gains, first_gain, second_gain}
use Rattle.two_tx.proofs.made.pairs.Goals as goal

first_within : (n : ℕ) → IsWithin 32767 (first_gain n)
first_within n = record { re = omega (arith, ints); im = omega (arith, ints) }

second_within : (n : ℕ) → IsWithin 32767 (second_gain n)
second_within n = record { re = omega (arith, ints); im = omega (arith, ints) }

first_is : (n : ℕ) (list : List Cpx) → list ≡ gains TwoPorts n → value_at list 0 ≡ first_gain n
first_is n list e = ap (λ (l : List Cpx). value_at l 0) e

second_is : (n : ℕ) (list : List Cpx) → list ≡ gains TwoPorts n → value_at list 1 ≡ second_gain n
second_is n list e = ap (λ (l : List Cpx). value_at l 1) e

pub pair_of-requires : goal.pair_of-requires
pair_of-requires c = subst (IsWithin 32767) (sym (first_is c.args.n c.gains-gains.result c.gains-gains.ensures)) (first_within c.args.n)

pub pair_of-requires-2 : goal.pair_of-requires-2
pair_of-requires-2 c = subst (IsWithin 32767) (sym (second_is c.args.n c.gains-gains.result c.gains-gains.ensures)) (second_within c.args.n)

pub returns : goal.returns
returns c =
    ap₂ (λ (a b : Cpx). a ∷ b ∷ []) (c.pair_of.ensures ∙ first_is c.args.n c.gains-gains.result c.gains-gains.ensures)
    (c.pair_of-2.ensures ∙ second_is c.args.n c.gains-gains.result c.gains-gains.ensures)
