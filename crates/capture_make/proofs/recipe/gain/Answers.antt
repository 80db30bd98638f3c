use Rattle.std.proofs.Common.{◌≡◌, ℕ, ◌+◌, ◌%◌, ◌≤◌, false, true, pos, to_z, w16, arith, sym, subst}
use Rattle.std.proofs.lemmas.Int.{ints}
use Rattle.cs_num.specs.Gain.{IsGain, with_parts}
use Rattle.cs_num.proofs.Complex.{pair}
use Rattle.capture_make.specs.Recipe.{gain}
use Rattle.capture_make.proofs.Samples.{gain_fits}
use Rattle.capture_make.proofs.recipe.gain.Goals as goal

part : (m : ℕ) → m ≤ 28 → to_z w16 m ≡ pos m
part m h = omega (arith, ints)

parts : (n : ℕ) → with_parts (to_z w16 (1 + n % 19)) (to_z w16 (n % 20)) ≡ gain n
parts n = pair (part (1 + n % 19) (omega arith)) (part (n % 20) (omega arith))

pub unreachable-requires : goal.unreachable-requires
unreachable-requires c =
    let there : false ≡ true = c.in-None.ensures.valid.1 (subst IsGain (sym (parts c.args.n)) (gain_fits c.args.n)) in
    absurd cc
