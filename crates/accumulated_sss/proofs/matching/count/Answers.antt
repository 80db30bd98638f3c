use Rattle.std.proofs.Common.{◌≡◌, ◌∙◌, ◌+◌, ◌≤◌, Bool, true, false, cond, ℤ, int_eq, refl, arith, sym, ap, ap₂, to_z, of_z, FitsSigned}
use mir.Val.{bool_byte}
use Rattle.std.specs.Prelude.{nat_eq}
use Rattle.std.specs.Int.{w8}
use Rattle.std.specs.Bool.{one_answer}
use Rattle.std.proofs.lemmas.Bool.Decides.{Decides-eqb, Decides-int_eq}
use Rattle.std.proofs.lemmas.Int.{to_z-of_z, fits_signed_from_abs}
use Rattle.finite.proofs.Items.{item-within}
use Rattle.accumulated_sss.specs.Signs.{matches}
use Rattle.accumulated_sss.specs.Steps.{number_at}
use Rattle.accumulated_sss.proofs.Turns.{matches_none, matches_more}
use Rattle.accumulated_sss.proofs.matching.count.Goals as goal

-- 8-bit numbers are equal if their bits are
equal_bits : (a b : ℤ) → FitsSigned w8 a → FitsSigned w8 b → nat_eq (of_z w8 a) (of_z w8 b) ≡ int_eq a b
equal_bits a b f g =
    one_answer _ _ (
      λ e. sym (to_z-of_z w8 a f) ∙ ap (to_z w8) ((Decides-eqb (of_z w8 a) (of_z w8 b)).0 e) ∙ to_z-of_z w8 b g,
      λ e. (Decides-eqb (of_z w8 a) (of_z w8 b)).1 (ap (of_z w8) e),
    )
    (Decides-int_eq a b)

byte_is : (b : Bool) → bool_byte b ≡ cond b 1 0
byte_is true = refl
byte_is false = refl

byte-le : (b : Bool) → bool_byte b ≤ 1
byte-le true = omega arith
byte-le false = omega arith

pub loop-n-init : goal.loop-n-init
loop-n-init c = record { so_far = sym (matches_none (number_at c.args.signs.now) (number_at c.args.sequence.now)); small = omega arith }

pub loop-n-preserved : goal.loop-n-preserved
loop-n-preserved c =
    let n = c.loop-n.n in
    let a = number_at c.args.signs.now n in
    let b = number_at c.args.sequence.now n in
    let small_a = item-within 1 c.args.signs.now n c.requires.signs in
    let small_b = item-within 1 c.args.sequence.now n c.requires.sequence in
    let equal = equal_bits a b (fits_signed_from_abs w8 a (omega (arith, small_a))) (fits_signed_from_abs w8 b (omega (arith, small_b))) in
    let bit = nat_eq (of_z w8 a) (of_z w8 b) in
    let one = byte-le bit in
    record {
      so_far = ap₂ ◌+◌ c.loop-n.invariant.so_far (byte_is bit ∙ ap (λ t. cond t 1 0) equal)
          ∙ sym (matches_more n (number_at c.args.signs.now) (number_at c.args.sequence.now));
      small = omega (arith, one);
    }

pub returns-clause-value : goal.returns-clause-value
returns-clause-value c =
    let last : c.loop-n.n ≡ 62 = omega arith in
    c.loop-n.invariant.so_far ∙ ap (λ n. matches n (number_at c.args.signs.now) (number_at c.args.sequence.now)) last
