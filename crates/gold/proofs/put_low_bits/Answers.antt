use Rattle.std.proofs.Common.{sym, ap, ap₂, ◌∙◌, ◌++◌, ◌∷◌, [], ◌/◌, ◌%◌, ℕ, nat_eq, arith, refl, Bool, List}
use Rattle.std.proofs.lemmas.List.{take_more_set}
use Rattle.std.proofs.lemmas.Nat.{shr-shr, and_mask}
use Rattle.gold.specs.Register.{low_bits}
use Rattle.gold.proofs.Registers.{low_bits-more}
use Rattle.gold.proofs.put_low_bits.Goals as goal

pub loop-bit-init : goal.loop-bit-init
unfolding low_bits
loop-bit-init c = record { left = omega arith; written = refl }

pub loop-bit-preserved : goal.loop-bit-preserved
loop-bit-preserved c = record {
  left = ap (λ (n : ℕ). n / 2) c.loop-bit.invariant.left ∙ shr-shr c.args.number c.loop-bit.bit-index 1;
  written =
      take_more_set c.loop-bit.out c.loop-bit.bit-index _ (omega arith)
      ∙ ap₂ (λ (bits : List Bool) (n : ℕ). bits ++ (nat_eq n 1 ∷ [])) c.loop-bit.invariant.written
      (and_mask c.loop-bit.left 1 ∙ ap (λ (n : ℕ). n % 2) c.loop-bit.invariant.left)
      ∙ sym (low_bits-more c.loop-bit.bit-index c.args.number);
}
