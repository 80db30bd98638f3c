use Rattle.std.proofs.Common.{◌+◌, refl, lit<, sym, subst}
use Rattle.cs_bits.specs.Polynomial.{generator_24a, powers_below, has_power}
use Rattle.cs_bits.specs.Checks.{crc24a_of}
use Rattle.cs_bits.proofs.Division.{kept_none, kept_more, kept_all, Kept}
use Rattle.cs_bits.proofs.crc.crc24a.Goals as goal

pub loop-bit-init : goal.loop-bit-init
loop-bit-init c = record { fits = lit< tt; kept = kept_none 23 8801531 c.args.bits.now }

pub loop-bit-preserved : goal.loop-bit-preserved
loop-bit-preserved c = record {
  fits = c.take_in_24-register.ensures.fits;
  kept = subst (λ n. Kept 23 8801531 c.args.bits.now (c.loop-bit.bit-index + 1) n) (sym c.take_in_24-register.ensures.value) (kept_more 23 8801531 c.args.bits.now c.loop-bit.bit-index c.loop-bit.register _ c.loop-bit-test.true refl c.loop-bit.invariant.kept);
}

pub returns-clause-value : goal.returns-clause-value
unfolding crc24a_of generator_24a powers_below has_power
returns-clause-value c = kept_all 23 8801531 c.args.bits.now c.loop-bit.bit-index c.loop-bit.register c.loop-bit-test.false c.loop-bit.invariant.fits c.loop-bit.invariant.kept
