use Rattle.std.proofs.Common.{◌+◌, refl, lit<, sym, subst}
use Rattle.cs_bits.specs.Polynomial.{generator_16, powers_below, has_power}
use Rattle.cs_bits.specs.Checks.{crc16_of}
use Rattle.cs_bits.proofs.Division.{kept_none, kept_more, kept_all, Kept}
use Rattle.cs_bits.proofs.crc.crc16.Goals as goal

pub loop-bit-init : goal.loop-bit-init
loop-bit-init c = record { fits = lit< tt; kept = kept_none 15 4129 c.args.bits.now }

pub loop-bit-preserved : goal.loop-bit-preserved
loop-bit-preserved c = record {
  fits = c.take_in_16-register.type_inv;
  kept = subst (λ n. Kept 15 4129 c.args.bits.now (c.loop-bit.bit-index + 1) n) (sym c.take_in_16-register.ensures) (kept_more 15 4129 c.args.bits.now c.loop-bit.bit-index c.loop-bit.register _ c.loop-bit-test.true refl c.loop-bit.invariant.kept);
}

pub returns : goal.returns
unfolding crc16_of generator_16 powers_below has_power
returns c = kept_all 15 4129 c.args.bits.now c.loop-bit.bit-index c.loop-bit.register c.loop-bit-test.false c.loop-bit.invariant.fits c.loop-bit.invariant.kept
