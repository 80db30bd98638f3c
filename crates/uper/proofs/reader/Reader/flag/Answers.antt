use Rattle.std.proofs.Common.{refl}
use Rattle.uper.specs.Grammar.{flag}
use Rattle.uper.specs.Reading.{reading}
use Rattle.uper.proofs.Reading.{reads_bind, fails_bind}
use Rattle.uper.proofs.Steps.{exit}
use Rattle.uper.proofs.reader.Reader.flag.Goals as goal

pub returns-in_err-bit : goal.returns-in_err-bit
unfolding flag
returns-in_err-bit c = exit _ _ _ _ c.in_err-bit.field-0.0 c.from_residual.ensures.1 (fails_bind _ _ _ _ c.in_err-bit.ensures.reads)

pub returns : goal.returns
unfolding flag reading
returns c = reads_bind _ _ _ _ _ _ c.in_ok-bit.ensures.reads refl
