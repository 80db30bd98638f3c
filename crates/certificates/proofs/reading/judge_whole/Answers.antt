use Rattle.std.proofs.Common.{refl, arith}
use Rattle.certificates.proofs.Fronts.{first_of_whole}
use Rattle.certificates.proofs.reading.judge_whole.Goals as goal

pub returns-in-Err : goal.returns-in-Err
returns-in-Err c = first_of_whole _ _ (omega (arith, c.requires.fits)) ((c.in-Err.ensures.refused c.in-Err.bad.place).0 refl)
