use Rattle.std.proofs.Common.{zero, suc, arith}
use Rattle.pbch.proofs.by_phase.masters.Goals as goal

pub returns-clause-sums : goal.returns-clause-sums
returns-clause-sums c zero low inside = c.decoded_at-first.ensures.sums inside
returns-clause-sums c (suc zero) low inside = c.decoded_at-second.ensures.sums inside
returns-clause-sums c (suc (suc zero)) low inside = c.decoded_at-third.ensures.sums inside
returns-clause-sums c (suc (suc (suc zero))) low inside = c.decoded_at-fourth.ensures.sums inside
returns-clause-sums c (suc (suc (suc (suc phase)))) low inside = absurd (omega (arith, low))
