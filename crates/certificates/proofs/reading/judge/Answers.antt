use Rattle.std.proofs.Common.{◌∙◌, refl, arith, inl, inr}
use Rattle.certificates.proofs.Fronts.{first_of_front, sound_by_end, sound_by_head}
use Rattle.certificates.proofs.reading.judge.Goals as goal

pub judge_whole-requires-clause-fits : goal.judge_whole-requires-clause-fits
judge_whole-requires-clause-fits c =
    let (long, same, sound) = sound_by_head c.args.part.now c.min.result c.min.ensures (c.in-Ok.ensures.unbroken.0 refl) in
    omega (arith, c.requires.fits, c.if-part-whole.false, c.in-Ok.ensures.ok, same)

pub returns-in-Err : goal.returns-in-Err
returns-in-Err c = first_of_front c.args.part.now c.min.result c.in-Err.bad.place c.if-bad-front.true ((c.in-Err.ensures.refused c.in-Err.bad.place).0 refl)

pub returns-in-Err-2 : goal.returns-in-Err-2
returns-in-Err-2 c =
    let (few, sound) = sound_by_end c.args.part.now c.min.result c.in-Err.bad.place c.min.ensures c.if-bad-front.false ((c.in-Err.ensures.refused c.in-Err.bad.place).0 refl) in
    (few, inl refl, sound)

pub returns-in-Ok : goal.returns-in-Ok
returns-in-Ok c =
    let (long, same, sound) = sound_by_head c.args.part.now c.min.result c.min.ensures (c.in-Ok.ensures.unbroken.0 refl) in
    (c.if-part-whole.true, inr (long, c.in-Ok.ensures.ok ∙ same), sound)
