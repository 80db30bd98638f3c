use Rattle.std.proofs.Common.{◌∙◌, false, arith, refl}
use Rattle.std.proofs.lemmas.List.{length-replicate}
use Rattle.turbo_code.proofs.Encoding.{parities_none, parities_more, parities_all, tails_x, tails_z}
use Rattle.turbo_code.proofs.encoder.encoder_of.Goals as goal

pub loop-k-init : goal.loop-k-init
loop-k-init c = parities_none c.args.word.now _ _ (length-replicate 1024 false) (record { one = refl; two = refl; three = refl })

pub loop-k-preserved : goal.loop-k-preserved
loop-k-preserved c =
    let e = c.step.ensures in
    parities_more c.args.word.now c.loop-k.k c.loop-k.parities c.loop-k.register c.step.new.register c.step.result (let short = c.requires in omega (arith, short, c.loop-k-test.true)) e.last e.second e.third e.parity c.loop-k.invariant

pub returns-clause-parities : goal.returns-clause-parities
returns-clause-parities c = parities_all c.args.word.now c.loop-k.k c.loop-k.parities c.loop-k.register (omega arith) c.requires c.loop-k.invariant

pub returns-clause-x : goal.returns-clause-x
returns-clause-x c = c.tail_of.ensures.x ∙ tails_x c.args.word.now c.loop-k.k c.loop-k.register (omega arith) c.loop-k.invariant.shows

pub returns-clause-z : goal.returns-clause-z
returns-clause-z c = c.tail_of.ensures.z ∙ tails_z c.args.word.now c.loop-k.k c.loop-k.register (omega arith) c.loop-k.invariant.shows

pub returns-clause-whole : goal.returns-clause-whole
returns-clause-whole c = c.loop-k.invariant.size
