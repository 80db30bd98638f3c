use Rattle.std.proofs.Common.{arith, ◌≡◌, ◌∙◌, sym}
use Rattle.std.proofs.lemmas.Bool.Decides.{nat_tests}
use Rattle.sync_seq.specs.Primary.{turns}
use Rattle.sync_seq.proofs.PrimaryValues.{pss_is}
use Rattle.sync_seq.proofs.primary.pss_value.Goals as goal

pub returns : goal.returns
returns c =
    let e : c.if-n-lt31.turns ≡ turns c.args.n = grind (arith, nat_tests) in
    c.z63.ensures ∙ rw (c.root.ensures.value, e) (sym (pss_is c.args.n2 c.args.n))
