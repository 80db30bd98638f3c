use Rattle.std.proofs.Common.{sym, subst}
use Rattle.dci.specs.Format1A.{IsSentFor, sent_word}
use Rattle.dci.proofs.Words.{sent_carries}
use Rattle.dci.proofs.writing.write.Goals as goal

pub returns-clause-word : goal.returns-clause-word
unfolding sent_word
returns-clause-word c = cc

pub returns-clause-carries : goal.returns-clause-carries
returns-clause-carries c = subst (λ bits. IsSentFor bits c.args.grant.now) (sym (returns-clause-word c)) (sent_carries c.args.grant.now c.requires)
