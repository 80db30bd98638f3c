use Rattle.std.proofs.Common.{◌∙◌, sym, Some, None, append-nil}
use Rattle.frequency_offset.proofs.OneCandidate.{one_candidate}
use Rattle.frequency_offset.proofs.candidate.add_candidate.Goals as goal

pub returns-in_ok-push-in-Some : goal.returns-in_ok-push-in-Some
returns-in_ok-push-in-Some c =
    one_candidate c.args.centred.now c.args.k c.args.candidates.now.items c.push.new.self.items (Some c.in-Some.candidate) c.requires.before
    (sym c.in-Some.is ∙ c.in_ok-candidate.ensures) c.in_ok-push-in-Some.ensures.items

pub returns-in-None : goal.returns-in-None
returns-in-None c =
    one_candidate c.args.centred.now c.args.k c.args.candidates.now.items c.args.candidates.now.items None c.requires.before
    (sym c.in-None.is ∙ c.in_ok-candidate.ensures) (sym (append-nil c.args.candidates.now.items))
