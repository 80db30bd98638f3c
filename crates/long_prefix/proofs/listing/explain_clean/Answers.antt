use Rattle.long_prefix.proofs.HeldLong.{holds_plans, frames_are_single, reasons_are_long}
use Rattle.long_prefix.proofs.listing.explain_clean.Goals as goal

pub returns-clause-holds : goal.returns-clause-holds
returns-clause-holds c = holds_plans c.args.recording.now c.explain_clean_by.new.list c.explain_clean_by.ensures.list.holds

pub returns-clause-single : goal.returns-clause-single
returns-clause-single c = frames_are_single c.args.recording.now c.explain_clean_by.new.list c.explain_clean_by.ensures.list.explained

pub returns-clause-reason : goal.returns-clause-reason
returns-clause-reason c = reasons_are_long c.args.recording.now c.explain_clean_by.new.list c.explain_clean_by.ensures.list.explained
