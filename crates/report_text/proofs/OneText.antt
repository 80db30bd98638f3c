-- The text of a recording's rounds is unique.
use Rattle.std.proofs.Common.{◌∙◌, sym, List, ◌++◌, ℕ, Bool}
use Rattle.std.specs.List.{flat_map}
use Rattle.std.specs.Prelude.{if◌then◌else◌, []}
use Rattle.lte_types.specs.declared.entry.Entry.{Entry}
use Rattle.successive_cancel.specs.declared.round.Round.{Round}
use Rattle.successive_cancel.proofs.Once.{one_made}
use Rattle.report_text.specs.Lines.{report_text}
use Rattle.report_text.specs.Cancelled.{cancelled_none}
use Rattle.report_text.specs.Rounds.{round_text, IsOneCancelText}

text_with : List Entry → List Round → Bool → List ℕ
text_with list rounds ended = report_text list ++ flat_map round_text rounds ++ (if ended then cancelled_none else [])

pub one_cancel_text : IsOneCancelText
unfolding text_with
one_cancel_text recording a b p q = p.text_is ∙ one_made text_with recording p.rounds q.rounds p.are q.are ∙ sym q.text_is
