-- The JSON of a recording's rounds is unique.
use Rattle.std.proofs.Common.{◌∙◌, sym, List, ℕ, Bool}
use Rattle.std.specs.Prelude.{codes}
use Rattle.serde_json.specs.Data.{boolean, object, member, no_members}
use Rattle.serde_json.specs.Written.{compact_text}
use Rattle.lte_types.specs.declared.entry.Entry.{Entry}
use Rattle.successive_cancel.specs.declared.round.Round.{Round}
use Rattle.successive_cancel.proofs.Once.{one_made}
use Rattle.report_parts.specs.Fields.{list_of}
use Rattle.report_json.specs.Cells.{report_value}
use Rattle.report_json.specs.Rounds.{round_value, rounds_json, IsOneCancelJson}

json_with : List Entry → List Round → Bool → List ℕ
json_with list rounds ended = compact_text (object (
    member (codes "cells") (report_value list) (
    member (codes "ended") (boolean ended) (
    member (codes "rounds") (list_of round_value rounds) no_members))))

pub one_cancel_json : IsOneCancelJson
unfolding json_with rounds_json
one_cancel_json recording a b p q = p.text_is ∙ one_made json_with recording p.rounds q.rounds p.are q.are ∙ sym q.text_is
