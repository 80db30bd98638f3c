use Rattle.std.proofs.Common.{◌≡◌, take, map, string_bytes}
use Rattle.report_text.specs.Lines.{report_text}
use Rattle.report_text.proofs.all.list_texts.Given as goal

abbrev pub invariant-loop-list : goal.invariant-loop-list
invariant-loop-list l = map string_bytes l.texts.items ≡ map report_text (take l.list-index l.lists)
