use Rattle.std.proofs.Common.{◌≡◌, ◌++◌, take, string_bytes}
use Rattle.report_parts.specs.Fields.{text_of_fields}
use Rattle.report_parts.specs.Values.{fields_of}
use Rattle.report_parts.proofs.fields.add_fields.Given as goal

abbrev pub invariant-loop-field : goal.invariant-loop-field
invariant-loop-field l = string_bytes l.line ≡ string_bytes l.fn.line ++ text_of_fields (fields_of (take l.field-index l.fields))
