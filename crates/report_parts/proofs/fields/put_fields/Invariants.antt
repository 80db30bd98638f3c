use Rattle.std.proofs.Common.{◌≡◌, drop, false}
use Rattle.serde_json.specs.View.{members_view}
use Rattle.serde_json.specs.Written.{members_have_float}
use Rattle.report_parts.specs.Fields.{put_fields}
use Rattle.report_parts.specs.Values.{fields_of}
use Rattle.report_parts.proofs.fields.put_fields.Given as goal

abbrev pub invariant-loop-field : goal.invariant-loop-field
invariant-loop-field l =
    (put_fields (fields_of (drop l.field-index l.fields)) (members_view l.members.entries) ≡ put_fields (fields_of l.fields) (members_view l.fn.members.entries))
    × (members_have_float (members_view l.fn.members.entries) ≡ false → members_have_float (members_view l.members.entries) ≡ false)
