use Rattle.std.proofs.Common.{sym, ◌∙◌}
use Rattle.serde_json.specs.View.{view, members_view}
use Rattle.serde_json.proofs.Views.{members_len-members_view}
use Rattle.cell_json.proofs.Forms.{members_are_keys}
use Rattle.cell_json.proofs.kinds.count_keys.Goals as goal

pub returns-in-Some : goal.returns-in-Some
returns-in-Some c =
    c.len.ensures.len ∙ sym (members_len-members_view c.in-Some.members.now.entries)
    ∙ members_are_keys (view c.args.value.now) (members_view c.in-Some.members.now.entries) c.in-Some.ensures
