use Rattle.std.proofs.Common.{◌≡◌, nat_eq, ◌&&◌, ◌∙◌, rules}
use Rattle.serde_json.specs.View.{view}
use Rattle.cell_json.specs.Kinds.{has_all, key_count}
use Rattle.cell_json.specs.Description.{access_keys, selection_keys, schedule_keys}
use Rattle.cell_json.proofs.Tables.{sib1_parts}
use Rattle.cell_json.proofs.form.is_sib1.Goals as goal

pub returns-then-has_selection : goal.returns-then-has_selection
returns-then-has_selection c =
    let json = view c.args.value.now in
    let goal : c.has_schedule.result ≡ (nat_eq (key_count json) 14 && (has_all access_keys json && (has_all selection_keys json && has_all schedule_keys json))) = search rules in
    goal ∙ sib1_parts json
