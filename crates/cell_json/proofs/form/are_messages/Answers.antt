use Rattle.std.proofs.Common.{is_some, option_and_then, ap, ◌∙◌, rules, tests}
use Rattle.std.proofs.lemmas.Iterator.{YieldsList-from_slice}
use Rattle.std.proofs.lemmas.Iterator.Search.{all_from_yields_List}
use Rattle.serde_json.specs.View.{view}
use Rattle.cell_json.specs.Kinds.{has_exactly, object_of, each}
use Rattle.cell_json.specs.Description.{message_keys}
use Rattle.cell_json.proofs.Lists.{is_given, all_are}
use Rattle.cell_json.proofs.form.are_messages.Goals as goal

pub returns-in-Some : goal.returns-in-Some
returns-in-Some c =
    let items = c.in-Some.items.now.items in
    all_from_yields_List (λ v. has_exactly message_keys (view v)) _ _ c.all.result c.all.ensures.ran (YieldsList-from_slice items cc) (λ x b q k. search (rules, tests))
    ∙ all_are (object_of message_keys) (λ v. has_exactly message_keys (view v)) (λ v. is_given (has_exactly message_keys (view v)) (view v)) items
    ∙ ap (λ found. is_some (option_and_then (each (object_of message_keys)) found)) c.in-Some.ensures
