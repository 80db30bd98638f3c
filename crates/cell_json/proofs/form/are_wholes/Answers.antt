use Rattle.std.proofs.Common.{is_some, option_and_then, ap, ◌∙◌, rules, tests, refl}
use Rattle.std.proofs.lemmas.Iterator.{YieldsList-from_slice}
use Rattle.std.proofs.lemmas.Iterator.Search.{all_from_yields_List}
use Rattle.serde_json.specs.View.{view}
use Rattle.cell_json.specs.Kinds.{whole_of, each}
use Rattle.cell_json.proofs.Lists.{all_are}
use Rattle.cell_json.proofs.form.are_wholes.Goals as goal

pub returns-in-Some : goal.returns-in-Some
returns-in-Some c =
    let items = c.in-Some.items.now.items in
    all_from_yields_List (λ v. is_some (whole_of (view v))) _ _ c.all.result c.all.ensures.ran (YieldsList-from_slice items cc) (λ x b q k. search (rules, tests))
    ∙ all_are whole_of (λ v. is_some (whole_of (view v))) (λ v. refl) items
    ∙ ap (λ found. is_some (option_and_then (each whole_of) found)) c.in-Some.ensures
