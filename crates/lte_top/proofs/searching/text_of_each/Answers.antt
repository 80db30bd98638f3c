use Rattle.std.proofs.Common.{sym, subst, List}
use Rattle.std.specs.List.{AllZip}
use Rattle.std.proofs.lemmas.Slice.Zip.{AllZip-long}
use Rattle.lte_types.specs.declared.entry.Entry.{Entry}
use Rattle.lte_types.specs.Carrier.{carriers}
use Rattle.lte_top.specs.Searching.{IsListAt}
use Rattle.lte_top.proofs.OneList.{all_text_is}
use Rattle.lte_top.proofs.searching.text_of_each.Goals as goal

pub lists_text-requires : goal.lists_text-requires
lists_text-requires c =
    let signal = c.args.signal.now in
    let listed = subst (λ (lists : List (List Entry)). AllZip (λ carrier. IsListAt carrier signal) carriers lists) (sym c.deref.ensures.value) c.in_ok-lists.ensures in
    AllZip-long (λ carrier. IsListAt carrier signal) carriers _ listed

pub returns : goal.returns
returns c =
    let signal = c.args.signal.now in
    let listed = subst (λ (lists : List (List Entry)). AllZip (λ carrier. IsListAt carrier signal) carriers lists) (sym c.deref.ensures.value) c.in_ok-lists.ensures in
    all_text_is c.args.output signal _ c.lists_text.result listed c.lists_text.ensures
