use Rattle.std.proofs.Common.{sym, subst, List}
use Rattle.std.specs.List.{AllZip}
use Rattle.std.proofs.lemmas.Slice.Zip.{AllZip-long}
use Rattle.lte_types.specs.Carrier.{carriers}
use Rattle.report_json.specs.Supported.{Supported}
use Rattle.lte_top.specs.Supporting.{IsSupportedAt}
use Rattle.lte_top.proofs.SupportedLists.{all_lists_are}
use Rattle.lte_top.proofs.supporting.json_of_each.Goals as goal

pub json_of_supported-requires : goal.json_of_supported-requires
json_of_supported-requires c =
    let each = subst (λ (lists : List Supported). AllZip (λ carrier. IsSupportedAt carrier c.args.signal.now) carriers lists) (sym c.deref.ensures.value) c.in_ok-lists.ensures in
    AllZip-long (λ carrier. IsSupportedAt carrier c.args.signal.now) carriers _ each

pub returns : goal.returns
returns c =
    let each = subst (λ (lists : List Supported). AllZip (λ carrier. IsSupportedAt carrier c.args.signal.now) carriers lists) (sym c.deref.ensures.value) c.in_ok-lists.ensures in
    all_lists_are c.args.signal.now _ c.json_of_supported.result each c.json_of_supported.ensures
