use Rattle.std.proofs.Common.{sym, subst, List, string_bytes}
use Rattle.std.specs.List.{AllZip}
use Rattle.std.specs.Prelude.{String}
use Rattle.std.specs.declared.alloc.Global.{Global}
use Rattle.std.proofs.lemmas.Slice.Zip.{AllZip-long}
use Rattle.lte_types.specs.Carrier.{carriers}
use Rattle.lte_top.specs.Supporting.{IsEvidenceText}
use Rattle.lte_top.proofs.SupportedLists.{all_texts_are}
use Rattle.lte_top.proofs.supporting.text_of_each.Goals as goal

pub text_of_ruled-requires : goal.text_of_ruled-requires
text_of_ruled-requires c =
    let each = subst (λ (texts : List (String Global)). AllZip (λ carrier text. IsEvidenceText carrier c.args.recording.now (string_bytes text)) carriers texts) (sym c.deref.ensures.value) c.in_ok-texts.ensures in
    AllZip-long (λ carrier text. IsEvidenceText carrier c.args.recording.now (string_bytes text)) carriers _ each

pub returns : goal.returns
returns c =
    let each = subst (λ (texts : List (String Global)). AllZip (λ carrier text. IsEvidenceText carrier c.args.recording.now (string_bytes text)) carriers texts) (sym c.deref.ensures.value) c.in_ok-texts.ensures in
    all_texts_are c.args.recording.now _ c.text_of_ruled.result each c.text_of_ruled.ensures
