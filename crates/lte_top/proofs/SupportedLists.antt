-- A recording has one report on the evidence for its lists.
use Rattle.std.proofs.Common.{◌≡◌, ℕ, Bool, Option, Some, None, List, [], map, ap, ap₂, sym, subst, ◌∙◌, string_bytes}
use Rattle.std.proofs.Math.Path.{fun_ext}
use Rattle.std.proofs.lemmas.Result.{IfOk-weaker}
use Rattle.std.specs.Prelude.{IfOk, Result, String}
use Rattle.std.specs.List.{AllZip}
use Rattle.std.specs.declared.alloc.AllocError.{AllocError}
use Rattle.std.specs.declared.alloc.Global.{Global}
use Rattle.cs_num.specs.declared.Sample.{Sample}
use Rattle.lte_types.specs.declared.carrier.Carrier.{Carrier}
use Rattle.lte_types.specs.Carrier.{carriers}
use Rattle.evidence.specs.Evidence.{IsMeasuredFor}
use Rattle.evidence.specs.Receivers.{receiver_of}
use Rattle.evidence.specs.Shown.{IsShownFor, with_blocks}
use Rattle.evidence.proofs.Only.{one_for_each, one_shown_for_each}
use Rattle.halving.specs.Wide.{Wide, narrowed}
use Rattle.sample_file.specs.Recording.{IsRecording}
use Rattle.wide_list.specs.List.{IsWideListFor}
use Rattle.wide_list.specs.Bits.{AreWideBits}
use Rattle.wide_list.proofs.Lists.{zip_map, blocks_once, one_wide_list}
use Rattle.report_text.specs.All.{ruled_texts}
use Rattle.report_text.specs.Evidence.{evidence_text}
use Rattle.report_json.specs.Evidence.{evidence_json}
use Rattle.report_json.specs.Supported.{Supported, supported_json}
use Rattle.lte_args.specs.declared.form.Lists.{Lists}
use Rattle.lte_args.specs.declared.form.Lists.TheVariants.{Of as ListOf, All as AllLists}
use Rattle.lte_args.specs.declared.form.Output.{Output}
use Rattle.lte_args.specs.declared.form.Output.TheVariants.{Text, Json}
use Rattle.lte_top.specs.declared.reading.Signal.{Signal}
use Rattle.lte_top.specs.Supporting.{IsEvidenceText, IsSupportedList, IsWideSupportedList, IsSupportedWith, IsSupportedAt, IsEvidenceJson, IsEvidenceOf}
use Rattle.lte_top.specs.Supporting.{IsEvidenceTextOfAll, IsEvidenceJsonOfAll, IsEvidenceOfAll, IsEvidence}
use Rattle.lte_top.proofs.Carriers.{wide_list_holds}
use Rattle.lte_top.proofs.OneList.{by_scheme, one_line, one_list}

-- ---- one transmission scheme

one_evidence_text : (carrier : Carrier) (samples : List Sample) (first second : List ℕ) → IsEvidenceText carrier samples first → IsEvidenceText carrier samples second → first ≡ second
one_evidence_text carrier samples first second a b =
    let same = one_list carrier samples a.entries b.entries a.is_list b.is_list in
    let measured = one_for_each (receiver_of carrier) samples b.entries a.measured b.measured (subst (λ entries. AllZip (IsMeasuredFor (receiver_of carrier) samples) entries a.measured) same a.each) b.each in
    a.text_is ∙ ap evidence_text measured ∙ sym b.text_is

same_supported : (a b : Supported) → a.entries ≡ b.entries → a.shown ≡ b.shown → a ≡ b
same_supported a b entries shown i = record { entries = entries i; shown = shown i }

one_supported_list : (carrier : Carrier) (samples : List Sample) (first second : Supported) → IsSupportedList carrier samples first → IsSupportedList carrier samples second → first ≡ second
one_supported_list carrier samples first second a b =
    let same = one_list carrier samples first.entries second.entries a.is_list b.is_list in
    same_supported first second same
    (one_shown_for_each (receiver_of carrier) samples second.entries first.shown second.shown (subst (λ entries. AllZip (IsShownFor (receiver_of carrier) samples) entries first.shown) same a.each) b.each)

-- a wide recording has one cell list with what supports each cell
one_supported_wide : (carrier : Carrier) (wide : Wide) (first second : Supported) → IsWideSupportedList carrier wide first → IsWideSupportedList carrier wide second → first ≡ second
one_supported_wide carrier wide first second a b =
    let entries = one_wide_list (receiver_of carrier) wide first.entries second.entries a.is_list.is_list b.is_list.is_list in
    let narrow = one_supported_list carrier (narrowed wide) a.narrow b.narrow a.is_narrow b.is_narrow in
    let blocks = blocks_once carrier wide b.narrow.entries a.blocks b.blocks (subst (λ (list : Supported). AllZip (AreWideBits carrier wide) list.entries a.blocks) narrow a.are_blocks) b.are_blocks in
    same_supported first second entries
    (a.shown_is ∙ ap₂ (λ (list : Supported) (blocks : List (List Bool)). with_blocks list.shown blocks) narrow blocks ∙ sym b.shown_is)

one_supported_with : (wide : Option Wide) (carrier : Carrier) (samples : List Sample) (first second : Supported) → IsSupportedWith wide carrier samples first → IsSupportedWith wide carrier samples second →
    first ≡ second
one_supported_with None carrier samples first second a b = one_supported_list carrier samples first second a b
one_supported_with (Some wide) carrier samples first second a b = one_supported_wide carrier wide first second a b

one_supported_at : (carrier : Carrier) (signal : Signal) (first second : Supported) → IsSupportedAt carrier signal first → IsSupportedAt carrier signal second → first ≡ second
one_supported_at carrier signal first second a b = one_supported_with signal.wide carrier signal.narrow first second a b

-- the list of a wide recording, from that of its samples at 1.92 million per second
pub wide_support : (carrier : Carrier) (wide : Wide) (narrow list : Supported) (blocks : List (List Bool)) → IsRecording (narrowed wide) → IsSupportedList carrier (narrowed wide) narrow →
    IsWideListFor (receiver_of carrier) wide list.entries → AllZip (AreWideBits carrier wide) narrow.entries blocks → list.shown ≡ with_blocks narrow.shown blocks →
    IsWideSupportedList carrier wide list
wide_support carrier wide narrow list blocks valid is_narrow is_list are_blocks shown_is = record {
  is_list = wide_list_holds carrier wide list.entries valid is_list;
  narrow = narrow;
  is_narrow = is_narrow;
  blocks = blocks;
  are_blocks = are_blocks;
  shown_is = shown_is;
}

one_evidence_json : (carrier : Carrier) (signal : Signal) (first second : List ℕ) → IsEvidenceJson carrier signal first → IsEvidenceJson carrier signal second → first ≡ second
one_evidence_json carrier signal first second a b =
    a.text_is ∙ ap (λ (list : Supported). evidence_json list.shown) (one_supported_at carrier signal a.list b.list a.is_list b.is_list) ∙ sym b.text_is

one_evidence_of : (carrier : Carrier) (output : Output) (signal : Signal) (first second : List ℕ) → IsEvidenceOf carrier output signal first → IsEvidenceOf carrier output signal second → first ≡ second
one_evidence_of carrier Text signal first second a b = one_evidence_text carrier signal.narrow first second a b
one_evidence_of carrier Json signal first second a b = one_line (IsEvidenceJson carrier signal) (one_evidence_json carrier signal) first second a b

-- ---- all transmission schemes

-- one text per transmission scheme gives the text of all lists
pub all_texts_are : (samples : List Sample) (texts : List (String Global)) (r : Result (String Global) AllocError) →
    AllZip (λ carrier text. IsEvidenceText carrier samples (string_bytes text)) carriers texts →
    ((of : Carrier → List ℕ) → map string_bytes texts ≡ map of carriers → IfOk r (λ text. string_bytes text ≡ ruled_texts of)) → IfOk r (λ text. IsEvidenceTextOfAll samples (string_bytes text))
all_texts_are samples texts r each all =
    let values = zip_map (λ carrier. IsEvidenceText carrier samples) string_bytes carriers texts each in
    let by = by_scheme (λ carrier. IsEvidenceText carrier samples) (λ carrier. one_evidence_text carrier samples) [] (map string_bytes texts) values in
    IfOk-weaker r (λ text. string_bytes text ≡ ruled_texts by.0) (λ text. IsEvidenceTextOfAll samples (string_bytes text))
    (λ text is. record { texts = by.0; are_texts = by.1; text_is = is }) (all by.0 by.2)

-- one list per transmission scheme gives the JSON of all lists
pub all_lists_are : (signal : Signal) (lists : List Supported) (r : Result (String Global) AllocError) → AllZip (λ carrier. IsSupportedAt carrier signal) carriers lists →
    ((of : Carrier → Supported) → lists ≡ map of carriers → IfOk r (λ text. string_bytes text ≡ supported_json of)) → IfOk r (λ text. IsEvidenceJsonOfAll signal (string_bytes text))
all_lists_are signal lists r each all =
    let by = by_scheme (λ carrier. IsSupportedAt carrier signal) (λ carrier. one_supported_at carrier signal) (record { entries = []; shown = [] }) lists each in
    IfOk-weaker r (λ text. string_bytes text ≡ supported_json by.0) (λ text. IsEvidenceJsonOfAll signal (string_bytes text))
    (λ text is. record { lists = by.0; are_lists = by.1; text_is = is }) (all by.0 by.2)

one_text_of_all : (samples : List Sample) (first second : List ℕ) → IsEvidenceTextOfAll samples first → IsEvidenceTextOfAll samples second → first ≡ second
one_text_of_all samples first second a b =
    let same = fun_ext (λ (carrier : Carrier). one_evidence_text carrier samples (a.texts carrier) (b.texts carrier) (a.are_texts carrier) (b.are_texts carrier)) in
    a.text_is ∙ ap ruled_texts same ∙ sym b.text_is

one_json_of_all : (signal : Signal) (first second : List ℕ) → IsEvidenceJsonOfAll signal first → IsEvidenceJsonOfAll signal second → first ≡ second
one_json_of_all signal first second a b =
    let same = fun_ext (λ (carrier : Carrier). one_supported_at carrier signal (a.lists carrier) (b.lists carrier) (a.are_lists carrier) (b.are_lists carrier)) in
    a.text_is ∙ ap supported_json same ∙ sym b.text_is

one_evidence_of_all : (output : Output) (signal : Signal) (first second : List ℕ) → IsEvidenceOfAll output signal first → IsEvidenceOfAll output signal second → first ≡ second
one_evidence_of_all Text signal first second a b = one_text_of_all signal.narrow first second a b
one_evidence_of_all Json signal first second a b = one_line (IsEvidenceJsonOfAll signal) (one_json_of_all signal) first second a b

-- ---- one or all

pub one_evidence : (lists : Lists) (output : Output) (signal : Signal) (first second : List ℕ) → IsEvidence lists output signal first → IsEvidence lists output signal second → first ≡ second
one_evidence (ListOf carrier) output signal first second a b = one_evidence_of carrier output signal first second a b
one_evidence AllLists output signal first second a b = one_evidence_of_all output signal first second a b
