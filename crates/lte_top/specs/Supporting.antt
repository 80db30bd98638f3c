-- The evidence for the cells in a recording's lists. (own)
use Rattle.std.specs.Prelude.{◌≡◌, ℕ, Bool, Option, Some, None, List}
use Rattle.std.specs.List.{AllZip}
use Rattle.cs_num.specs.declared.Sample.{Sample}
use Rattle.lte_types.specs.declared.entry.Entry.{Entry}
use Rattle.lte_types.specs.declared.carrier.Carrier.{Carrier}
use Rattle.evidence.specs.declared.measured.Measured.{Measured}
use Rattle.evidence.specs.Evidence.{IsMeasuredFor}
use Rattle.evidence.specs.Receivers.{receiver_of}
use Rattle.evidence.specs.Shown.{IsShownFor, with_blocks}
use Rattle.halving.specs.Wide.{Wide, narrowed}
use Rattle.wide_list.specs.Bits.{AreWideBits}
use Rattle.report_text.specs.All.{ruled_texts}
use Rattle.report_text.specs.Evidence.{evidence_text}
use Rattle.report_json.specs.Evidence.{evidence_json}
use Rattle.report_json.specs.Supported.{Supported, supported_json}
use Rattle.lte_args.specs.declared.form.Lists.{Lists}
use Rattle.lte_args.specs.declared.form.Lists.TheVariants.{Of as ListOf, All as AllLists}
use Rattle.lte_args.specs.declared.form.Output.{Output}
use Rattle.lte_args.specs.declared.form.Output.TheVariants.{Text, Json}
use Rattle.lte_top.specs.Line.{IsLine}
use Rattle.lte_top.specs.Searching.{IsListOf, IsWideListOf}
use Rattle.lte_top.specs.declared.reading.Signal.{Signal}

-- ---- one transmission scheme

-- `text` is the evidence for each listed cell, in listing order, as lines of text
pub record IsEvidenceText (carrier : Carrier) (samples : List Sample) (text : List ℕ) : Type 0 where
  pub entries : List Entry
  pub is_list : IsListOf carrier samples entries
  pub measured : List Measured
  pub each : AllZip (IsMeasuredFor (receiver_of carrier) samples) entries measured
  pub text_is : text ≡ evidence_text measured

-- `list` is the cell list for a transmission scheme, with the measurements of each cell and its slot, and the bits in
-- the cell's blocks
pub record IsSupportedList (carrier : Carrier) (samples : List Sample) (list : Supported) : Type 0 where
  pub is_list : IsListOf carrier samples list.entries
  pub each : AllZip (IsShownFor (receiver_of carrier) samples) list.entries list.shown

-- `list` is the cell list of a wide recording, with what supports each cell at 1.92 million samples per second; where
-- SIB1 is read from the wide samples, the bits are those of the block that carried it there
pub record IsWideSupportedList (carrier : Carrier) (wide : Wide) (list : Supported) : Type 0 where
  pub is_list : IsWideListOf carrier wide list.entries
  pub narrow : Supported
  pub is_narrow : IsSupportedList carrier (narrowed wide) narrow
  pub blocks : List (List Bool)
  pub are_blocks : AllZip (AreWideBits carrier wide) narrow.entries blocks
  pub shown_is : list.shown ≡ with_blocks narrow.shown blocks

-- the supported list of samples at 1.92 million per second, or of the wide recording from which they are converted
abbrev pub IsSupportedWith : Option Wide → Carrier → List Sample → Supported → Type 0
IsSupportedWith None carrier samples list = IsSupportedList carrier samples list
IsSupportedWith (Some wide) carrier samples list = IsWideSupportedList carrier wide list

-- the list that `search` writes for a transmission scheme, with what supports each cell
abbrev pub IsSupportedAt : Carrier → Signal → Supported → Type 0
IsSupportedAt carrier signal = IsSupportedWith signal.wide carrier signal.narrow

-- `text` is the evidence for each listed cell, with the pilots and soft values of its slot and the bits in its blocks,
-- as JSON
pub record IsEvidenceJson (carrier : Carrier) (signal : Signal) (text : List ℕ) : Type 0 where
  pub list : Supported
  pub is_list : IsSupportedAt carrier signal list
  pub text_is : text ≡ evidence_json list.shown

-- the text is on the samples at 1.92 million per second
abbrev pub IsEvidenceOf : Carrier → Output → Signal → List ℕ → Type 0
IsEvidenceOf carrier Text signal text = IsEvidenceText carrier signal.narrow text
IsEvidenceOf carrier Json signal text = IsLine (IsEvidenceJson carrier signal) text

-- ---- all transmission schemes

-- `text` is the evidence for every transmission scheme's list, each under the line with the scheme's name
pub record IsEvidenceTextOfAll (samples : List Sample) (text : List ℕ) : Type 0 where
  pub texts : Carrier → List ℕ
  pub are_texts : (carrier : Carrier) → IsEvidenceText carrier samples (texts carrier)
  pub text_is : text ≡ ruled_texts texts

-- `text` is the cells in every transmission scheme's list, each with its evidence, as JSON
pub record IsEvidenceJsonOfAll (signal : Signal) (text : List ℕ) : Type 0 where
  pub lists : Carrier → Supported
  pub are_lists : (carrier : Carrier) → IsSupportedAt carrier signal (lists carrier)
  pub text_is : text ≡ supported_json lists

abbrev pub IsEvidenceOfAll : Output → Signal → List ℕ → Type 0
IsEvidenceOfAll Text signal text = IsEvidenceTextOfAll signal.narrow text
IsEvidenceOfAll Json signal text = IsLine (IsEvidenceJsonOfAll signal) text

-- ---- one or all

abbrev pub IsEvidence : Lists → Output → Signal → List ℕ → Type 0
IsEvidence (ListOf carrier) output signal text = IsEvidenceOf carrier output signal text
IsEvidence AllLists output signal text = IsEvidenceOfAll output signal text
