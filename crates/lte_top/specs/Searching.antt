-- A recording's cell lists under every rule, and their texts. (own)
use Rattle.std.specs.Prelude.{◌≡◌, ℕ, Option, Some, None, List}
use Rattle.cs_num.specs.declared.Sample.{Sample}
use Rattle.lte_types.specs.declared.entry.Entry.{Entry}
use Rattle.lte_types.specs.declared.carrier.Carrier.{Carrier}
use Rattle.clean_air.specs.Clean.{IsListBy}
use Rattle.halving.specs.Wide.{Wide, narrowed}
use Rattle.wide_list.specs.List.{IsWideListFor}
use Rattle.explain.specs.Deciding.{AreDecidedFor}
use Rattle.evidence.specs.Receivers.{receiver_of}
use Rattle.report_json.specs.Rounds.{IsCancelJson}
use Rattle.report_text.specs.Rounds.{IsCancelText}
use Rattle.report_text.specs.All.{all_text}
use Rattle.report_json.specs.All.{all_json}
use Rattle.report_json.specs.Cells.{json_text}
use Rattle.report_text.specs.Lines.{report_text}
use Rattle.lte_args.specs.declared.form.Rule.{Rule}
use Rattle.lte_args.specs.declared.form.Rule.TheVariants.{Of, Cancel, All}
use Rattle.lte_args.specs.declared.form.Output.{Output}
use Rattle.lte_args.specs.declared.form.Output.TheVariants.{Text, Json}
use Rattle.lte_top.specs.Line.{as_line, IsLine}
use Rattle.lte_top.specs.declared.reading.Signal.{Signal}

-- ---- one transmission scheme

-- the cell list for one transmission scheme, as defined by the scheme's receiver. It contains every cell that is nearest
-- at each of its PSS detections (`IsCellNearest`), and every cell that is heard (`IsHeardBy`). Among the latter are all
-- cells that are received through channels (`IsCellThrough`), and all for which the recording is faithful or clean.
abbrev pub IsListOf : Carrier → List Sample → List Entry → Type 0
IsListOf carrier = IsListBy (receiver_of carrier)

-- a law: two recordings that agree in their first 326,400 samples have the same list under each transmission scheme
abbrev pub FirstFramesDecideEach : Type 0
FirstFramesDecideEach = (carrier : Carrier) → AreDecidedFor (receiver_of carrier)

-- the cell list of a wide recording: the list of its samples at 1.92 million per second, for which all holds that
-- `IsListOf` states, with SIB1 from the wide samples where it is missing
pub record IsWideListOf (carrier : Carrier) (wide : Wide) (list : List Entry) : Type 0 where
  pub is_list : IsWideListFor (receiver_of carrier) wide list
  pub narrow : IsListOf carrier (narrowed wide) is_list.narrow

-- the cell list of samples at 1.92 million per second, or of the wide recording from which they are converted
abbrev pub IsListWith : Option Wide → Carrier → List Sample → List Entry → Type 0
IsListWith None carrier samples list = IsListOf carrier samples list
IsListWith (Some wide) carrier samples list = IsWideListOf carrier wide list

-- the cell list that `search` writes for one transmission scheme
abbrev pub IsListAt : Carrier → Signal → List Entry → Type 0
IsListAt carrier signal = IsListWith signal.wide carrier signal.narrow

-- ---- a cell list's text

abbrev pub list_text : Output → List Entry → List ℕ
list_text Text entries = report_text entries
list_text Json entries = as_line (json_text entries)

-- `text` is the cell list of a signal for one transmission scheme
pub record IsListText (carrier : Carrier) (output : Output) (signal : Signal) (text : List ℕ) : Type 0 where
  pub entries : List Entry
  pub is_list : IsListAt carrier signal entries
  pub text_is : text ≡ list_text output entries

-- ---- all transmission schemes

-- the text of one cell list per transmission scheme, in the order of `carriers`
abbrev pub lists_text : Output → (Carrier → List Entry) → List ℕ
lists_text Text lists = all_text lists
lists_text Json lists = as_line (all_json lists)

-- `text` contains the cell lists of a signal, one for each transmission scheme, in the format `output`
pub record IsTextOfAll (output : Output) (signal : Signal) (text : List ℕ) : Type 0 where
  pub lists : Carrier → List Entry
  pub are_lists : (carrier : Carrier) → IsListAt carrier signal (lists carrier)
  pub text_is : text ≡ lists_text output lists

-- ---- every rule

-- `text` is the cell list of `samples`, followed by each round of cancellation with the list of its residual
abbrev pub IsCancelled : Output → List Sample → List ℕ → Type 0
IsCancelled Text samples text = IsCancelText samples text
IsCancelled Json samples text = IsLine (IsCancelJson samples) text

abbrev pub IsSearch : Rule → Output → Signal → List ℕ → Type 0
IsSearch (Of carrier) output signal text = IsListText carrier output signal text
IsSearch Cancel output signal text = IsCancelled output signal.narrow text
IsSearch All output signal text = IsTextOfAll output signal text
