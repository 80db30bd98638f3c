-- The arguments for each part of a command form, and for the complete form. (own)
use Rattle.std.specs.Prelude.{◌≡◌, ◌⊎◌, ℕ, ◌^◌, ◌<◌, ◌≤◌, ℤ, pos, negsuc, ◌≤ℤ◌, Option, Some, None, List, [], ◌∷◌, ◌++◌}
use Rattle.std.specs.Prelude.{codes}
use Rattle.std.specs.Fmt.{decimal, signed_decimal}
use Rattle.sample_file.specs.declared.form.SampleForm.{SampleForm}
use Rattle.sample_file.specs.declared.form.SampleForm.TheVariants.{Ci16, Cu8}
use Rattle.lte_types.specs.declared.carrier.Carrier.{Carrier}
use Rattle.lte_types.specs.declared.carrier.Carrier.TheVariants.{OnePort, TwoPorts, LongPrefix, FourPorts}
use Rattle.lte_args.specs.declared.form.Program.{Program}
use Rattle.lte_args.specs.declared.form.Program.TheVariants.{Receiver, Tuner}
use Rattle.lte_args.specs.declared.form.Rate.{Rate}
use Rattle.lte_args.specs.declared.form.Rate.TheVariants.{Times1, Times2, Times4, Times8, Times16}
use Rattle.lte_args.specs.declared.form.RecordingForm.{RecordingForm}
use Rattle.lte_args.specs.declared.form.Form.{Form}
use Rattle.lte_args.specs.declared.form.Form.TheVariants.{Report as Reports, Certify, Check, Transmit, Make}
use Rattle.lte_args.specs.declared.form.Form.TheVariants.{Apply, Print}
use Rattle.lte_args.specs.declared.form.Report.{Report}
use Rattle.lte_args.specs.declared.form.Report.TheVariants.{Hits, Ids, Deep, Search, Evidence, Tell, Why}
use Rattle.lte_args.specs.declared.form.Span.{Span}
use Rattle.lte_args.specs.declared.form.Span.TheVariants.{First, All as AllSamples}
use Rattle.lte_args.specs.declared.form.Lists.{Lists}
use Rattle.lte_args.specs.declared.form.Lists.TheVariants.{Of as ListOf, All as AllLists}
use Rattle.lte_args.specs.declared.form.Rule.{Rule}
use Rattle.lte_args.specs.declared.form.Rule.TheVariants.{Of, Cancel, All}
use Rattle.lte_args.specs.declared.form.Output.{Output}
use Rattle.lte_args.specs.declared.form.Output.TheVariants.{Text, Json}
use Rattle.lte_args.specs.declared.form.Turn.{Turn}
use Rattle.lte_args.specs.declared.form.Turn.TheVariants.{AsEstimated, Steps}
use Rattle.lte_args.specs.declared.form.Page.{Page}
use Rattle.lte_args.specs.declared.form.Page.TheVariants.{Help, Version}

-- the program's name
abbrev pub name_of : Program → List ℕ
name_of Receiver = codes "lte_cli"
name_of Tuner = codes "lte_tune"

-- a sample rate's exponent r: the rate is 1.92 * 2^r million samples per second
abbrev pub exponent_of : Rate → ℕ
exponent_of Times1 = 0
exponent_of Times2 = 1
exponent_of Times4 = 2
exponent_of Times8 = 3
exponent_of Times16 = 4

-- ---- the arguments of each part, as bytes, in the order in which they appear

-- the arguments of a sample format; none for 16-bit samples, the default
abbrev pub samples_words : SampleForm → List (List ℕ)
samples_words Ci16 = []
samples_words Cu8 = codes "--format" ∷ codes "cu8" ∷ []

-- the name of a sample rate: its million samples per second
abbrev pub rate_word : Rate → List ℕ
rate_word Times1 = codes "1.92"
rate_word Times2 = codes "3.84"
rate_word Times4 = codes "7.68"
rate_word Times8 = codes "15.36"
rate_word Times16 = codes "30.72"

-- the arguments of an optional sample rate; none without a rate
abbrev pub rate_words : Option Rate → List (List ℕ)
rate_words None = []
rate_words (Some rate) = codes "--rate" ∷ rate_word rate ∷ []

-- the arguments of a recording's form: its sample format, then its sample rate
abbrev pub recording_words : RecordingForm → List (List ℕ)
recording_words form = samples_words form.samples ++ rate_words form.rate

-- the arguments of an output format; none for text, the default
abbrev pub output_words : Output → List (List ℕ)
output_words Text = []
output_words Json = codes "--json" ∷ []

-- the arguments of a transmission scheme; none for one antenna port, the default
abbrev pub carrier_words : Carrier → List (List ℕ)
carrier_words OnePort = []
carrier_words TwoPorts = codes "--ports" ∷ codes "2" ∷ []
carrier_words LongPrefix = codes "--prefix" ∷ codes "long" ∷ []
carrier_words FourPorts = codes "--ports" ∷ codes "4" ∷ []

-- the arguments of an optional load number; none without a load
abbrev pub load_words : Option ℕ → List (List ℕ)
load_words None = []
load_words (Some n) = codes "--load" ∷ decimal n ∷ []

-- the arguments that select the samples of `ids --deep`; none for the first 170 ms, the default
abbrev pub span_words : Span → List (List ℕ)
span_words First = []
span_words AllSamples = codes "all" ∷ []

-- the arguments that select a report's cell lists
abbrev pub lists_words : Lists → List (List ℕ)
lists_words (ListOf carrier) = carrier_words carrier
lists_words AllLists = codes "--all" ∷ []

-- the arguments of a cell list's rule
abbrev pub rule_words : Rule → List (List ℕ)
rule_words (Of carrier) = lists_words (ListOf carrier)
rule_words Cancel = codes "--cancel" ∷ []
rule_words All = lists_words AllLists

-- the arguments of a report: its command, then, if it has them, its samples, cell identity, rule, lists or transmission
-- scheme
abbrev pub report_words : Report → List (List ℕ)
report_words Hits = codes "hits" ∷ []
report_words Ids = codes "ids" ∷ []
report_words (Deep span) = codes "ids" ∷ codes "--deep" ∷ span_words span
report_words (Search rule) = codes "search" ∷ rule_words rule
report_words (Evidence lists) = codes "evidence" ∷ lists_words lists
report_words Tell = codes "tell" ∷ []
report_words (Why identity carrier) = codes "why" ∷ decimal identity ∷ carrier_words carrier

-- the arguments of a frequency correction; none for correction by the estimated offset, the default
abbrev pub turn_words : Turn → List (List ℕ)
turn_words AsEstimated = []
turn_words (Steps m) = signed_decimal m ∷ []

-- `words` does not begin with the arguments of any value of a part, except values that have no arguments
abbrev pub BeginsWithNo : {A : Type 0} → (A → List (List ℕ)) → List (List ℕ) → Type 0
BeginsWithNo {A} words_of words = (a : A) (rest : List (List ℕ)) → words ≡ words_of a ++ rest → words_of a ≡ []

-- `words` is one command that selects the page, or a synonym
abbrev pub ArePageWords : Page → List (List ℕ) → Type 0
ArePageWords Help words =
    (words ≡ codes "help" ∷ []) ⊎ (words ≡ codes "--help" ∷ []) ⊎ (words ≡ codes "-h" ∷ [])
ArePageWords Version words =
    (words ≡ codes "version" ∷ []) ⊎ (words ≡ codes "--version" ∷ []) ⊎ (words ≡ codes "-V" ∷ [])

-- `words` are the arguments of a command form
abbrev pub AreWordsOf : Form → List (List ℕ) → Type 0
AreWordsOf (Reports report output form) words =
    words ≡ report_words report ++ output_words output ++ recording_words form
AreWordsOf (Certify carrier form) words = words ≡ codes "certify" ∷ carrier_words carrier ++ recording_words form
AreWordsOf Check words = words ≡ codes "check" ∷ []
AreWordsOf (Transmit carrier load) words = words ≡ codes "transmit" ∷ carrier_words carrier ++ load_words load
AreWordsOf (Make carrier n) words = words ≡ codes "make" ∷ decimal n ∷ carrier_words carrier
AreWordsOf (Apply turn form) words = words ≡ codes "apply" ∷ turn_words turn ++ recording_words form
AreWordsOf (Print program page) words = ArePageWords page words

-- a frequency correction in the permitted range: -2,048 to 2,047 steps of 117.1875 Hz
abbrev pub IsTurn : ℤ → Type 0
IsTurn m = (negsuc 2047 ≤ℤ m) × (m ≤ℤ pos 2047)

abbrev pub IsAskedTurn : Turn → Type 0
IsAskedTurn AsEstimated = Unit {0}
IsAskedTurn (Steps m) = IsTurn m

-- a load number in the permitted range
abbrev pub IsAskedLoad : Option ℕ → Type 0
IsAskedLoad None = Unit {0}
IsAskedLoad (Some n) = n < 2 ^ 32

-- the number in a form is in range: 32 bits for a load or a recording number, -2,048 to 2,047 for a phase step, and at
-- most 503 for a cell identity
abbrev pub IsInRange : Form → Type 0
IsInRange (Transmit carrier load) = IsAskedLoad load
IsInRange (Make carrier n) = n < 2 ^ 32
IsInRange (Apply turn form) = IsAskedTurn turn
IsInRange (Reports (Why identity carrier) output form) = identity ≤ 503
IsInRange form = Unit {0}

-- the program that has a command form
abbrev pub program_of : Form → Program
program_of (Reports Tell output form) = Tuner
program_of (Apply turn form) = Tuner
program_of (Print program page) = program
program_of form = Receiver

-- `words` selects `form` of `program`
pub record IsWordsOf (program : Program) (words : List (List ℕ)) (form : Form) : Type 0 where
  pub known : program_of form ≡ program
  pub words_are : AreWordsOf form words
  pub in_range : IsInRange form

-- `words` selects no form of `program`
abbrev pub IsNoForm : Program → List (List ℕ) → Type 0
IsNoForm program words = (form : Form) → IsWordsOf program words form → ⊥
