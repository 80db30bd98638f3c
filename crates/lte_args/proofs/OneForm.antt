-- An argument list has at most one command form.
use Rattle.std.proofs.Common.{◌≡◌, inl, inr, ℕ, suc, ◌<◌, ◌≤◌, ◌^◌, ℤ, pos, negsuc, List, [], ◌∷◌, drop, ◌++◌, Option, Some, None, Bool, true, false, nat_eq, refl, ap, sym, subst, ◌∙◌, append-nil, append_assoc, arith}
use Rattle.std.specs.Prelude.{if◌then◌else◌, neg_ℤ, codes}
use Rattle.std.specs.Cmp.Lexicographic.{pointwise}
use Rattle.std.specs.Fmt.{decimal, signed_decimal}
use Rattle.std.specs.Str.Parse.{digits_value, IsNumeral}
use Rattle.std.proofs.lemmas.Bool.{eqb-true}
use Rattle.std.proofs.lemmas.Fmt.{decimal_is_IsNumeral}
use Rattle.std.proofs.lemmas.Int.{ints}
use Rattle.std.proofs.lemmas.Str.Parse.{digit_from_value}
use Rattle.sample_file.specs.declared.form.SampleForm.{SampleForm}
use Rattle.sample_file.specs.declared.form.SampleForm.TheVariants.{Ci16, Cu8}
use Rattle.lte_types.specs.declared.carrier.Carrier.{Carrier}
use Rattle.lte_types.specs.declared.carrier.Carrier.TheVariants.{OnePort, TwoPorts, LongPrefix, FourPorts}
use Rattle.lte_args.specs.declared.form.Program.{Program}
use Rattle.lte_args.specs.declared.form.Rate.{Rate}
use Rattle.lte_args.specs.declared.form.Rate.TheVariants.{Times1, Times2, Times4, Times8, Times16}
use Rattle.lte_args.specs.declared.form.RecordingForm.{RecordingForm}
use Rattle.lte_args.specs.declared.form.Form.{Form}
use Rattle.lte_args.specs.declared.form.Form.TheVariants.{Report as Reports, Certify, Check, Transmit, Make, Apply, Print}
use Rattle.lte_args.specs.declared.form.Report.TheVariants.{Hits, Ids, Deep, Search, Evidence, Tell, Why}
use Rattle.lte_args.specs.declared.form.Span.{Span}
use Rattle.lte_args.specs.declared.form.Span.TheVariants.{First, All as AllSamples}
use Rattle.lte_args.specs.declared.form.Lists.{Lists}
use Rattle.lte_args.specs.declared.form.Lists.TheVariants.{Of as ListOf, All as AllLists}
use Rattle.lte_args.specs.declared.form.Rule.{Rule}
use Rattle.lte_args.specs.declared.form.Rule.TheVariants.{Of, Cancel, All}
use Rattle.lte_args.specs.declared.form.Output.{Output}
use Rattle.lte_args.specs.declared.form.Output.TheVariants.{Text, Json}
use Rattle.lte_args.specs.declared.form.Turn.{Turn}
use Rattle.lte_args.specs.declared.form.Turn.TheVariants.{AsEstimated, Steps}
use Rattle.lte_args.specs.declared.form.Page.{Page}
use Rattle.lte_args.specs.declared.form.Page.TheVariants.{Help, Version}
use Rattle.lte_args.specs.Words.{samples_words, rate_word, rate_words, recording_words, output_words, rule_words, carrier_words, lists_words, load_words, span_words, turn_words, ArePageWords, AreWordsOf, IsAskedLoad, IsTurn, IsAskedTurn, IsInRange, program_of, IsWordsOf}

-- whether the argument is this word
abbrev is_word : List ℕ → List ℕ → Bool
is_word = pointwise nat_eq

-- ---- last parts

-- the rate with this name
abbrev rate_named : List ℕ → Rate
rate_named word =
    if is_word word (codes "1.92") then Times1
    else if is_word word (codes "3.84") then Times2
    else if is_word word (codes "7.68") then Times4
    else if is_word word (codes "15.36") then Times8
    else Times16

named_back : (rate : Rate) → rate_named (rate_word rate) ≡ rate
named_back Times1 = refl
named_back Times2 = refl
named_back Times4 = refl
named_back Times8 = refl
named_back Times16 = refl

abbrev rate_in : List (List ℕ) → Option Rate
rate_in [] = None
rate_in (word ∷ []) = None
rate_in (word ∷ name ∷ rest) = Some (rate_named name)

abbrev recording_in : List (List ℕ) → RecordingForm
recording_in [] = record { samples = Ci16; rate = None }
recording_in (word ∷ words) =
    if is_word word (codes "--format") then record { samples = Cu8; rate = rate_in (drop 1 words) }
    else record { samples = Ci16; rate = rate_in (word ∷ words) }

recording_back : (samples : SampleForm) (rate : Option Rate) → recording_in (samples_words samples ++ rate_words rate) ≡ record { samples = samples; rate = rate }
recording_back Ci16 None = refl
recording_back Ci16 (Some rate) = ap (λ r. record { samples = Ci16; rate = Some r }) (named_back rate)
recording_back Cu8 None = refl
recording_back Cu8 (Some rate) = ap (λ r. record { samples = Cu8; rate = Some r }) (named_back rate)

abbrev load_in : List (List ℕ) → Option ℕ
load_in [] = None
load_in (word ∷ []) = None
load_in (word ∷ digits ∷ rest) = Some (digits_value 10 digits)

load_back : (load : Option ℕ) → IsAskedLoad load → load_in (load_words load) ≡ load
load_back None asked = refl
load_back (Some n) small = ap (λ k. Some k) (decimal_is_IsNumeral n (omega (arith, small))).1

-- ---- parts before others: `of` builds the form from the part and the arguments after it. Arguments that follow a part
-- begin with none of its words, so they yield its default value

abbrev output_in : (Output → List (List ℕ) → Form) → List (List ℕ) → Form
output_in of [] = of Text []
output_in of (word ∷ words) = if is_word word (codes "--json") then of Json words else of Text (word ∷ words)

-- a recording's form begins with no output format
output_before : (of : Output → List (List ℕ) → Form) (samples : SampleForm) (rate : Option Rate) → output_in of (samples_words samples ++ rate_words rate) ≡ of Text (samples_words samples ++ rate_words rate)
output_before of Ci16 None = refl
output_before of Ci16 (Some rate) = refl
output_before of Cu8 rate = refl

abbrev report_in : (Output → RecordingForm → Form) → List (List ℕ) → Form
report_in of = output_in (λ output words. of output (recording_in words))

report_back : (of : Output → RecordingForm → Form) (output : Output) (form : RecordingForm) → report_in of (output_words output ++ recording_words form) ≡ of output form
report_back of Text form =
    output_before (λ output words. of output (recording_in words)) form.samples form.rate ∙ ap (of Text) (recording_back form.samples form.rate)
report_back of Json form = ap (of Json) (recording_back form.samples form.rate)

-- the transmission scheme selected by the argument after "--ports"
abbrev ports_in : List (List ℕ) → Carrier
ports_in [] = TwoPorts
ports_in (word ∷ words) = if is_word word (codes "4") then FourPorts else TwoPorts

abbrev carrier_in : (Carrier → List (List ℕ) → Form) → List (List ℕ) → Form
carrier_in of [] = of OnePort []
carrier_in of (word ∷ words) =
    if is_word word (codes "--ports") then of (ports_in words) (drop 1 words)
    else if is_word word (codes "--prefix") then of LongPrefix (drop 1 words)
    else of OnePort (word ∷ words)

carrier_back : (of : Carrier → List (List ℕ) → Form) (carrier : Carrier) (rest : List (List ℕ)) → carrier_in of rest ≡ of OnePort rest →
    carrier_in of (carrier_words carrier ++ rest) ≡ of carrier rest
carrier_back of OnePort rest usual = usual
carrier_back of TwoPorts rest usual = refl
carrier_back of LongPrefix rest usual = refl
carrier_back of FourPorts rest usual = refl

carrier_before : (of : Carrier → List (List ℕ) → Form) (output : Output) (form : RecordingForm) →
    carrier_in of (output_words output ++ recording_words form) ≡ of OnePort (output_words output ++ recording_words form)
carrier_before of Text form = by_parts form.samples form.rate
  where
    by_parts : (samples : SampleForm) (rate : Option Rate) → carrier_in of (samples_words samples ++ rate_words rate) ≡ of OnePort (samples_words samples ++ rate_words rate)
    by_parts Ci16 None = refl
    by_parts Ci16 (Some rate) = refl
    by_parts Cu8 rate = refl
carrier_before of Json form = refl

abbrev lists_in : (Lists → List (List ℕ) → Form) → List (List ℕ) → Form
lists_in of [] = of (ListOf OnePort) []
lists_in of (word ∷ words) =
    if is_word word (codes "--all") then of AllLists words
    else carrier_in (λ carrier. of (ListOf carrier)) (word ∷ words)

lists_back : (of : Lists → List (List ℕ) → Form) (lists : Lists) (rest : List (List ℕ)) → lists_in of rest ≡ of (ListOf OnePort) rest →
    lists_in of (lists_words lists ++ rest) ≡ of lists rest
lists_back of (ListOf OnePort) rest usual = usual
lists_back of (ListOf TwoPorts) rest usual = refl
lists_back of (ListOf LongPrefix) rest usual = refl
lists_back of (ListOf FourPorts) rest usual = refl
lists_back of AllLists rest usual = refl

lists_before : (of : Lists → List (List ℕ) → Form) (output : Output) (form : RecordingForm) →
    lists_in of (output_words output ++ recording_words form) ≡ of (ListOf OnePort) (output_words output ++ recording_words form)
lists_before of Text form = by_parts form.samples form.rate
  where
    by_parts : (samples : SampleForm) (rate : Option Rate) → lists_in of (samples_words samples ++ rate_words rate) ≡ of (ListOf OnePort) (samples_words samples ++ rate_words rate)
    by_parts Ci16 None = refl
    by_parts Ci16 (Some rate) = refl
    by_parts Cu8 rate = refl
lists_before of Json form = refl

-- the rule of `search` with the arguments of `lists`
abbrev rule_of : Lists → Rule
rule_of (ListOf carrier) = Of carrier
rule_of AllLists = All

abbrev rule_in : (Rule → List (List ℕ) → Form) → List (List ℕ) → Form
rule_in of [] = of (Of OnePort) []
rule_in of (word ∷ words) =
    if is_word word (codes "--cancel") then of Cancel words
    else lists_in (λ lists. of (rule_of lists)) (word ∷ words)

rule_back : (of : Rule → List (List ℕ) → Form) (rule : Rule) (rest : List (List ℕ)) → rule_in of rest ≡ of (Of OnePort) rest →
    rule_in of (rule_words rule ++ rest) ≡ of rule rest
rule_back of (Of OnePort) rest usual = usual
rule_back of (Of TwoPorts) rest usual = refl
rule_back of (Of LongPrefix) rest usual = refl
rule_back of (Of FourPorts) rest usual = refl
rule_back of Cancel rest usual = refl
rule_back of All rest usual = refl

rule_before : (of : Rule → List (List ℕ) → Form) (output : Output) (form : RecordingForm) →
    rule_in of (output_words output ++ recording_words form) ≡ of (Of OnePort) (output_words output ++ recording_words form)
rule_before of Text form = by_parts form.samples form.rate
  where
    by_parts : (samples : SampleForm) (rate : Option Rate) → rule_in of (samples_words samples ++ rate_words rate) ≡ of (Of OnePort) (samples_words samples ++ rate_words rate)
    by_parts Ci16 None = refl
    by_parts Ci16 (Some rate) = refl
    by_parts Cu8 rate = refl
rule_before of Json form = refl

abbrev span_in : (Span → List (List ℕ) → Form) → List (List ℕ) → Form
span_in of [] = of First []
span_in of (word ∷ words) = if is_word word (codes "all") then of AllSamples words else of First (word ∷ words)

span_back : (of : Span → List (List ℕ) → Form) (span : Span) (rest : List (List ℕ)) → span_in of rest ≡ of First rest →
    span_in of (span_words span ++ rest) ≡ of span rest
span_back of First rest usual = usual
span_back of AllSamples rest usual = refl

span_before : (of : Span → List (List ℕ) → Form) (output : Output) (form : RecordingForm) →
    span_in of (output_words output ++ recording_words form) ≡ of First (output_words output ++ recording_words form)
span_before of Text form = by_parts form.samples form.rate
  where
    by_parts : (samples : SampleForm) (rate : Option Rate) → span_in of (samples_words samples ++ rate_words rate) ≡ of First (samples_words samples ++ rate_words rate)
    by_parts Ci16 None = refl
    by_parts Ci16 (Some rate) = refl
    by_parts Cu8 rate = refl
span_before of Json form = refl

-- ---- the parts of a command

abbrev detected_by : Span → List (List ℕ) → Form
detected_by span words = report_in (Reports (Deep span)) words

deep_back : (span : Span) (output : Output) (form : RecordingForm) → span_in detected_by (span_words span ++ output_words output ++ recording_words form) ≡ Reports (Deep span) output form
deep_back span output form =
    ap (span_in detected_by) (append_assoc (span_words span) (output_words output) (recording_words form))
    ∙ span_back detected_by span (output_words output ++ recording_words form) (span_before detected_by output form) ∙ report_back (Reports (Deep span)) output form

abbrev ids_in : List (List ℕ) → Form
ids_in [] = report_in (Reports Ids) []
ids_in (word ∷ words) = if is_word word (codes "--deep") then span_in detected_by words else report_in (Reports Ids) (word ∷ words)

-- the arguments after `ids` without `--deep`
ids_back : (output : Output) (form : RecordingForm) → ids_in (output_words output ++ recording_words form) ≡ Reports Ids output form
ids_back Text form = by_parts form.samples form.rate ∙ report_back (Reports Ids) Text form
  where
    by_parts : (samples : SampleForm) (rate : Option Rate) → ids_in (samples_words samples ++ rate_words rate) ≡ report_in (Reports Ids) (samples_words samples ++ rate_words rate)
    by_parts Ci16 None = refl
    by_parts Ci16 (Some rate) = refl
    by_parts Cu8 rate = refl
ids_back Json form = report_back (Reports Ids) Json form

abbrev searched_by : Rule → List (List ℕ) → Form
searched_by rule words = report_in (Reports (Search rule)) words

search_back : (rule : Rule) (output : Output) (form : RecordingForm) → rule_in searched_by (rule_words rule ++ output_words output ++ recording_words form) ≡ Reports (Search rule) output form
search_back rule output form =
    ap (rule_in searched_by) (append_assoc (rule_words rule) (output_words output) (recording_words form))
    ∙ rule_back searched_by rule (output_words output ++ recording_words form) (rule_before searched_by output form) ∙ report_back (Reports (Search rule)) output form

abbrev supported_by : Lists → List (List ℕ) → Form
supported_by lists words = report_in (Reports (Evidence lists)) words

evidence_back : (lists : Lists) (output : Output) (form : RecordingForm) →
    lists_in supported_by (lists_words lists ++ output_words output ++ recording_words form) ≡ Reports (Evidence lists) output form
evidence_back lists output form =
    ap (lists_in supported_by) (append_assoc (lists_words lists) (output_words output) (recording_words form))
    ∙ lists_back supported_by lists (output_words output ++ recording_words form) (lists_before supported_by output form) ∙ report_back (Reports (Evidence lists)) output form

abbrev reasoned_by : ℕ → Carrier → List (List ℕ) → Form
reasoned_by identity carrier words = report_in (Reports (Why identity carrier)) words

abbrev why_in : List (List ℕ) → Form
why_in [] = Check
why_in (digits ∷ words) = carrier_in (reasoned_by (digits_value 10 digits)) words

why_back : (carrier : Carrier) (n : ℕ) (output : Output) (form : RecordingForm) → n ≤ 503 →
    why_in (decimal n ∷ (carrier_words carrier ++ output_words output ++ recording_words form)) ≡ Reports (Why n carrier) output form
why_back carrier n output form small =
    let read = digits_value 10 (decimal n) in
    ap (carrier_in (reasoned_by read)) (append_assoc (carrier_words carrier) (output_words output) (recording_words form))
    ∙ carrier_back (reasoned_by read) carrier (output_words output ++ recording_words form) (carrier_before (reasoned_by read) output form)
    ∙ report_back (Reports (Why read carrier)) output form
    ∙ ap (λ k. Reports (Why k carrier) output form) (decimal_is_IsNumeral n (omega (arith, small))).1

abbrev certified_by : Carrier → List (List ℕ) → Form
certified_by carrier words = Certify carrier (recording_in words)

certify_back : (carrier : Carrier) (form : RecordingForm) → carrier_in certified_by (carrier_words carrier ++ recording_words form) ≡ Certify carrier form
certify_back carrier form = carrier_back certified_by carrier (recording_words form) (carrier_before certified_by Text form) ∙ ap (Certify carrier) (recording_back form.samples form.rate)

abbrev sent_by : Carrier → List (List ℕ) → Form
sent_by carrier words = Transmit carrier (load_in words)

transmit_back : (carrier : Carrier) (load : Option ℕ) → IsAskedLoad load → carrier_in sent_by (carrier_words carrier ++ load_words load) ≡ Transmit carrier load
transmit_back carrier None asked = carrier_back sent_by carrier [] refl
transmit_back carrier (Some n) asked = carrier_back sent_by carrier (load_words (Some n)) refl ∙ ap (Transmit carrier) (load_back (Some n) asked)

abbrev make_in : List (List ℕ) → Form
make_in [] = Check
make_in (digits ∷ words) = carrier_in (λ carrier rest. Make carrier (digits_value 10 digits)) words

make_back : (carrier : Carrier) (n : ℕ) → n < 2 ^ 32 → make_in (decimal n ∷ carrier_words carrier) ≡ Make carrier n
make_back carrier n small =
    ap (λ words. make_in (decimal n ∷ words)) (sym (append-nil (carrier_words carrier)))
    ∙ carrier_back (λ c rest. Make c (digits_value 10 (decimal n))) carrier [] refl ∙ ap (Make carrier) (decimal_is_IsNumeral n (omega (arith, small))).1

-- the number with this decimal text
abbrev turn_in : List ℕ → ℤ
turn_in [] = pos 0
turn_in (c ∷ cs) = if nat_eq c 45 then neg_ℤ (pos (digits_value 10 cs)) else pos (digits_value 10 (c ∷ cs))

-- decimal digits yield their number
of_digits : (ds : List ℕ) → IsNumeral 10 ds → turn_in ds ≡ pos (digits_value 10 ds)
of_digits [] is = absurd (omega (arith, is.0))
of_digits (c ∷ cs) is = by (nat_eq c 45) refl
  where
    by : (b : Bool) → nat_eq c 45 ≡ b → turn_in (c ∷ cs) ≡ pos (digits_value 10 (c ∷ cs))
    by true e = let digit = digit_from_value c is.1.0 in let minus = eqb-true c 45 e in absurd (omega (arith, minus, digit.0))
    by false e = rw e refl

-- a phase step's decimal text yields the step
turn_back : (m : ℤ) → IsTurn m → turn_in (signed_decimal m) ≡ m
turn_back (pos n) small =
    let high = small.1 in
    let numeral = decimal_is_IsNumeral n (omega (arith, ints, high)) in of_digits (decimal n) numeral.0 ∙ ap (λ k. pos k) numeral.1
turn_back (negsuc n) small =
    let low = small.0 in
    let numeral = decimal_is_IsNumeral (suc n) (omega (arith, ints, low)) in ap (λ k. neg_ℤ (pos k)) numeral.1

-- the argument count decides whether a phase step is given: each other part has two arguments
abbrev apply_in : List (List ℕ) → Form
apply_in [] = Apply AsEstimated (recording_in [])
apply_in (m ∷ []) = Apply (Steps (turn_in m)) (recording_in [])
apply_in (a ∷ b ∷ []) = Apply AsEstimated (recording_in (a ∷ b ∷ []))
apply_in (m ∷ a ∷ b ∷ []) = Apply (Steps (turn_in m)) (recording_in (a ∷ b ∷ []))
apply_in (a ∷ b ∷ c ∷ d ∷ []) = Apply AsEstimated (recording_in (a ∷ b ∷ c ∷ d ∷ []))
apply_in (m ∷ a ∷ b ∷ c ∷ d ∷ rest) = Apply (Steps (turn_in m)) (recording_in (a ∷ b ∷ c ∷ d ∷ []))

-- the arguments of a recording's form have no phase step in front
estimated_before : (samples : SampleForm) (rate : Option Rate) → apply_in (samples_words samples ++ rate_words rate) ≡ Apply AsEstimated (recording_in (samples_words samples ++ rate_words rate))
estimated_before Ci16 None = refl
estimated_before Ci16 (Some rate) = refl
estimated_before Cu8 None = refl
estimated_before Cu8 (Some rate) = refl

steps_before : (word : List ℕ) (samples : SampleForm) (rate : Option Rate) →
    apply_in (word ∷ (samples_words samples ++ rate_words rate)) ≡ Apply (Steps (turn_in word)) (recording_in (samples_words samples ++ rate_words rate))
steps_before word Ci16 None = refl
steps_before word Ci16 (Some rate) = refl
steps_before word Cu8 None = refl
steps_before word Cu8 (Some rate) = refl

apply_back : (turn : Turn) (form : RecordingForm) → IsAskedTurn turn → apply_in (turn_words turn ++ recording_words form) ≡ Apply turn form
apply_back AsEstimated form within = estimated_before form.samples form.rate ∙ ap (Apply AsEstimated) (recording_back form.samples form.rate)
apply_back (Steps m) form within =
    steps_before (signed_decimal m) form.samples form.rate
    ∙ ap (λ (of : RecordingForm). Apply (Steps (turn_in (signed_decimal m))) of) (recording_back form.samples form.rate)
    ∙ ap (λ k. Apply (Steps k) form) (turn_back m within)

-- ---- the form that arguments select: a new form adds a line here, and one below

abbrev form_of : Program → List (List ℕ) → Form
form_of program [] = Check
form_of program (word ∷ words) =
    if is_word word (codes "hits") then report_in (Reports Hits) words
    else if is_word word (codes "ids") then ids_in words
    else if is_word word (codes "search") then rule_in searched_by words
    else if is_word word (codes "evidence") then lists_in supported_by words
    else if is_word word (codes "why") then why_in words
    else if is_word word (codes "tell") then report_in (Reports Tell) words
    else if is_word word (codes "certify") then carrier_in certified_by words
    else if is_word word (codes "check") then Check
    else if is_word word (codes "transmit") then carrier_in sent_by words
    else if is_word word (codes "make") then make_in words
    else if is_word word (codes "apply") then apply_in words
    else if is_word word (codes "version") then Print program Version
    else if is_word word (codes "--version") then Print program Version
    else if is_word word (codes "-V") then Print program Version
    else Print program Help

form_of_page : (program : Program) (page : Page) (words : List (List ℕ)) → ArePageWords page words → form_of program words ≡ Print program page
form_of_page program Help words (inl e) = ap (form_of program) e
form_of_page program Help words (inr (inl e)) = ap (form_of program) e
form_of_page program Help words (inr (inr e)) = ap (form_of program) e
form_of_page program Version words (inl e) = ap (form_of program) e
form_of_page program Version words (inr (inl e)) = ap (form_of program) e
form_of_page program Version words (inr (inr e)) = ap (form_of program) e

form_of_words : (form : Form) (words : List (List ℕ)) → AreWordsOf form words → IsInRange form → form_of (program_of form) words ≡ form
form_of_words (Reports Hits output form) words e within = ap (form_of (program_of (Reports Hits output form))) e ∙ report_back (Reports Hits) output form
form_of_words (Reports Ids output form) words e within = ap (form_of (program_of (Reports Ids output form))) e ∙ ids_back output form
form_of_words (Reports (Deep span) output form) words e within = ap (form_of (program_of (Reports (Deep span) output form))) e ∙ deep_back span output form
form_of_words (Reports (Search rule) output form) words e within = ap (form_of (program_of (Reports (Search rule) output form))) e ∙ search_back rule output form
form_of_words (Reports (Evidence lists) output form) words e within = ap (form_of (program_of (Reports (Evidence lists) output form))) e ∙ evidence_back lists output form
form_of_words (Reports Tell output form) words e within = ap (form_of (program_of (Reports Tell output form))) e ∙ report_back (Reports Tell) output form
form_of_words (Reports (Why identity carrier) output form) words e within = ap (form_of (program_of (Reports (Why identity carrier) output form))) e ∙ why_back carrier identity output form within
form_of_words (Certify carrier form) words e within = ap (form_of (program_of (Certify carrier form))) e ∙ certify_back carrier form
form_of_words Check words e within = ap (form_of (program_of Check)) e
form_of_words (Transmit carrier load) words e within = ap (form_of (program_of (Transmit carrier load))) e ∙ transmit_back carrier load within
form_of_words (Make carrier n) words e within = ap (form_of (program_of (Make carrier n))) e ∙ make_back carrier n within
form_of_words (Apply turn form) words e within = ap (form_of (program_of (Apply turn form))) e ∙ apply_back turn form within
form_of_words (Print program page) words e within = form_of_page program page words e

form_of_program : (program : Program) (words : List (List ℕ)) (form : Form) → IsWordsOf program words form → form_of program words ≡ form
form_of_program program words form w = subst (λ p. form_of p words ≡ form) w.known (form_of_words form words w.words_are w.in_range)

pub one_form : (program : Program) (words : List (List ℕ)) (first second : Form) → IsWordsOf program words first → IsWordsOf program words second → first ≡ second
one_form program words first second a b = sym (form_of_program program words first a) ∙ form_of_program program words second b
