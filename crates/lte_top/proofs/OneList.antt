-- A recording has one cell list under each rule, and one text for it.
use Rattle.std.proofs.Common.{◌≡◌, ℕ, zero, suc, ◌<◌, List, [], ◌∷◌, length, map, get_or, slice_index_or, Option, Some, None, refl, ap, sym, subst, ◌∙◌, arith, string_bytes}
use Rattle.std.proofs.Math.Path.{fun_ext}
use Rattle.std.proofs.lemmas.Result.{IfOk-weaker}
use Rattle.std.specs.Prelude.{IfOk, Result, String}
use Rattle.std.specs.List.{AllZip}
use Rattle.std.specs.declared.alloc.AllocError.{AllocError}
use Rattle.std.specs.declared.alloc.Global.{Global}
use Rattle.cs_num.specs.declared.Sample.{Sample}
use Rattle.lte_types.specs.declared.entry.Entry.{Entry}
use Rattle.lte_types.specs.declared.carrier.Carrier.{Carrier}
use Rattle.lte_types.specs.Carrier.{carriers}
use Rattle.explain.proofs.Listed.{is_one_list}
use Rattle.halving.specs.Wide.{Wide}
use Rattle.wide_list.proofs.Lists.{one_wide_list}
use Rattle.report_json.specs.Rounds.{IsCancelJson}
use Rattle.report_text.proofs.OneText.{one_cancel_text}
use Rattle.report_json.proofs.OneText.{one_cancel_json}
use Rattle.lte_args.specs.declared.form.Output.{Output}
use Rattle.lte_args.specs.declared.form.Output.TheVariants.{Text, Json}
use Rattle.lte_args.specs.declared.form.Rule.{Rule}
use Rattle.lte_args.specs.declared.form.Rule.TheVariants.{Of, Cancel, All}
use Rattle.lte_top.specs.declared.reading.Signal.{Signal}
use Rattle.lte_top.specs.Line.{as_line, IsLine}
use Rattle.evidence.specs.Receivers.{receiver_of}
use Rattle.lte_types.proofs.Carriers.{each_stands}
use Rattle.lte_top.specs.Searching.{IsListOf, IsListWith, IsListAt, list_text, lists_text, IsListText, IsTextOfAll, IsCancelled, IsSearch}

-- ---- lists

pub one_list : (carrier : Carrier) (samples : List Sample) (first second : List Entry) → IsListOf carrier samples first → IsListOf carrier samples second → first ≡ second
one_list carrier samples first second a b = is_one_list (receiver_of carrier) samples first second a.explained b.explained

one_list_with : (wide : Option Wide) (carrier : Carrier) (samples : List Sample) (first second : List Entry) → IsListWith wide carrier samples first → IsListWith wide carrier samples second → first ≡ second
one_list_with None carrier samples first second a b = one_list carrier samples first second a b
one_list_with (Some wide) carrier samples first second a b = one_wide_list (receiver_of carrier) wide first second a.is_list b.is_list

-- `search` writes one list for a signal and a transmission scheme
pub one_list_at : (carrier : Carrier) (signal : Signal) (first second : List Entry) → IsListAt carrier signal first → IsListAt carrier signal second → first ≡ second
one_list_at carrier signal first second a b = one_list_with signal.wide carrier signal.narrow first second a b

-- ---- texts

-- if a recording has one text, it has one line
pub one_line : (Is : List ℕ → Type 0) → ((a b : List ℕ) → Is a → Is b → a ≡ b) → (first second : List ℕ) → IsLine Is first → IsLine Is second → first ≡ second
one_line Is one first second a b = a.line_is ∙ ap as_line (one a.text b.text a.is b.is) ∙ sym b.line_is

one_list_text : (carrier : Carrier) (output : Output) (signal : Signal) (first second : List ℕ) → IsListText carrier output signal first → IsListText carrier output signal second → first ≡ second
one_list_text carrier output signal first second a b =
    a.text_is ∙ ap (list_text output) (one_list_at carrier signal a.entries b.entries a.is_list b.is_list) ∙ sym b.text_is

-- ---- all transmission schemes, in order

-- a relation that holds at each index holds between an item and the value at its index
beside : {A B : Type 0} (R : A → B → Type 0) (xs : List A) (ys : List B) (d : B) (k : ℕ) (x : A) → AllZip R xs ys → k < length xs → slice_index_or xs k x ≡ x → R x (get_or ys k d)
beside R [] ys d k x all inside is = absurd (omega (arith, inside))
beside R (a ∷ xs) [] d k x all inside is = absurd all
beside R (a ∷ xs) (b ∷ ys) d zero x all inside is = subst (λ z. R z b) is all.0
beside R (a ∷ xs) (b ∷ ys) d (suc k) x all inside is = beside R xs ys d k x all.1 (omega (arith, inside)) is

-- a relation that is a function of the item makes the second list its image
made_of : {A B : Type 0} (R : A → B → Type 0) (of : A → B) → ((x : A) (y : B) → R x y → y ≡ of x) → (xs : List A) (ys : List B) → AllZip R xs ys → ys ≡ map of xs
made_of R of one [] [] all = refl
made_of R of one [] (y ∷ ys) all = absurd all
made_of R of one (x ∷ xs) [] all = absurd all
made_of R of one (x ∷ xs) (y ∷ ys) all = ap (λ z. z ∷ ys) (one x y all.0) ∙ ap (λ l. of x ∷ l) (made_of R of one xs ys all.1)

-- one value per transmission scheme, in order, is a function of the scheme if each scheme has one such value
pub by_scheme : {A : Type 0} (Is : Carrier → A → Type 0) → ((carrier : Carrier) (first second : A) → Is carrier first → Is carrier second → first ≡ second) → (d : A) (values : List A) →
    AllZip Is carriers values → (of : Carrier → A) × ((carrier : Carrier) → Is carrier (of carrier)) × (values ≡ map of carriers)
by_scheme {A} Is one d values all =
    let of : Carrier → A = λ carrier. get_or values (each_stands carrier).0 d in
    let each : (carrier : Carrier) → Is carrier (of carrier) = λ carrier. let place = each_stands carrier in beside Is carriers values d place.0 carrier all place.1 place.2 in
    (of, each, made_of Is of (λ carrier value is. one carrier value (of carrier) is (each carrier)) carriers values all)

-- one list per transmission scheme has the text of all lists
pub all_text_is : (output : Output) (signal : Signal) (lists : List (List Entry)) (r : Result (String Global) AllocError) →
    AllZip (λ carrier. IsListAt carrier signal) carriers lists →
    ((of : Carrier → List Entry) → lists ≡ map of carriers → IfOk r (λ text. string_bytes text ≡ lists_text output of)) → IfOk r (λ text. IsTextOfAll output signal (string_bytes text))
all_text_is output signal lists r listed texts =
    let by = by_scheme (λ carrier. IsListAt carrier signal) (λ carrier. one_list_at carrier signal) [] lists listed in
    IfOk-weaker r (λ text. string_bytes text ≡ lists_text output by.0) (λ text. IsTextOfAll output signal (string_bytes text))
    (λ text is. record { lists = by.0; are_lists = by.1; text_is = is }) (texts by.0 by.2)

one_text_of_all : (output : Output) (signal : Signal) (first second : List ℕ) → IsTextOfAll output signal first → IsTextOfAll output signal second → first ≡ second
one_text_of_all output signal first second a b =
    let same = fun_ext (λ (carrier : Carrier). one_list_at carrier signal (a.lists carrier) (b.lists carrier) (a.are_lists carrier) (b.are_lists carrier)) in
    a.text_is ∙ ap (lists_text output) same ∙ sym b.text_is

one_cancelled : (output : Output) (samples : List Sample) (first second : List ℕ) → IsCancelled output samples first → IsCancelled output samples second → first ≡ second
one_cancelled Text samples first second a b = one_cancel_text samples first second a b
one_cancelled Json samples first second a b = one_line (IsCancelJson samples) (one_cancel_json samples) first second a b

pub one_search : (rule : Rule) (output : Output) (signal : Signal) (first second : List ℕ) → IsSearch rule output signal first → IsSearch rule output signal second → first ≡ second
one_search (Of carrier) output signal first second a b = one_list_text carrier output signal first second a b
one_search Cancel output signal first second a b = one_cancelled output signal.narrow first second a b
one_search All output signal first second a b = one_text_of_all output signal first second a b
