-- A SystemInformationBlockType1 that was read is in its ranges.
use Rattle.std.proofs.Common.{◌≡◌, if◌then◌else◌, ℕ, ◌≤◌, ℤ, pos, negsuc, ◌≤ℤ◌, List, [], ◌∷◌, length, Bool, true, false, nat_le, nat_eq, ◌&&◌, suc, ◌-◌, Option, Some, None, option_map, is_some, nat_abs, arith, refl, sym, ap, subst, ◌∙◌}
use Rattle.std.specs.Prelude.{codes, All, IfSome}
use Rattle.std.proofs.lemmas.Int.{ints}
use Rattle.std.proofs.lemmas.Bool.Decides.{nat_tests}
use Rattle.std.proofs.lemmas.Option.{option_and_then_some, same_Some}
use Rattle.std.specs.List.{position}
use Rattle.std.proofs.lemmas.List.Elements.{All-nil, All-cons}
use Rattle.std.proofs.lemmas.List.Quantifiers.{position-Some}
use Rattle.serde_json.specs.Data.{Data, Items, no_items, item}
use Rattle.serde_json.specs.Events.{items_len}
use Rattle.serde_json.specs.Find.{get, as_null, as_str, as_bool, as_array}
use Rattle.lte_types.specs.declared.cell_access_related_info.CellAccessRelatedInfo.{CellAccessRelatedInfo}
use Rattle.lte_types.specs.declared.cell_selection_info.CellSelectionInfo.{CellSelectionInfo}
use Rattle.lte_types.specs.declared.mnc.Mnc.{Mnc}
use Rattle.lte_types.specs.declared.mnc.Mnc.TheVariants.{Two, Three}
use Rattle.lte_types.specs.declared.plmn.Plmn.{Plmn}
use Rattle.lte_types.specs.declared.si_message.SiMessage.{SiMessage}
use Rattle.lte_types.specs.declared.sib1.Sib1.{Sib1}
use Rattle.lte_types.specs.Ranges.{AreDigits, HasDigits, IsValidPlmn, FirstHasMcc, ArePlmns, IsValidMessage, AreMessages, IsGroup, IsLevel, IsLevelOffset, IsPower, IsPeriod, IsWindow, IsAccess, IsSelection, IsValid}
use Rattle.lte_types.specs.Codes.{periods, period_of, windows, window_of}
use Rattle.cell_json.specs.Kinds.{given, whole_of, is_between, whole_within, natural_within, null_or, each, items_within, list_within, at_key}
use Rattle.cell_json.specs.Information.{digit_of, two_digits, three_digits, mcc_of, mnc_in, mnc_of, network_of, first_has_mcc, networks_of, period_in, window_in, message_of, access_in, selection_in, sib1_in}

-- ---- kinds

given_some : {A : Type 0} (test : Bool) (value x : A) → given test value ≡ Some x → (test ≡ true) × (value ≡ x)
given_some true value x e = (refl, same_Some value x e)
given_some false value x e = absurd (cc e)

mapped_some : {A B : Type 0} (f : A → B) (o : Option A) (y : B) → option_map f o ≡ Some y → (x : A) × (o ≡ Some x) × (f x ≡ y)
mapped_some f None y e = absurd (cc e)
mapped_some f (Some x) y e = (x, refl, same_Some (f x) y e)

between : (least most z : ℤ) → is_between least most z ≡ true → (least ≤ℤ z) × (z ≤ℤ most)
between least most z e = grind (arith, ints, nat_tests)

wholes : (least most : ℤ) (json : Data) (z : ℤ) → whole_within least most json ≡ Some z → (least ≤ℤ z) × (z ≤ℤ most)
wholes least most json z e = option_and_then_some _ (whole_of json) z e (λ y is h.
    let both = given_some (is_between least most y) y z h in subst (λ x. (least ≤ℤ x) × (x ≤ℤ most)) both.1 (between least most y both.0))

size_between : (least most : ℕ) (z : ℤ) → pos least ≤ℤ z → z ≤ℤ pos most → (least ≤ nat_abs z) × (nat_abs z ≤ most)
size_between least most z h k = (omega (arith, ints, h, k), omega (arith, ints, h, k))

naturals : (least most : ℕ) (json : Data) (n : ℕ) → natural_within least most json ≡ Some n → (least ≤ n) × (n ≤ most)
naturals least most json n e =
    let (z, is, size) = mapped_some nat_abs (whole_within (pos least) (pos most) json) n e in
    let both = wholes (pos least) (pos most) json z is in
    subst (λ m. (least ≤ m) × (m ≤ most)) size (size_between least most z both.0 both.1)

-- a property of the kind holds for the value at a key
at : {A : Type 0} (P : A → Type 0) (kind : Data → Option A) → ((json : Data) (x : A) → kind json ≡ Some x → P x)
    → (key : List ℕ) (json : Data) (x : A) → at_key kind key json ≡ Some x → P x
at P kind holds key json x e = option_and_then_some kind (get key json) x e (λ inner is h. holds inner x h)

-- a property of the kind holds for the value if it is not null
or_null : {A : Type 0} (P : A → Type 0) (kind : Data → Option A) → ((json : Data) (x : A) → kind json ≡ Some x → P x)
    → (json : Data) (o : Option A) → null_or kind json ≡ Some o → IfSome o P
or_null P kind holds json None e = tt
or_null P kind holds json (Some x) e = settle (is_some (as_null json)) (kind json) refl e
  where
    settle : (b : Bool) (k : Option _) → kind json ≡ k → (if b then Some None else option_map Some k) ≡ Some (Some x) → P x
    settle true k is h = absurd (cc (same_Some _ _ h))
    settle false None is h = absurd (cc h)
    settle false (Some y) is h = holds json x (is ∙ same_Some _ _ h)

each_holds : {A : Type 0} (P : A → Type 0) (kind : Data → Option A) → ((json : Data) (x : A) → kind json ≡ Some x → P x)
    → (items : Items) (xs : List A) → each kind items ≡ Some xs → All P xs
each_holds P kind holds no_items xs e = subst (All P) (same_Some [] xs e) (All-nil P)
each_holds P kind holds (item first others) xs e = option_and_then_some _ (kind first) xs e (λ x is e2.
    option_and_then_some _ (each kind others) xs e2 (λ ys are e3.
    subst (All P) (same_Some (x ∷ ys) xs e3) (All-cons P x ys (holds first x is) (each_holds P kind holds others ys are))))

each_counts : {A : Type 0} (kind : Data → Option A) (items : Items) (xs : List A) → each kind items ≡ Some xs → length xs ≡ items_len items
each_counts kind no_items xs e = ap length (sym (same_Some [] xs e))
each_counts kind (item first others) xs e = option_and_then_some _ (kind first) xs e (λ x is e2.
    option_and_then_some _ (each kind others) xs e2 (λ ys are e3.
    ap length (sym (same_Some (x ∷ ys) xs e3)) ∙ ap suc (each_counts kind others ys are)))

-- a list of values of a kind, with a length in a range
record IsListOf {A : Type 0} (P : A → Type 0) (least most : ℕ) (xs : List A) : Type 0 where
  pub count : (least ≤ length xs) × (length xs ≤ most)
  pub all : All P xs

lists : {A : Type 0} (P : A → Type 0) (kind : Data → Option A) → ((json : Data) (x : A) → kind json ≡ Some x → P x)
    → (least most : ℕ) (json : Data) (xs : List A) → list_within least most kind json ≡ Some xs → IsListOf P least most xs
lists P kind holds least most json xs e = option_and_then_some (each kind) (items_within least most json) xs e (λ items is h.
    option_and_then_some _ (as_array json) items is (λ all there h2.
    let both = given_some (nat_le least (items_len all) && nat_le (items_len all) most) all items h2 in
    let same : length xs ≡ items_len all = each_counts kind items xs h ∙ ap items_len (sym both.1) in
    record { count = (grind (arith, nat_tests, both.0, same), grind (arith, nat_tests, both.0, same)); all = each_holds P kind holds items xs h }))

-- ---- networks

digits : (code n : ℕ) → digit_of code ≡ Some n → n ≤ 9
digits code n e =
    let both = given_some (nat_le 48 code && nat_le code 57) (code - 48) n e in
    grind (arith, nat_tests, both.0, both.1)

pub two : (text : List ℕ) (ns : List ℕ) → two_digits text ≡ Some ns → AreDigits ns
two [] ns e = absurd (cc e)
two (a ∷ []) ns e = absurd (cc e)
two (a ∷ b ∷ []) ns e = option_and_then_some _ (digit_of a) ns e (λ x is e2. option_and_then_some _ (digit_of b) ns e2 (λ y are e3.
    subst AreDigits (same_Some (x ∷ y ∷ []) ns e3) (All-cons (λ n. n ≤ 9) x (y ∷ []) (digits a x is) (All-cons (λ n. n ≤ 9) y [] (digits b y are) (All-nil (λ n. n ≤ 9))))))
two (a ∷ b ∷ c ∷ rest) ns e = absurd (cc e)

pub three : (text : List ℕ) (ns : List ℕ) → three_digits text ≡ Some ns → AreDigits ns
three [] ns e = absurd (cc e)
three (a ∷ []) ns e = absurd (cc e)
three (a ∷ b ∷ []) ns e = absurd (cc e)
three (a ∷ b ∷ c ∷ []) ns e = option_and_then_some _ (digit_of a) ns e (λ x is e2. option_and_then_some _ (digit_of b) ns e2 (λ y are e3.
    option_and_then_some _ (digit_of c) ns e3 (λ z last e4.
    subst AreDigits (same_Some (x ∷ y ∷ z ∷ []) ns e4)
    (All-cons (λ n. n ≤ 9) x (y ∷ z ∷ []) (digits a x is) (All-cons (λ n. n ≤ 9) y (z ∷ []) (digits b y are) (All-cons (λ n. n ≤ 9) z [] (digits c z last) (All-nil (λ n. n ≤ 9))))))))
three (a ∷ b ∷ c ∷ d ∷ rest) ns e = absurd (cc e)

country_codes : (json : Data) (ns : List ℕ) → mcc_of json ≡ Some ns → AreDigits ns
country_codes json ns e = option_and_then_some three_digits (as_str json) ns e (λ text is h. three text ns h)

codes_in : (text : List ℕ) (mnc : Mnc) → mnc_in text ≡ Some mnc → HasDigits mnc
codes_in text mnc e = settle (nat_eq (length text) 2) e
  where
    settle : (b : Bool) → (if b then option_map Two (two_digits text) else option_map Three (three_digits text)) ≡ Some mnc → HasDigits mnc
    settle true h = let (ns, is, same) = mapped_some Two (two_digits text) mnc h in subst HasDigits same (two text ns is)
    settle false h = let (ns, is, same) = mapped_some Three (three_digits text) mnc h in subst HasDigits same (three text ns is)

network_codes : (json : Data) (mnc : Mnc) → mnc_of json ≡ Some mnc → HasDigits mnc
network_codes json mnc e = option_and_then_some mnc_in (as_str json) mnc e (λ text is h. codes_in text mnc h)

identities : (json : Data) (plmn : Plmn) → network_of json ≡ Some plmn → IsValidPlmn plmn
identities json plmn e = option_and_then_some _ (at_key (null_or mcc_of) (codes "mcc") json) plmn e (λ mcc is e2.
    option_and_then_some _ (at_key mnc_of (codes "mnc") json) plmn e2 (λ mnc are e3.
    option_and_then_some _ (at_key as_bool (codes "reserved") json) plmn e3 (λ reserved there e4.
    subst IsValidPlmn (same_Some _ plmn e4) (record {
      mcc = at (λ o. IfSome o AreDigits) (null_or mcc_of) (or_null AreDigits mcc_of country_codes) (codes "mcc") json mcc is;
      mnc = at HasDigits mnc_of network_codes (codes "mnc") json mnc are;
    }))))

first_has : (plmns : List Plmn) → first_has_mcc plmns ≡ true → FirstHasMcc plmns
first_has [] e = absurd (cc e)
first_has (plmn ∷ rest) e = e

networks : (json : Data) (plmns : List Plmn) → networks_of json ≡ Some plmns → ArePlmns plmns
networks json plmns e = option_and_then_some _ (list_within 1 6 network_of json) plmns e (λ all is h.
    let both = given_some (first_has_mcc all) all plmns h in
    let list = lists IsValidPlmn network_of identities 1 6 json all is in
    subst ArePlmns both.1 (record { count = list.count; valid = list.all; first_mcc = first_has all both.0 }))

-- ---- the schedule

-- the index of a listed number is below the list's length
code_fits : (values : List ℕ) (n code : ℕ) → length values ≡ 7 → position (nat_eq n) values ≡ Some code → code ≤ 6
code_fits values n code count is = let (below, there, first) = position-Some (nat_eq n) values code 0 is in omega (arith, below, count)

period_codes : (json : Data) (code : ℕ) → period_in json ≡ Some code → IsPeriod code
period_codes json code e = option_and_then_some period_of (natural_within 8 512 json) code e (λ frames is h. code_fits periods frames code refl h)

window_codes : (json : Data) (code : ℕ) → window_in json ≡ Some code → IsWindow code
window_codes json code e = option_and_then_some window_of (natural_within 1 40 json) code e (λ milliseconds is h. code_fits windows milliseconds code refl h)

messages : (json : Data) (message : SiMessage) → message_of json ≡ Some message → IsValidMessage message
messages json message e = option_and_then_some _ (at_key period_in (codes "period") json) message e (λ period is e2.
    option_and_then_some _ (at_key (list_within 0 31 (natural_within 0 79)) (codes "sibs") json) message e2 (λ sibs are e3.
    let all = at (IsListOf (λ n. (0 ≤ n) × (n ≤ 79)) 0 31) (list_within 0 31 (natural_within 0 79))
    (lists (λ n. (0 ≤ n) × (n ≤ 79)) (natural_within 0 79) (naturals 0 79) 0 31) (codes "sibs") json sibs are in
    subst IsValidMessage (same_Some _ message e3) (record { period = at IsPeriod period_in period_codes (codes "period") json period is; sibs = λ k d h. (all.all k d h).1 })))

entries : (json : Data) (list : List SiMessage) → list_within 1 32 message_of json ≡ Some list → AreMessages list
entries json list e = let is = lists IsValidMessage message_of messages 1 32 json list e in record { count = is.count; valid = is.all }

-- ---- the block

some_within : (least most : ℕ) (key : List ℕ) (json : Data) (n : ℕ) → at_key (natural_within least most) key json ≡ Some n → (least ≤ n) × (n ≤ most)
some_within least most key json n e = at (λ m. (least ≤ m) × (m ≤ most)) (natural_within least most) (naturals least most) key json n e

below_power : (o : Option ℕ) → IfSome o (λ n. (0 ≤ n) × (n ≤ 134217727)) → IfSome o IsGroup
below_power None h = tt
below_power (Some n) h = omega (arith, h.1)

accesses : (json : Data) (access : CellAccessRelatedInfo) → access_in json ≡ Some access → IsAccess access
accesses json access r = option_and_then_some _ (at_key networks_of (codes "plmns") json) access r (λ plmns e1 r1.
    option_and_then_some _ (at_key (natural_within 0 65535) (codes "tac") json) access r1 (λ tac e2 r2.
    option_and_then_some _ (at_key (natural_within 0 268435455) (codes "cell") json) access r2 (λ cell e3 r3.
    option_and_then_some _ (at_key as_bool (codes "barred") json) access r3 (λ barred e4 r4.
    option_and_then_some _ (at_key as_bool (codes "intra") json) access r4 (λ intra e5 r5.
    option_and_then_some _ (at_key as_bool (codes "csg") json) access r5 (λ csg e6 r6.
    option_and_then_some _ (at_key (null_or (natural_within 0 134217727)) (codes "csg_identity") json) access r6 (λ csg_identity e7 r7.
    let groups = at (λ o. IfSome o (λ n. (0 ≤ n) × (n ≤ 134217727))) (null_or (natural_within 0 134217727))
    (or_null (λ n. (0 ≤ n) × (n ≤ 134217727)) (natural_within 0 134217727) (naturals 0 134217727)) (codes "csg_identity") json csg_identity e7 in
    subst IsAccess (same_Some _ access r7) (record {
      plmns = at ArePlmns networks_of networks (codes "plmns") json plmns e1;
      cell = let most = (some_within 0 268435455 (codes "cell") json cell e3).1 in omega (arith, most);
      csg_identity = below_power csg_identity groups;
    }))))))))

selections : (json : Data) (selection : CellSelectionInfo) → selection_in json ≡ Some selection → IsSelection selection
selections json selection r = option_and_then_some _ (at_key (whole_within (negsuc 69) (negsuc 21)) (codes "q_rx") json) selection r (λ q_rx e1 r1.
    option_and_then_some _ (at_key (null_or (natural_within 1 8)) (codes "q_offset") json) selection r1 (λ q_offset e2 r2.
    subst IsSelection (same_Some _ selection r2) (record {
      q_rx = at IsLevel (whole_within (negsuc 69) (negsuc 21)) (wholes (negsuc 69) (negsuc 21)) (codes "q_rx") json q_rx e1;
      q_offset = at (λ o. IfSome o IsLevelOffset) (null_or (natural_within 1 8)) (or_null IsLevelOffset (natural_within 1 8) (naturals 1 8)) (codes "q_offset") json q_offset e2;
    })))

pub read_is_valid : (json : Data) (s : Sib1) → sib1_in json ≡ Some s → IsValid s
unfolding sib1_in
read_is_valid json s r = option_and_then_some _ (access_in json) s r (λ access e1 r1.
    option_and_then_some _ (selection_in json) s r1 (λ selection e2 r2.
    option_and_then_some _ (at_key (null_or (whole_within (negsuc 29) (pos 33))) (codes "p_max") json) s r2 (λ p_max e3 r3.
    option_and_then_some _ (at_key (natural_within 1 64) (codes "band") json) s r3 (λ band e4 r4.
    option_and_then_some _ (at_key (list_within 1 32 message_of) (codes "scheduling") json) s r4 (λ scheduling e5 r5.
    option_and_then_some _ (at_key window_in (codes "window") json) s r5 (λ window e6 r6.
    option_and_then_some _ (at_key (natural_within 0 31) (codes "tag") json) s r6 (λ tag e7 r7.
    subst IsValid (same_Some _ s r7) (record {
      access = accesses json access e1;
      selection = selections json selection e2;
      p_max = at (λ o. IfSome o IsPower) (null_or (whole_within (negsuc 29) (pos 33))) (or_null IsPower (whole_within (negsuc 29) (pos 33)) (wholes (negsuc 29) (pos 33))) (codes "p_max") json p_max e3;
      band = some_within 1 64 (codes "band") json band e4;
      messages = at AreMessages (list_within 1 32 message_of) entries (codes "scheduling") json scheduling e5;
      tdd = tt;
      window = at IsWindow window_in window_codes (codes "window") json window e6;
      tag = (some_within 0 31 (codes "tag") json tag e7).1;
    }))))))))
