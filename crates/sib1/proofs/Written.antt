-- The appended parts are encodings of the fields.
use Rattle.std.proofs.Common.{◌≡◌, ℕ, ◌-◌, ◌≤◌, Bool, true, false, cond, not, nat_eq, List, [], ◌∷◌, length, take, drop, get_or, Option, refl, ap, sym, subst, ◌∙◌, arith}
use Rattle.std.specs.Prelude.{is_some}
use Rattle.std.proofs.lemmas.List.{take_all}
use Rattle.lte_types.specs.Ranges.{FirstHasMcc}
use mir.Val.{bool_byte}
use Rattle.lte_types.specs.declared.mnc.Mnc.{Mnc}
use Rattle.lte_types.specs.declared.mnc.Mnc.TheVariants.{Two, Three}
use Rattle.lte_types.specs.declared.plmn.Plmn.{Plmn}
use Rattle.uper.specs.Grammar.{done, from_to}
use Rattle.uper.specs.Grammar.{flag, if_present, times}
use Rattle.sib1.specs.Layout.{digit, mnc, plmn_identity_info, plmn_identity_list}
use Rattle.uper.specs.Sheet.{Puts}
use Rattle.uper.proofs.Putting.{puts_bind, puts_done, puts_same}

abbrev State : Type 0
State = Option (List Bool)

pub two_puts : (code : Mnc) (digits : List ℕ) (old mid new : State) → code ≡ Two digits → length digits ≡ 2 → Puts flag false old mid → Puts (times (length digits) digit) digits mid new → Puts mnc code old new
unfolding mnc
two_puts code digits old mid new is two p q =
    subst (λ c. Puts mnc c old new) (sym is)
    (puts_bind flag _ false (Two digits) old mid new p
    (puts_bind (times 2 digit) (λ ds. done (Two ds)) digits (Two digits) mid new new (subst (λ n. Puts (times n digit) digits mid new) two q) (puts_done (Two digits) new)))

pub three_puts : (code : Mnc) (digits : List ℕ) (old mid new : State) → code ≡ Three digits → length digits ≡ 3 → Puts flag true old mid → Puts (times (length digits) digit) digits mid new → Puts mnc code old new
unfolding mnc
three_puts code digits old mid new is three p q =
    subst (λ c. Puts mnc c old new) (sym is)
    (puts_bind flag _ true (Three digits) old mid new p
    (puts_bind (times 3 digit) (λ ds. done (Three ds)) digits (Three digits) mid new new (subst (λ n. Puts (times n digit) digits mid new) three q) (puts_done (Three digits) new)))

said : (b : Bool) → nat_eq (bool_byte b) 1 ≡ b
said true = refl
said false = refl

twice : (b : Bool) → not (not b) ≡ b
twice true = refl
twice false = refl

at_most_one : (b : Bool) → bool_byte b ≤ 1
at_most_one true = omega arith
at_most_one false = omega arith

least_is : (b : Bool) (least : ℕ) → least ≤ cond b 1 0 → least ≤ bool_byte b
least_is true least l = l
least_is false least l = l

abbrev negated : Plmn → Plmn
negated p = record { mcc = p.mcc; mnc = p.mnc; reserved = not (not p.reserved) }

negated_is : (p : Plmn) → negated p ≡ p
negated_is p = ap (λ y. let q : Plmn = record { mcc = p.mcc; mnc = p.mnc; reserved = y } in q) (twice p.reserved)

pub plmn_puts : (p : Plmn) (least : ℕ) (old a b c new : State) → least ≤ cond (is_some p.mcc) 1 0
    → ((least greatest : ℕ) → least ≤ bool_byte (is_some p.mcc) → bool_byte (is_some p.mcc) ≤ greatest → Puts (from_to 1 least greatest) (bool_byte (is_some p.mcc)) old a)
    → Puts (if_present (is_some p.mcc) (times 3 digit)) p.mcc a b → Puts mnc p.mnc b c → Puts flag (not p.reserved) c new → Puts (plmn_identity_info least) p old new
unfolding plmn_identity_info
plmn_puts p least old a b c new l first second third fourth =
    puts_bind (from_to 1 least 1) _ (bool_byte (is_some p.mcc)) p old a new (first least 1 (least_is (is_some p.mcc) least l) (at_most_one (is_some p.mcc)))
    (puts_bind (if_present (nat_eq (bool_byte (is_some p.mcc)) 1) (times 3 digit)) _ p.mcc p a b new (subst (λ y. Puts (if_present y (times 3 digit)) p.mcc a b) (sym (said (is_some p.mcc))) second)
    (puts_bind mnc _ p.mnc p b c new third
    (puts_bind flag (λ n. done (let q : Plmn = record { mcc = p.mcc; mnc = p.mnc; reserved = not n } in q)) (not p.reserved) p c new new fourth
    (puts_same (done (negated p)) (negated p) p new new (negated_is p) (puts_done (negated p) new)))))

-- the list without its first item
others_of : {A : Type 0} (first : A) (others : List A) → take (length (first ∷ others) - 1) (drop 1 (first ∷ others)) ≡ others
others_of first others =
    let e : length (first ∷ others) - 1 ≡ length others = omega arith in
    ap (λ n. take n others) e ∙ take_all (length others) others (omega arith)

pub plmns_puts : (list : List Plmn) (d : Plmn) (old a b new : State) → 1 ≤ length list → length list ≤ 6
    → ((least greatest : ℕ) → least ≤ length (take (length list - 1) (drop 1 list)) → length (take (length list - 1) (drop 1 list)) ≤ greatest → Puts (from_to 3 least greatest) (length (take (length list - 1) (drop 1 list))) old a)
    → Puts (plmn_identity_info 1) (get_or list 0 d) a b → Puts (times (length (take (length list - 1) (drop 1 list))) (plmn_identity_info 0)) (take (length list - 1) (drop 1 list)) b new → Puts plmn_identity_list list old new
unfolding plmn_identity_list
plmns_puts [] d old a b new some few first second third = absurd (omega (arith, some))
plmns_puts (p ∷ ps) d old a b new some few first second third =
    let rest = take (length (p ∷ ps) - 1) (drop 1 (p ∷ ps)) in
    let is : rest ≡ ps = others_of p ps in
    let size : length rest ≤ 5 = let e = ap length is in omega (arith, e, few) in
    puts_same _ (p ∷ rest) (p ∷ ps) old new (ap (λ xs. p ∷ xs) is)
    (puts_bind (from_to 3 0 5) _ (length rest) (p ∷ rest) old a new (first 0 5 (omega arith) size)
    (puts_bind (plmn_identity_info 1) _ p (p ∷ rest) a b new second
    (puts_bind (times (length rest) (plmn_identity_info 0)) (λ others. done (p ∷ others)) rest (p ∷ rest) b new new third (puts_done (p ∷ rest) new))))

pub first_has : (list : List Plmn) (d : Plmn) → FirstHasMcc list → is_some (get_or list 0 d).mcc ≡ true
first_has [] d h = absurd h
first_has (p ∷ ps) d h = h

pub one_least : (b : Bool) → b ≡ true → 1 ≤ cond b 1 0
one_least true e = omega arith
one_least false e = absurd cc
