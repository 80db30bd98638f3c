-- A subframe has at most one attempt.
use Rattle.std.proofs.Common.{◌≡◌, ℕ, ◌⊎◌, inl, inr, Bool, true, false, List, ℤ, Option, None, Some, Result, Ok, Err, refl, ap, sym, subst, ◌∙◌, arith}
use Rattle.std.specs.Prelude.{unwrap_or}
use Rattle.std.proofs.lemmas.Bool.{false≢true}
use Rattle.std.proofs.lemmas.Option.{none-some}
use Rattle.lte_types.specs.declared.sib1.Sib1.{Sib1}
use Rattle.lte_types.specs.declared.sib1_reason.Sib1Reason.{Sib1Reason}
use Rattle.lte_types.specs.declared.sib1_reason.Sib1Reason.TheVariants.{NoSearchSpace, NoControl, NotDecoded}
use Rattle.cs_bits.specs.Checks.{HasCheck16, message_of}
use Rattle.conv_code.specs.Reading.{summed as summed_by_place}
use Rattle.tailbite.proofs.Only.{one_word}
use Rattle.dci.specs.declared.grant.Grant.{Grant}
use Rattle.dci.specs.Format1A.{Says as BitsSay}
use Rattle.dci.proofs.Once.{one_answer as one_saying}
use Rattle.turbo_code.specs.declared.rows.Row.{Row}
use Rattle.turbo_code.specs.Reading.{summed}
use Rattle.turbo_dec.specs.Block.{block}
use Rattle.sib1.specs.Message.{Says}
use Rattle.sib1.proofs.Messages.{one_answer as one_message}
use Rattle.pcfich.proofs.Indicators.{one_indicator}
use Rattle.dci.specs.Fields.{system_information_rnti}
use Rattle.sib1_reader.specs.Subframe.{Subframe}
use Rattle.sib1_reader.specs.Control.{HasNoSearchSpace, IsWord, HasNoControl, ControlSays, Grants}
use Rattle.sib1_reader.specs.Block.{IsBlock, BlockSays, Decodes}
use Rattle.sib1_reader.specs.declared.reading.Attempt.{Attempt}
use Rattle.sib1_reader.specs.Attempt.{Follows}
use Rattle.sib1_reader.specs.Laws.{IsOneAttempt, IsOneAnswer}
use Rattle.turbo_code.proofs.OneRow.{one_row}

-- ---- variants differ

is_ok : {A B : Type 0} → Result A B → Bool
is_ok (Ok x) = true
is_ok (Err e) = false

not_ok_and_err : {A B : Type 0} (x : A) (e : B) → Ok x ≡ Err e → ⊥
unfolding is_ok
not_ok_and_err {A} {B} x e same = false≢true (sym (ap (λ (r : Result A B). is_ok r) same))

value_or : {A B : Type 0} → Result A B → A → A
value_or (Ok x) d = x
value_or (Err e) d = d

same_ok : {A B : Type 0} (x y : A) (r : Result A B) → r ≡ Ok x → r ≡ Ok y → x ≡ y
unfolding value_or
same_ok x y r e f = ap (λ r. value_or r x) (sym e ∙ f)

error_or : {A B : Type 0} → Result A B → B → B
error_or (Ok x) d = d
error_or (Err e) d = e

same_error : {A B : Type 0} (x y : B) (r : Result A B) → r ≡ Err x → r ≡ Err y → x ≡ y
unfolding error_or
same_error x y r e f = ap (λ r. error_or r x) (sym e ∙ f)

-- ---- the control information

one_control_word : (count : ℕ) (values : List ℤ) (u w : List Bool) → IsWord count values u → IsWord count values w → u ≡ w
one_control_word count values u w a b = one_word (summed_by_place 37 values) u w a.least b.least

grants_so : (count : ℕ) (values : List ℤ) (a : Result Grant Sib1Reason) → Grants count values a →
    ((decoded : ℕ) × (a ≡ Err (NoSearchSpace decoded)) × HasNoSearchSpace count decoded) ⊎ (((a ≡ Err NoControl) × HasNoControl count values) ⊎ ControlSays count values a)
grants_so count values (Err (NoSearchSpace decoded)) g = inl (decoded, refl, g)
grants_so count values (Err NoControl) g = inr (inl (refl, g))
grants_so count values a g = inr (inr g)

pub one_grant : (count : ℕ) (values : List ℤ) (a b : Result Grant Sib1Reason) → Grants count values a → Grants count values b → a ≡ b
one_grant count values a b g h = cases (grants_so count values a g) (grants_so count values b h)
  where
    failed_and_passed : HasNoControl count values → {r : Result Grant Sib1Reason} → ControlSays count values r → ⊥
    failed_and_passed n s = n.fails (subst (HasCheck16 system_information_rnti) (one_control_word count values s.word n.word s.is n.is) s.passes)

    cases : ((decoded : ℕ) × (a ≡ Err (NoSearchSpace decoded)) × HasNoSearchSpace count decoded) ⊎ (((a ≡ Err NoControl) × HasNoControl count values) ⊎ ControlSays count values a) →
        ((decoded : ℕ) × (b ≡ Err (NoSearchSpace decoded)) × HasNoSearchSpace count decoded) ⊎ (((b ≡ Err NoControl) × HasNoControl count values) ⊎ ControlSays count values b) → a ≡ b
    cases (inl n) (inl m) = n.1 ∙ ap (λ decoded. Err (NoSearchSpace decoded)) (n.2.reported_is ∙ sym m.2.reported_is) ∙ sym m.1
    cases (inl n) (inr (inl m)) = absurd (let few = n.2.few in let enough = m.1.is.enough in omega (arith, few, enough))
    cases (inl n) (inr (inr m)) = absurd (let few = n.2.few in let enough = m.is.enough in omega (arith, few, enough))
    cases (inr (inl n)) (inl m) = absurd (let few = m.2.few in let enough = n.1.is.enough in omega (arith, few, enough))
    cases (inr (inl n)) (inr (inl m)) = n.0 ∙ sym m.0
    cases (inr (inl n)) (inr (inr m)) = absurd (failed_and_passed n.1 m)
    cases (inr (inr n)) (inl m) = absurd (let few = m.2.few in let enough = n.is.enough in omega (arith, few, enough))
    cases (inr (inr n)) (inr (inl m)) = absurd (failed_and_passed m.1 n)
    cases (inr (inr n)) (inr (inr m)) =
        one_saying (message_of 16 n.word) a b n.says (subst (λ w. BitsSay (message_of 16 w) b) (one_control_word count values m.word n.word m.is n.is) m.says)

-- ---- the block

pub one_block : (values : List ℤ) (grant : Grant) (f g : Option (List Bool)) → IsBlock values grant f → IsBlock values grant g → f ≡ g
one_block values grant f g a b =
    let same : a.row ≡ b.row = one_row a.row b.row a.is_row b.is_row (a.size ∙ sym b.size) in
    sym a.decodes ∙ ap (λ (row : Row). block row (summed row.k grant.rv values)) same ∙ b.decodes

decodes_so : (values : List ℤ) (grant : Grant) (a : Result Sib1 Sib1Reason) → Decodes values grant a →
    ((a ≡ Err NotDecoded) × IsBlock values grant None) ⊎ BlockSays values grant a
decodes_so values grant (Err NotDecoded) t = inl (refl, t)
decodes_so values grant a t = inr t

pub one_text : (values : List ℤ) (grant : Grant) (a b : Result Sib1 Sib1Reason) → Decodes values grant a → Decodes values grant b → a ≡ b
one_text values grant a b s t = cases (decodes_so values grant a s) (decodes_so values grant b t)
  where
    cases : ((a ≡ Err NotDecoded) × IsBlock values grant None) ⊎ BlockSays values grant a → ((b ≡ Err NotDecoded) × IsBlock values grant None) ⊎ BlockSays values grant b → a ≡ b
    cases (inl n) (inl m) = n.0 ∙ sym m.0
    cases (inl n) (inr m) = absurd (none-some m.bits (one_block values grant None (Some m.bits) n.1 m.is))
    cases (inr n) (inl m) = absurd (none-some n.bits (one_block values grant None (Some n.bits) m.1 n.is))
    cases (inr n) (inr m) =
        let same : m.bits ≡ n.bits = ap (λ (found : Option (List Bool)). unwrap_or found m.bits) (one_block values grant (Some m.bits) (Some n.bits) m.is n.is) in
        one_message n.bits a b n.says (subst (λ bits. Says bits b) same m.says)

-- ---- the attempt

follows_once : (values : Subframe) (i : ℕ) (g h : Option Grant) (a b : Result Sib1 Sib1Reason) →
    Follows values i g a → Follows values i h b → (g ≡ h) × (a ≡ b)
follows_once values i (Some g) (Some h) a b s t =
    let same : g ≡ h = same_ok g h (Ok g) refl (one_grant (values.elements i) (values.candidate i) (Ok g) (Ok h) s.grants t.grants) in (
      ap (λ (grant : Grant). Some grant) same,
      one_text (values.shared i h.start h.blocks) h a b (subst (λ (grant : Grant). Decodes (values.shared i grant.start grant.blocks) grant a) same s.decodes) t.decodes,
    )
follows_once values i (Some g) None a (Err r) s t = absurd (not_ok_and_err g r (one_grant (values.elements i) (values.candidate i) (Ok g) (Err r) s.grants t))
follows_once values i None (Some h) (Err q) b s t = absurd (not_ok_and_err h q (one_grant (values.elements i) (values.candidate i) (Ok h) (Err q) t.grants s))
follows_once values i None None (Err q) (Err r) s t =
    (refl, ap (λ (e : Sib1Reason). Err e) (same_error q r (Err q) refl (one_grant (values.elements i) (values.candidate i) (Err q) (Err r) s t)))
follows_once values i (Some g) None a (Ok y) s t = absurd t
follows_once values i None (Some h) (Ok x) b s t = absurd s
follows_once values i None None (Ok x) b s t = absurd s
follows_once values i None None (Err q) (Ok y) s t = absurd t

attempt_of : ℕ → Option Grant → Result Sib1 Sib1Reason → Attempt
attempt_of i g a = record { cfi = i; grant = g; answer = a }

same_attempt : (i j : ℕ) (g h : Option Grant) (a b : Result Sib1 Sib1Reason) → i ≡ j → g ≡ h → a ≡ b → attempt_of i g a ≡ attempt_of j h b
same_attempt i j g h a b x y z = rw (x, y, z) refl

pub one_attempt : IsOneAttempt
unfolding attempt_of
one_attempt values a b x y =
    let same : a.cfi ≡ b.cfi = one_indicator values.indicator a.cfi b.cfi x.decoded y.decoded in
    let rest = follows_once values b.cfi a.grant b.grant a.answer b.answer (subst (λ i. Follows values i a.grant a.answer) same x.follows) y.follows in
    same_attempt a.cfi b.cfi a.grant b.grant a.answer b.answer same rest.0 rest.1

pub one_reading : IsOneAnswer
one_reading values a b x y =
    sym x.answers ∙ ap (λ (attempt : Attempt). attempt.answer) (one_attempt values x.attempt y.attempt x.is y.is) ∙ y.answers
