-- The control channels of a subframe say at most one thing.
use Rattle.std.proofs.Common.{◌≡◌, ◌∙◌, ℕ, ◌+◌, Bool, List, [], ◌∷◌, ℤ, Option, Some, None, ap, refl, sym, subst}
use Rattle.std.specs.List.{AllZip}
use Rattle.conv_code.specs.Reading.{summed}
use Rattle.tailbite.proofs.Only.{one_word}
use Rattle.pcfich.proofs.Indicators.{one_indicator}
use Rattle.wide_grid.specs.declared.group.WideReg.{WideReg}
use Rattle.wide_grid.specs.Control.{element_count}
use Rattle.wide_grant.specs.declared.grant.WideGrant.{WideGrant}
use Rattle.wide_slot.specs.Slot.{WideSeen}
use Rattle.wide_control.specs.declared.format.DciFormat.{DciFormat}
use Rattle.wide_control.specs.Format.{payload_size}
use Rattle.wide_control.specs.Offer.{Gives, IsOffer}
use Rattle.wide_control.specs.Values.{indicator_values, ordered_groups}
use Rattle.wide_control.specs.Control.{Search, searches, Finds, grants_among, AreGrants, SeenControl}
use Rattle.wide_control.specs.Laws.{IsOneControl}

-- a word gives one answer
gives_once : (blocks sfn : ℕ) (format : DciFormat) (word : List Bool) (a b : Option WideGrant) →
    Gives blocks sfn format word a → Gives blocks sfn format word b → a ≡ b
gives_once blocks sfn format word (Some g) (Some h) s t =
    let same : ◌≡◌ {A = WideGrant} g h = let both = sym s.grants ∙ t.grants in cc in ap (λ (grant : WideGrant). Some grant) same
gives_once blocks sfn format word (Some g) None s t = absurd (t g s)
gives_once blocks sfn format word None (Some h) s t = absurd (s h t)
gives_once blocks sfn format word None None s t = refl

-- soft values offer one answer in a format
one_offer : (blocks sfn : ℕ) (values : List ℤ) (format : DciFormat) (a b : Option WideGrant) →
    IsOffer blocks sfn values format a → IsOffer blocks sfn values format b → a ≡ b
one_offer blocks sfn values format a b s t =
    let same : s.word ≡ t.word = one_word (summed (payload_size blocks format + 16) values) s.word t.word s.least t.least in
    gives_once blocks sfn format t.word a b (subst (λ word. Gives blocks sfn format word a) same s.gives) t.gives

-- each search of a list finds one answer
same_founds : (slot : WideSeen) (sfn : ℕ) (groups : List WideReg) (list : List Search) (a b : List (Option WideGrant)) →
    AllZip (Finds slot sfn groups) list a → AllZip (Finds slot sfn groups) list b → a ≡ b
same_founds slot sfn groups [] [] [] s t = refl
same_founds slot sfn groups [] [] (y ∷ b) s t = absurd t
same_founds slot sfn groups [] (x ∷ a) b s t = absurd s
same_founds slot sfn groups (p ∷ list) [] b s t = absurd s
same_founds slot sfn groups (p ∷ list) (x ∷ a) [] s t = absurd t
same_founds slot sfn groups (p ∷ list) (x ∷ a) (y ∷ b) s t =
    let first : ◌≡◌ {A = Option WideGrant} x y = one_offer _ _ _ _ x y s.0 t.0 in
    let rest : ◌≡◌ {A = List (Option WideGrant)} a b = same_founds slot sfn groups list a b s.1 t.1 in
    cc

one_grants : (slot : WideSeen) (sfn : ℕ) (groups : List WideReg) (list : List Search) (a b : List WideGrant) →
    AreGrants slot sfn groups list a → AreGrants slot sfn groups list b → a ≡ b
one_grants slot sfn groups list a b s t =
    s.given ∙ ap grants_among (same_founds slot sfn groups list s.founds t.founds s.each t.each) ∙ sym t.given

control_of : ℕ → ℕ → List WideGrant → SeenControl
control_of cfi elements grants = record { cfi = cfi; elements = elements; grants = grants }

same_control : (i j m n : ℕ) (a b : List WideGrant) → i ≡ j → m ≡ n → a ≡ b → control_of i m a ≡ control_of j n b
same_control i j m n a b x y z = rw (x, y, z) refl

pub one_control : IsOneControl
unfolding control_of
one_control slot sfn a b s t =
    let cfi : a.cfi ≡ b.cfi = one_indicator (indicator_values slot) a.cfi b.cfi s.indicator t.indicator in
    let elements : a.elements ≡ b.elements = s.elements ∙ ap (element_count slot.cell) cfi ∙ sym t.elements in
    let grants = subst (λ n. AreGrants slot sfn (ordered_groups slot.cell b.cfi) (searches n) a.grants) elements
    (subst (λ i. AreGrants slot sfn (ordered_groups slot.cell i) (searches a.elements) a.grants) cfi s.grants) in
    same_control a.cfi b.cfi a.elements b.elements a.grants b.grants cfi elements
    (one_grants slot sfn (ordered_groups slot.cell b.cfi) (searches b.elements) a.grants b.grants grants t.grants)
