-- The choice among MIBs grows by better ones.
use Rattle.std.proofs.Common.{◌≡◌, ◌⊎◌, inl, inr, ℕ, ◌+◌, ◌<◌, ◌≤◌, Bool, true, false, nat_lt, Option, Some, None, List, ℤ, arith, refl, sym, ap, subst, ◌∙◌}
use Rattle.std.specs.Prelude.{if◌then◌else◌, MatchOption}
use Rattle.std.proofs.lemmas.Bool.{ltb-true, ltb-false, cases_lt}
use Rattle.added_master.specs.declared.master.AddedMaster.{AddedMaster}
use Rattle.added_master.specs.Sums.{period_sums, added_sums}
use Rattle.added_master.specs.Master.{DecodesAdded, IsCandidate}
use Rattle.added_master.specs.Choice.{rank, IsPreferred, IsChoice, IsDecoded, IsDecodedWith, IsMasterOf, frames_for, better}
use Rattle.added_master.specs.Laws.{OnlyOneMaster}
use Rattle.added_master.proofs.Decoded.{only_one_decoded, upper-below}

-- the choice depends on which MIBs have the property
pub same_choice : (P R : AddedMaster → Type 0) (chosen : Option AddedMaster) → ((m : AddedMaster) → P m → R m) → ((m : AddedMaster) → R m → P m) →
    IsChoice P chosen → IsChoice R chosen
same_choice P R None f g is = λ m r. is m (g m r)
same_choice P R (Some best) f g is = (f best is.0, λ other r preferred. is.1 other (g other r) preferred)

-- the better of two choices is the choice of both, if all of the first have lower ranks
pub choice_of_both : (P Q R : AddedMaster → Type 0) (a b : Option AddedMaster) → ((m : AddedMaster) → R m → P m ⊎ Q m) → ((m : AddedMaster) → P m → R m) →
    ((m : AddedMaster) → Q m → R m) → ((m n : AddedMaster) → P m → Q n → rank m < rank n) → IsChoice P a → IsChoice Q b → IsChoice R (better a b)
unfolding better
choice_of_both P Q R None None split f g order p q = λ m r. elim (split m r) [ inl x ↦ p m x | inr y ↦ q m y ]
choice_of_both P Q R (Some x) None split f g order p q =
    (f x p.0, λ other r preferred. elim (split other r) [ inl u ↦ p.1 other u preferred | inr v ↦ q other v ])
choice_of_both P Q R None (Some y) split f g order p q =
    (g y q.0, λ other r preferred. elim (split other r) [ inl u ↦ p other u | inr v ↦ q.1 other v preferred ])
choice_of_both P Q R (Some x) (Some y) split f g order p q = settle (nat_lt x.matches y.matches) refl
  where
    settle : (b : Bool) → nat_lt x.matches y.matches ≡ b → IsChoice R (if b then Some y else Some x)
    settle true e =
        let more = ltb-true x.matches y.matches e in (
          g y q.0,
          λ other r preferred. elim (split other r) [
            | inl u ↦ p.1 other u (inl (elim preferred [ inl h ↦ omega (arith, more, h) | inr h ↦ let k = h.0 in omega (arith, more, k) ]))
            | inr v ↦ q.1 other v preferred
          ],
        )
    settle false e =
        let less = ltb-false x.matches y.matches e in (
          f x p.0,
          λ other r preferred. elim (split other r) [
            | inl u ↦ p.1 other u preferred
            | inr v ↦ elim preferred [
              | inl h ↦ q.1 other v (inl (omega (arith, less, h)))
              | inr h ↦ absurd (let k = h.1 in let o = order x other p.0 v in omega (arith, k, o))
            ]
          ],
        )

-- ---- only one choice

same_rank : (a b : AddedMaster) → a.phase < 4 → b.phase < 4 → a.mib.upper < 256 → b.mib.upper < 256 → rank a ≡ rank b →
    (a.ports ≡ b.ports) × (a.phase ≡ b.phase) × (a.mib.upper ≡ b.mib.upper)
same_rank a b pa pb ua ub e = (omega (arith, pa, pb, ua, ub, e), omega (arith, pa, pb, ua, ub, e), omega (arith, pa, pb, ua, ub, e))

pub only_one_master : OnlyOneMaster
only_one_master identity frames None None p q = refl
only_one_master identity frames None (Some y) p q = absurd (p y q.0)
only_one_master identity frames (Some x) None p q = absurd (q x p.0)
only_one_master identity frames (Some x) (Some y) p q =
    let not_y = p.1 y q.0 in
    let not_x = q.1 x p.0 in
    ap Some (by_matches (cases_lt x.matches y.matches) (cases_lt y.matches x.matches) (cases_lt (rank x) (rank y)) (cases_lt (rank y) (rank x)) not_y not_x)
  where
    same : rank x ≡ rank y → x ≡ y
    same e =
        let dx = p.0 in
        let dy = q.0 in
        let s = same_rank x y dx.phase dy.phase (upper-below _ x dx.decodes) (upper-below _ y dy.decodes) e in
        only_one_decoded (added_sums (period_sums identity y.phase (frames y.ports)) y.mib.upper) x y
        (subst (λ (u : ℕ). DecodesAdded (added_sums (period_sums identity y.phase (frames y.ports)) u) x) s.2
        (subst (λ (f : ℕ). DecodesAdded (added_sums (period_sums identity f (frames y.ports)) x.mib.upper) x) s.1
        (subst (λ (n : ℕ). DecodesAdded (added_sums (period_sums identity x.phase (frames n)) x.mib.upper) x) s.0 dx.decodes)))
        dy.decodes s.0 s.1

    by_matches : (x.matches < y.matches) ⊎ (y.matches ≤ x.matches) → (y.matches < x.matches) ⊎ (x.matches ≤ y.matches) →
        (rank x < rank y) ⊎ (rank y ≤ rank x) → (rank y < rank x) ⊎ (rank x ≤ rank y) → (IsPreferred y x → ⊥) → (IsPreferred x y → ⊥) → x ≡ y
    by_matches (inl h) _ _ _ n m = absurd (n (inl h))
    by_matches (inr h) (inl k) _ _ n m = absurd (m (inl k))
    by_matches (inr h) (inr k) (inl r) _ n m = absurd (m (inr (omega (arith, h, k), r)))
    by_matches (inr h) (inr k) (inr r) (inl s) n m = absurd (n (inr (omega (arith, h, k), s)))
    by_matches (inr h) (inr k) (inr r) (inr s) n m = same (omega (arith, r, s))

-- ---- the choice by frame number, by phase and by port count

-- decoded with a port count and a phase, from sums by upper frame number bits
abbrev pub DecodedAt : ℕ → ℕ → (ℕ → List (List ℤ)) → AddedMaster → Type 0
DecodedAt ports phase sums m = (m.ports ≡ ports) × (m.phase ≡ phase) × DecodesAdded (sums m.mib.upper) m

-- .. and with upper frame number bits below u
abbrev pub DecodedBelow : ℕ → ℕ → (ℕ → List (List ℤ)) → ℕ → AddedMaster → Type 0
DecodedBelow ports phase sums u m = DecodedAt ports phase sums m × (m.mib.upper < u)

pub none_below : (ports phase : ℕ) (sums : ℕ → List (List ℤ)) → IsChoice (DecodedBelow ports phase sums 0) None
none_below ports phase sums = λ m d. let below = d.1 in absurd (omega (arith, below))

pub more_below : (ports phase : ℕ) (sums : ℕ → List (List ℤ)) (u : ℕ) (best found : Option AddedMaster) → IsChoice (DecodedBelow ports phase sums u) best →
    MatchOption found ((m : AddedMaster) → IsCandidate ports phase u m → DecodesAdded (sums u) m → ⊥)
    (λ m. IsCandidate ports phase u m × DecodesAdded (sums u) m) →
    IsChoice (DecodedBelow ports phase sums (u + 1)) (better best found)
more_below ports phase sums u best found so_far here =
    choice_of_both (DecodedBelow ports phase sums u) Here (DecodedBelow ports phase sums (u + 1)) best found split
    (λ m d. (d.0, let below = d.1 in omega (arith, below)))
    (λ m h. let is = h.0 in let e = is.2 in ((is.0, is.1, subst (λ (n : ℕ). DecodesAdded (sums n) m) (sym e) h.1), omega (arith, e)))
    (λ m n d h. let is = h.0 in let a = d.0 in let below = d.1 in let p = a.0 in let q = a.1 in let r = is.0 in let s = is.1 in let t = is.2 in omega (arith, below, p, q, r, s, t))
    so_far (chosen found here)
  where
    Here : AddedMaster → Type 0
    Here m = IsCandidate ports phase u m × DecodesAdded (sums u) m

    split : (m : AddedMaster) → DecodedBelow ports phase sums (u + 1) m → DecodedBelow ports phase sums u m ⊎ Here m
    split m d = elim (cases_lt m.mib.upper u) [
      | inl less ↦ inl (d.0, less)
      | inr least ↦ inr (
          let below = d.1 in
          let e : m.mib.upper ≡ u = omega (arith, below, least) in
          let a = d.0 in
          ((a.0, a.1, e), subst (λ (n : ℕ). DecodesAdded (sums n) m) e a.2))
    ]

    same : (a b : AddedMaster) → Here a → Here b → IsPreferred a b → ⊥
    same a b x y preferred = elim preferred [
      | inl h ↦ let e = matches_same in omega (arith, h, e)
      | inr h ↦ let is = x.0 in let those = y.0 in let k = h.1 in let p = is.0 in let q = is.1 in let r = is.2 in let s = those.0 in let t = those.1 in let w = those.2 in
          omega (arith, k, p, q, r, s, t, w)
    ]
      where
        matches_same : a.matches ≡ b.matches
        matches_same =
            let is = x.0 in
            let those = y.0 in
            ap (λ (m : AddedMaster). m.matches) (only_one_decoded (sums u) a b x.1 y.1 (is.0 ∙ sym those.0) (is.1 ∙ sym those.1))

    chosen : (o : Option AddedMaster) → MatchOption o ((m : AddedMaster) → IsCandidate ports phase u m → DecodesAdded (sums u) m → ⊥) (λ m. Here m) → IsChoice Here o
    chosen None none = λ m h. none m h.0 h.1
    chosen (Some x) is = (is, λ other h preferred. same other x h is preferred)

pub all_below : (ports phase : ℕ) (sums : ℕ → List (List ℤ)) (u : ℕ) (best : Option AddedMaster) → 256 ≤ u → IsChoice (DecodedBelow ports phase sums u) best →
    IsChoice (DecodedAt ports phase sums) best
all_below ports phase sums u best all =
    same_choice (DecodedBelow ports phase sums u) (DecodedAt ports phase sums) best (λ m d. d.0)
    (λ m d. (d, let below = upper-below (sums m.mib.upper) m d.2 in omega (arith, below, all)))

-- decoded from frames with a phase below p
abbrev pub DecodedBefore : ℕ → ℕ → List (List ℤ) → ℕ → AddedMaster → Type 0
DecodedBefore identity ports frames p m =
    (m.ports ≡ ports) × (m.phase < p) × DecodesAdded (added_sums (period_sums identity m.phase frames) m.mib.upper) m

pub none_before : (identity ports : ℕ) (frames : List (List ℤ)) → IsChoice (DecodedBefore identity ports frames 0) None
none_before identity ports frames = λ m d. let below = d.1 in absurd (omega (arith, below))

pub more_before : (identity ports : ℕ) (frames : List (List ℤ)) (p : ℕ) (best found : Option AddedMaster) → IsChoice (DecodedBefore identity ports frames p) best →
    IsChoice (DecodedAt ports p (added_sums (period_sums identity p frames))) found → IsChoice (DecodedBefore identity ports frames (p + 1)) (better best found)
more_before identity ports frames p best found so_far here =
    choice_of_both (DecodedBefore identity ports frames p) (DecodedAt ports p sums) (DecodedBefore identity ports frames (p + 1)) best found split
    (λ m d. (d.0, let below = d.1 in omega (arith, below), d.2))
    (λ m h. let e = h.1 in (h.0, omega (arith, e), subst (λ (q : ℕ). DecodesAdded (added_sums (period_sums identity q frames) m.mib.upper) m) (sym e) h.2))
    (λ m n d h. let a = d.0 in let below = d.1 in let small = upper-below (added_sums (period_sums identity m.phase frames) m.mib.upper) m d.2 in
    let q = h.0 in let e = h.1 in omega (arith, a, below, small, q, e))
    so_far here
  where
    sums : ℕ → List (List ℤ)
    sums = added_sums (period_sums identity p frames)

    split : (m : AddedMaster) → DecodedBefore identity ports frames (p + 1) m → DecodedBefore identity ports frames p m ⊎ DecodedAt ports p sums m
    split m d = elim (cases_lt m.phase p) [
      | inl less ↦ inl (d.0, less, d.2)
      | inr least ↦ inr (
          let below = d.1 in
          let e : m.phase ≡ p = omega (arith, below, least) in
          (d.0, e, subst (λ (q : ℕ). DecodesAdded (added_sums (period_sums identity q frames) m.mib.upper) m) e d.2))
    ]

lower_rank : (identity i j : ℕ) (xs ys : List (List ℤ)) (m n : AddedMaster) → i < j → IsDecodedWith identity i xs m → IsDecodedWith identity j ys n → rank m < rank n
lower_rank identity i j xs ys m n l x y =
    let a = x.0 in let b = x.1 in let small = upper-below (added_sums (period_sums identity m.phase xs) m.mib.upper) m x.2 in
    let e = y.0 in omega (arith, l, a, b, small, e)

-- decoded with the frames for its own port count
with_its_own : (identity ports : ℕ) (one two four frames : List (List ℤ)) (m : AddedMaster) → frames_for one two four ports ≡ frames →
    IsDecodedWith identity ports frames m → IsDecoded identity (frames_for one two four) m
with_its_own identity ports one two four frames m e d = record {
  phase = d.1;
  decodes = subst (λ (xs : List (List ℤ)). DecodesAdded (added_sums (period_sums identity m.phase xs) m.mib.upper) m)
      (sym (ap (frames_for one two four) d.0 ∙ e)) d.2;
}

with_ports : (identity ports : ℕ) (one two four frames : List (List ℤ)) (m : AddedMaster) → frames_for one two four ports ≡ frames → m.ports ≡ ports →
    IsDecoded identity (frames_for one two four) m → IsDecodedWith identity ports frames m
with_ports identity ports one two four frames m e is d = (
  is,
  d.phase,
  subst (λ (xs : List (List ℤ)). DecodesAdded (added_sums (period_sums identity m.phase xs) m.mib.upper) m)
      (ap (frames_for one two four) is ∙ e) d.decodes,
)

pub choice_of_three : (identity : ℕ) (one two four : List (List ℤ)) (a b c : Option AddedMaster) → IsChoice (IsDecodedWith identity 1 one) a →
    IsChoice (IsDecodedWith identity 2 two) b → IsChoice (IsDecodedWith identity 4 four) c → IsMasterOf identity (frames_for one two four) (better (better a b) c)
choice_of_three identity one two four a b c p q r =
    choice_of_both FirstTwo (IsDecodedWith identity 4 four) (IsDecoded identity (frames_for one two four)) (better a b) c split
    (λ m d. elim d [ inl x ↦ with_its_own identity 1 one two four one m refl x | inr y ↦ with_its_own identity 2 one two four two m refl y ])
    (λ m z. with_its_own identity 4 one two four four m refl z)
    (λ m n d z. elim d [ inl x ↦ lower_rank identity 1 4 one four m n (omega arith) x z | inr y ↦ lower_rank identity 2 4 two four m n (omega arith) y z ])
    (choice_of_both (IsDecodedWith identity 1 one) (IsDecodedWith identity 2 two) FirstTwo a b (λ m d. d) (λ m x. inl x) (λ m y. inr y)
    (λ m n x y. lower_rank identity 1 2 one two m n (omega arith) x y) p q)
    r
  where
    FirstTwo : AddedMaster → Type 0
    FirstTwo m = IsDecodedWith identity 1 one m ⊎ IsDecodedWith identity 2 two m

    split : (m : AddedMaster) → IsDecoded identity (frames_for one two four) m → FirstTwo m ⊎ IsDecodedWith identity 4 four m
    split m d = elim d.decodes.check.count [
      | inl e ↦ inl (inl (with_ports identity 1 one two four one m refl e d))
      | inr other ↦ elim other [
        | inl e ↦ inl (inr (with_ports identity 2 one two four two m refl e d))
        | inr e ↦ inr (with_ports identity 4 one two four four m refl e d)
      ]
    ]
