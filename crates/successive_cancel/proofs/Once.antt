-- A recording's rounds are unique.
use Rattle.std.proofs.Common.{◌≡◌, ◌∙◌, ℕ, zero, suc, refl, sym, ap, subst, List, [], ◌∷◌, ◌++◌, Bool}
use Rattle.std.specs.List.{Contains}
use Rattle.cs_num.specs.declared.Sample.{Sample}
use Rattle.lte_types.specs.declared.entry.Entry.{Entry}
use Rattle.explain.specs.Entries.{IsExplained}
use Rattle.explain.specs.Receiver.{one_port_receiver}
use Rattle.explain.proofs.Listed.{is_one_list}
use Rattle.cancel.specs.declared.subtracted.Subtracted.{Subtracted}
use Rattle.successive_cancel.specs.declared.round.Round.{Round}
use Rattle.successive_cancel.specs.declared.round.Rounds.{Rounds}
use Rattle.successive_cancel.specs.Rounds.{IsTakenOff, NoneIsTakenOff, IsRound, AreRounds, IsCancelled}
use Rattle.successive_cancel.proofs.Front.{at_front, behind, heads, tails}
use Rattle.successive_cancel.proofs.Taking.{one_taken}

-- ---- the first entry that can be cancelled

one_first : (recording : List Sample) (front before : List Entry) (a b : Entry) (after rest : List Entry) (s t : Subtracted) →
    front ++ a ∷ after ≡ before ++ b ∷ rest → NoneIsTakenOff recording front → NoneIsTakenOff recording before → IsTakenOff recording a s → IsTakenOff recording b t → a ≡ b
one_first recording [] [] a b after rest s t e none free p q = heads a b after rest e
one_first recording [] (y ∷ before) a b after rest s t e none free p q =
    absurd (free a s (subst (λ (x : Entry). Contains (y ∷ before) x) (sym (heads a y after (before ++ b ∷ rest) e)) (at_front y before)) p)
one_first recording (x ∷ front) [] a b after rest s t e none free p q =
    absurd (none b t (subst (λ (y : Entry). Contains (x ∷ front) y) (heads x b (front ++ a ∷ after) rest e) (at_front x front)) q)
one_first recording (x ∷ front) (y ∷ before) a b after rest s t e none free p q =
    one_first recording front before a b after rest s t (tails x y (front ++ a ∷ after) (before ++ b ∷ rest) e)
    (λ entry taken inside. none entry taken (behind x entry front inside)) (λ entry taken inside. free entry taken (behind y entry before inside)) p q

-- a list's round is unique
one_round : (recording : List Sample) (list : List Entry) (a b : Round) → IsRound recording list a → IsRound recording list b → a ≡ b
one_round recording list a b p q = built a.id b.id a.taken b.taken a.list b.list (p.id ∙ ap (λ (e : Entry). e.id) entry ∙ sym q.id) taken lists
  where
    entry : p.entry ≡ q.entry
    entry = one_first recording p.before q.before p.entry q.entry p.after q.after a.taken b.taken (sym p.split ∙ q.split) p.passed q.passed p.taken q.taken

    taken : a.taken ≡ b.taken
    taken = one_taken recording q.entry a.taken b.taken (subst (λ (e : Entry). IsTakenOff recording e a.taken) entry p.taken) q.taken

    lists : a.list ≡ b.list
    lists = is_one_list one_port_receiver b.taken.residue a.list b.list (subst (λ (t : Subtracted). IsExplained t.residue a.list) taken p.listed.explained) q.listed.explained

    built : (i j : ℕ) (s t : Subtracted) (x y : List Entry) → i ≡ j → s ≡ t → x ≡ y → ◌≡◌ {A = Round} (record { id = i; taken = s; list = x }) (record { id = j; taken = t; list = y })
    built i j s t x y e f g = rw (e, f, g) refl

-- a list without an entry that can be cancelled has no round
no_round : (recording : List Sample) (list : List Entry) (round : Round) → NoneIsTakenOff recording list → IsRound recording list round → ⊥
no_round recording list round none is =
    none is.entry round.taken (subst (λ (l : List Entry). Contains l is.entry) (sym is.split) (inside is.before)) is.taken
  where
    inside : (before : List Entry) → Contains (before ++ is.entry ∷ is.after) is.entry
    inside [] = at_front is.entry is.after
    inside (x ∷ before) = behind x is.entry (before ++ is.entry ∷ is.after) (inside before)

-- ---- rounds

pub record AreSame (xs ys : List Round) (e f : Bool) : Type 0 where
  pub rounds : xs ≡ ys
  pub ended : e ≡ f

one_rounds : (most : ℕ) (recording : List Sample) (list : List Entry) (xs ys : List Round) (e f : Bool) → AreRounds most recording list xs e → AreRounds most recording list ys f → AreSame xs ys e f
one_rounds zero recording list xs ys e f p q = record { rounds = p.0 ∙ sym q.0; ended = p.1 ∙ sym q.1 }
one_rounds (suc n) recording list [] [] e f p q = record { rounds = refl; ended = p.0 ∙ sym q.0 }
one_rounds (suc n) recording list [] (y ∷ ys) e f p q = absurd (no_round recording list y p.1 q.0)
one_rounds (suc n) recording list (x ∷ xs) [] e f p q = absurd (no_round recording list x q.1 p.0)
one_rounds (suc n) recording list (x ∷ xs) (y ∷ ys) e f p q =
    let same = one_round recording list x y p.0 q.0 in
    let rest = one_rounds n y.taken.residue y.list xs ys e f (subst (λ (r : Round). AreRounds n r.taken.residue r.list xs e) same p.1) q.1 in
    record { rounds = ap (λ (r : Round). r ∷ xs) same ∙ ap (λ (rs : List Round). y ∷ rs) rest.rounds; ended = rest.ended }

-- anything computed from the rounds is unique
pub one_made : {A : Type 0} (made : List Entry → List Round → Bool → A) (recording : List Sample) (p q : Rounds) → IsCancelled recording p → IsCancelled recording q →
    made p.first p.taken.items p.ended ≡ made q.first q.taken.items q.ended
one_made made recording p q a b =
    ap (λ (l : List Entry). made l p.taken.items p.ended) lists
    ∙ ap (λ (rs : List Round). made q.first rs p.ended) same.rounds
    ∙ ap (λ (e : Bool). made q.first q.taken.items e) same.ended
  where
    lists : p.first ≡ q.first
    lists = is_one_list one_port_receiver recording p.first q.first a.listed.explained b.listed.explained

    same : AreSame p.taken.items q.taken.items p.ended q.ended
    same = one_rounds 4 recording q.first p.taken.items q.taken.items p.ended q.ended
        (subst (λ (l : List Entry). AreRounds 4 recording l p.taken.items p.ended) lists a.follow) b.follow
