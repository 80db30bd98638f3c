-- A spoken cell's system information is the sent fields, and so it is in the list.
use Rattle.std.proofs.Common.{◌≡◌, ◌∙◌, ◌⊎◌, inl, inr, ℕ, ◌+◌, ◌<◌, ◌≤◌, Bool, true, false, List, [], ◌∷◌, length, get_or, Result, Ok, Err, ap, refl, sym, subst, arith}
use Rattle.std.specs.List.{AllZip, AllPairs, Contains}
use Rattle.std.proofs.lemmas.Bool.{cases_lt}
use Rattle.std.proofs.lemmas.List.Elements.{AllZip-get_or, length_all_zip, Contains-get_or}
use Rattle.lte_types.specs.declared.carrier.Carrier.{Carrier}
use Rattle.lte_types.specs.declared.entry.Entry.{Entry}
use Rattle.lte_types.specs.declared.sib1.Sib1.{Sib1}
use Rattle.lte_types.specs.declared.sib1_reason.Sib1Reason.{Sib1Reason}
use Rattle.halving.specs.Wide.{Wide, narrowed}
use Rattle.explain.specs.Entries.{with_system}
use Rattle.explain.specs.System.{even_frame}
use Rattle.explain.specs.Laws.{AreApart}
use Rattle.explain.proofs.Listed.{is_one_list, is_apart}
use Rattle.explain.proofs.Sorted.{in_none, in_cons, AllPairs-head, AllPairs-tail}
use Rattle.wide_cell.specs.Cell.{Cell}
use Rattle.wide_list.specs.Frames.{IsAlone}
use Rattle.wide_list.specs.System.{IsWideSystem}
use Rattle.wide_list.specs.List.{cell_of, is_read_wide, IsInformed}
use Rattle.wide_list.proofs.Same.{one_alone}
use Rattle.wide_list.proofs.Exists.{some_alone}
use Rattle.wide_spoken.specs.Sent.{Sent}
use Rattle.wide_spoken.specs.Listed.{IsSystemSpoken, HoldsWithFields}
use Rattle.wide_spoken.specs.Laws.{SpokenSystemIsRead, SpokenEntryIsInformed}
use Rattle.wide_spoken.proofs.Spoken.{spoken_frame_is_read}

-- ---- a cell

module _ (wide : Wide) (cell : Cell) (start sfn : ℕ) (sent : Sent) (spoken : IsSystemSpoken wide cell start sfn sent) where
  abbrev Alone : ℕ → Result Sib1 Sib1Reason → Type 0
  Alone i = IsAlone wide cell start sfn (even_frame sfn i)

  -- the spoken frame's answer alone
  spoken_alone : Alone spoken.i (Ok sent.fields)
  spoken_alone =
      let alone = (some_alone wide cell start sfn spoken.i).1 in
      record {
        frame = alone.frame;
        is = alone.is;
        answers = spoken_frame_is_read _ _ (sfn + even_frame sfn spoken.i) sent alone.frame spoken.spoken alone.is;
      }

  same_at : (i : ℕ) (fields : Sib1) → i ≡ spoken.i → Alone i (Ok fields) → ◌≡◌ {A = Result Sib1 Sib1Reason} (Ok fields) (Ok sent.fields)
  same_at i fields same alone =
      one_alone wide cell start sfn (even_frame sfn spoken.i) (Ok fields) (Ok sent.fields) (subst (λ i. Alone i (Ok fields)) same alone) spoken_alone

  system_is : (answer : Result Sib1 Sib1Reason) → IsWideSystem wide cell start sfn answer → answer ≡ Ok sent.fields
  system_is (Ok fields) (inl read) = by_order (cases_lt read.i spoken.i) (cases_lt spoken.i read.i)
    where
      by_order : (read.i < spoken.i) ⊎ (spoken.i ≤ read.i) → (spoken.i < read.i) ⊎ (read.i ≤ spoken.i) →
          ◌≡◌ {A = Result Sib1 Sib1Reason} (Ok fields) (Ok sent.fields)
      by_order (inl before) other = ap (λ (f : Sib1). Ok f) (spoken.earlier read.i fields before read.answers)
      by_order (inr low) (inl after) = absurd (read.first spoken.i sent.fields after spoken_alone)
      by_order (inr low) (inr high) = same_at read.i fields (omega (arith, low, high)) read.answers
  system_is (Ok fields) (inr read) = absurd (read.unread.alone.none spoken.i sent.fields spoken.tried spoken_alone)
  system_is (Err reason) read = absurd (read.unread.alone.none spoken.i sent.fields spoken.tried spoken_alone)

pub spoken_system_is_read : SpokenSystemIsRead
spoken_system_is_read wide cell start sfn sent answer spoken system = system_is wide cell start sfn sent spoken answer system

-- ---- a list

module _ (R : Entry → Entry → Type 0) (xs ys : List Entry) (all : AllZip R xs ys) where
  -- to each entry of one list, there is one of the other
  right_of : (x : Entry) → Contains xs x → (y : Entry) × Contains ys y × R x y
  right_of x (k, inside, is) =
      let size = length_all_zip R xs ys all in
      (get_or ys k x, Contains-get_or ys k x (omega (arith, inside, size)), subst (λ z. R z (get_or ys k x)) is (AllZip-get_or R xs ys k x x all inside))

  left_of : (y : Entry) → Contains ys y → (x : Entry) × Contains xs x × R x y
  left_of y (k, inside, is) =
      let size = length_all_zip R xs ys all in
      let before : k < length xs = omega (arith, inside, size) in
      (get_or xs k y, Contains-get_or xs k y before, subst (λ z. R (get_or xs k y) z) is (AllZip-get_or R xs ys k y y all before))

-- entries that are apart are determined by identity, start and frame number
one_entry : (xs : List Entry) (a b : Entry) → AllPairs AreApart xs → Contains xs a → Contains xs b →
    a.id ≡ b.id → a.start ≡ b.start → a.sfn ≡ b.sfn → a ≡ b
one_entry [] a b apart in_a in_b id start sfn = absurd (in_none a in_a)
one_entry (x ∷ xs) a b apart in_a in_b id start sfn = by (one_entry xs a b (AllPairs-tail AreApart x xs apart)) (in_cons x xs a in_a) (in_cons x xs b in_b)
  where
    clash : (c d : Entry) → c.id ≡ d.id → c.start ≡ d.start → c.sfn ≡ d.sfn → x ≡ c → Contains xs d → ⊥
    clash c d id start sfn same inside =
        let other : AreApart c d = subst (λ e. AreApart e d) same (AllPairs-head AreApart x xs apart d inside) in other.differ id start sfn

    by : (Contains xs a → Contains xs b → a.id ≡ b.id → a.start ≡ b.start → a.sfn ≡ b.sfn → a ≡ b) →
        (x ≡ a) ⊎ Contains xs a → (x ≡ b) ⊎ Contains xs b → a ≡ b
    by later (inl p) (inl q) = sym p ∙ q
    by later (inl p) (inr q) = absurd (clash a b id start sfn p q)
    by later (inr p) (inl q) = absurd (clash b a (sym id) (sym start) (sym sfn) q p)
    by later (inr p) (inr q) = later p q id start sfn

-- an informed entry has its identity, start and frame number
pub record AreSame (a b : Entry) : Type 0 where
  pub id : a.id ≡ b.id
  pub start : a.start ≡ b.start
  pub sfn : a.sfn ≡ b.sfn

informed_same : (carrier : Carrier) (wide : Wide) (before after : Entry) → IsInformed carrier wide before after → AreSame before after
informed_same carrier wide before after is = by (is_read_wide carrier wide.rate before) refl
  where
    with_sib1 : (sib1 : Result Sib1 Sib1Reason) → AreSame before (with_system before sib1)
    with_sib1 sib1 = record { id = refl; start = refl; sfn = refl }

    by : (read : Bool) → is_read_wide carrier wide.rate before ≡ read → AreSame before after
    by true e = let s = is.read e in subst (AreSame before) (sym s.is) (with_sib1 s.sib1)
    by false e = subst (AreSame before) (sym (is.same e)) (record { id = refl; start = refl; sfn = refl })

module _ (carrier : Carrier) (wide : Wide) (entry : Entry) (sent : Sent) (read : is_read_wide carrier wide.rate entry ≡ true)
    (spoken : IsSystemSpoken wide (cell_of entry) entry.start entry.sfn sent) where
  informed_is : (after : Entry) → IsInformed carrier wide entry after → after ≡ with_system entry (Ok sent.fields)
  informed_is after is =
      let s = is.read read in
      s.is ∙ ap (with_system entry) (spoken_system_is_read wide (cell_of entry) entry.start entry.sfn sent s.sib1 spoken s.system)

  holds : (narrow list : List Entry) → AllPairs AreApart narrow → Contains narrow entry → AllZip (IsInformed carrier wide) narrow list →
      HoldsWithFields list entry sent.fields
  holds narrow list apart inside all = record { inside = within; only = only }
    where
      within : Contains list (with_system entry (Ok sent.fields))
      within =
          let (after, there, is) = right_of (IsInformed carrier wide) narrow list all entry inside in
          subst (Contains list) (informed_is after is) there

      only : (other : Entry) → Contains list other → other.id ≡ entry.id → other.start ≡ entry.start → other.sfn ≡ entry.sfn →
          other ≡ with_system entry (Ok sent.fields)
      only other there id start sfn =
          let (before, in_narrow, is) = left_of (IsInformed carrier wide) narrow list all other there in
          let kept = informed_same carrier wide before other is in
          let same : before ≡ entry = one_entry narrow before entry apart in_narrow inside (kept.id ∙ id) (kept.start ∙ start) (kept.sfn ∙ sfn) in
          informed_is other (subst (λ e. IsInformed carrier wide e other) same is)

pub spoken_entry_is_informed : SpokenEntryIsInformed
spoken_entry_is_informed receiver wide narrow list entry sent listed inside read spoken is =
    let same : is.narrow ≡ narrow = is_one_list receiver (narrowed wide) is.narrow narrow is.listed listed in
    holds receiver.carrier wide entry sent read spoken narrow list (is_apart receiver (narrowed wide) narrow listed) inside
    (subst (λ (old : List Entry). AllZip (IsInformed receiver.carrier wide) old list) same is.informed)
