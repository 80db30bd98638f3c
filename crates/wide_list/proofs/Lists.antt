-- Lists of entries: informed one entry after the other, and determined.
use Rattle.std.proofs.Common.{◌≡◌, ◌∙◌, inl, inr, ℕ, suc, ◌+◌, ◌<◌, ◌≤◌, ◌≢◌, Bool, true, false, List, [], ◌∷◌, length, map, get_or, set, ap, Result, Ok, Err, All, IfOk, OnOk, arith, refl, sym, subst}
use Rattle.std.specs.List.{AllZip, HoldsAt}
use Rattle.std.proofs.lemmas.Bool.{cases_lt, true≢false}
use Rattle.std.proofs.lemmas.List.{set-get_or, get_or-set_same, get_or-set_other, get_or_default, length-set}
use Rattle.std.proofs.lemmas.List.Elements.{at_read, AllZip-get_or, length_all_zip, Contains-get_or}
use Rattle.cs_num.specs.declared.Sample.{Sample}
use Rattle.lte_types.specs.declared.frame.Half.{Half}
use Rattle.lte_types.specs.declared.frame.Half.TheVariants.{Zero, Five}
use Rattle.lte_types.specs.declared.carrier.Carrier.{Carrier}
use Rattle.lte_types.specs.declared.entry.Entry.{Entry}
use Rattle.lte_types.specs.declared.sib1.Sib1.{Sib1}
use Rattle.lte_types.specs.declared.sib1_reason.Sib1Reason.{Sib1Reason}
use Rattle.lte_types.specs.Ranges.{IsValid}
use Rattle.sss_detect.specs.Place.{start_by_hit}
use Rattle.halving.specs.Wide.{Wide, narrowed}
use Rattle.explain.specs.Receiver.{Receiver}
use Rattle.explain.specs.Entries.{IsListFor, with_system}
use Rattle.explain.proofs.Listed.{is_one_list, is_sound, each_once}
use Rattle.wide_list.specs.System.{IsWideSystem}
use Rattle.wide_list.specs.List.{cell_of, is_read_wide, HasWideSystem, IsInformed, InformsAt}
use Rattle.wide_list.specs.Bits.{AreSystemBits, AreWideBits}
use Rattle.wide_list.specs.Laws.{IsOneWideList}
use Rattle.wide_list.proofs.Same.{one_wide_system}
use Rattle.wide_list.proofs.Reading.{system_is_valid}
use Rattle.wide_list.proofs.Blocks.{one_system_block}

-- ---- two lists, related item by item

pub zip_of : {A B : Type 0} (R : A → B → Type 0) (xs : List A) (ys : List B) → length ys ≡ length xs →
    ((k : ℕ) (d : A) (e : B) → k < length xs → R (get_or xs k d) (get_or ys k e)) → AllZip R xs ys
zip_of R [] [] size each = tt
zip_of R [] (y ∷ ys) size each = absurd (omega (arith, size))
zip_of R (x ∷ xs) [] size each = absurd (omega (arith, size))
zip_of R (x ∷ xs) (y ∷ ys) size each =
    (each 0 x y (omega arith), zip_of R xs ys (omega (arith, size)) (λ k d e inside. each (suc k) d e (omega (arith, inside))))

-- a relation to each item's image is one to the list of images
pub zip_map : {A B C : Type 0} (R : A → C → Type 0) (f : B → C) (xs : List A) (ys : List B) → AllZip (λ x y. R x (f y)) xs ys → AllZip R xs (map f ys)
zip_map R f [] [] all = tt
zip_map R f [] (y ∷ ys) all = absurd all
zip_map R f (x ∷ xs) [] all = absurd all
zip_map R f (x ∷ xs) (y ∷ ys) all = (all.0, zip_map R f xs ys all.1)

-- ---- one entry

module _ (carrier : Carrier) (wide : Wide) where
  -- an entry is informed in one way
  informed_once : (before a b : Entry) → IsInformed carrier wide before a → IsInformed carrier wide before b → a ≡ b
  informed_once before a b x y = by (is_read_wide carrier wide.rate before) refl
    where
      same : HasWideSystem wide before a → HasWideSystem wide before b → a ≡ b
      same s t =
          s.is ∙ ap (with_system before) (one_wide_system wide (cell_of before) before.start before.sfn s.sib1 t.sib1 s.system t.system) ∙ sym t.is

      by : (read : Bool) → is_read_wide carrier wide.rate before ≡ read → a ≡ b
      by true e = same (x.read e) (y.read e)
      by false e = x.same e ∙ sym (y.same e)

  -- the fields of an informed entry are in their ranges
  informed_is_valid : (before after : Entry) → IsInformed carrier wide before after → IfOk before.sib1 IsValid → IfOk after.sib1 IsValid
  informed_is_valid before after x valid = by (is_read_wide carrier wide.rate before) refl
    where
      with_fields : HasWideSystem wide before after → IfOk after.sib1 IsValid
      with_fields s =
          subst (λ (entry : Entry). IfOk entry.sib1 IsValid) (sym s.is) (system_is_valid wide (cell_of before) before.start before.sfn s.sib1 s.system)

      by : (read : Bool) → is_read_wide carrier wide.rate before ≡ read → IfOk after.sib1 IsValid
      by true e = with_fields (x.read e)
      by false e = subst (λ (entry : Entry). IfOk entry.sib1 IsValid) (sym (x.same e)) valid

  -- an entry has one transport block
  bits_once : (before : Entry) (a b : List Bool) → AreWideBits carrier wide before a → AreWideBits carrier wide before b → a ≡ b
  bits_once before a b x y = by (is_read_wide carrier wide.rate before) refl
    where
      by : (read : Bool) → is_read_wide carrier wide.rate before ≡ read → a ≡ b
      by true e = one_system_block wide (cell_of before) before.start before.sfn a b (x.read e) (y.read e)
      by false e = x.empty e ∙ sym (y.empty e)

  -- the entries of a list have one list of transport blocks
  pub blocks_once : (list : List Entry) (a b : List (List Bool)) → AllZip (AreWideBits carrier wide) list a → AllZip (AreWideBits carrier wide) list b → a ≡ b
  blocks_once = each_once (AreWideBits carrier wide) bits_once

  -- ---- one entry of a list

  -- the entry at an index with the system information in the wide samples
  pub informs_read : (at : ℕ) (old new : List Entry) (before : Entry) (sib1 : Result Sib1 Sib1Reason) → at < length old → before ≡ get_or old at before →
      is_read_wide carrier wide.rate before ≡ true → IsWideSystem wide (cell_of before) before.start before.sfn sib1 →
      HoldsAt (λ entry. new ≡ set old at (with_system entry sib1)) old at → InformsAt carrier wide at old new
  informs_read at old new before sib1 inside is read system put = record {
    after = with_system before sib1;
    informed = at_read old (λ entry. IsInformed carrier wide entry (with_system before sib1)) at before inside is (record {
      read = λ e. record { sib1 = sib1; system = system; is = refl };
      same = λ e. absurd (true≢false (sym read ∙ e));
    });
    new_is = subst (λ entry. new ≡ set old at (with_system entry sib1)) (sym is) (put before);
  }

  -- the entry at an index whose system information is not read from wide samples
  pub informs_same : (at : ℕ) (old : List Entry) (before : Entry) → at < length old → before ≡ get_or old at before →
      is_read_wide carrier wide.rate before ≡ false → InformsAt carrier wide at old old
  informs_same at old before inside is not = record {
    after = before;
    informed = at_read old (λ entry. IsInformed carrier wide entry before) at before inside is (record {
      read = λ e. absurd (true≢false (sym e ∙ not));
      same = λ e. refl;
    });
    new_is = sym (ap (set old at) is ∙ set-get_or old at before);
  }

  -- the bits of the transport block of the entry at an index, if its system information is read from wide samples
  pub bits_read : (at : ℕ) (old : List Entry) (before : Entry) (bits : List Bool) → at < length old → before ≡ get_or old at before →
      is_read_wide carrier wide.rate before ≡ true → AreSystemBits wide (cell_of before) before.start before.sfn bits →
      HoldsAt (λ entry. AreWideBits carrier wide entry bits) old at
  bits_read at old before bits inside is read are = at_read old (λ entry. AreWideBits carrier wide entry bits) at before inside is (record {
    read = λ e. are;
    empty = λ e. absurd (true≢false (sym read ∙ e));
  })

  -- no bits, if it is not
  pub bits_unread : (at : ℕ) (old : List Entry) (before : Entry) (bits : List Bool) → at < length old → before ≡ get_or old at before →
      is_read_wide carrier wide.rate before ≡ false → bits ≡ [] → HoldsAt (λ entry. AreWideBits carrier wide entry bits) old at
  bits_unread at old before bits inside is not none = at_read old (λ entry. AreWideBits carrier wide entry bits) at before inside is (record {
    read = λ e. absurd (true≢false (sym e ∙ not));
    empty = λ e. none;
  })

  -- ---- lists

  -- the list `now` is `old` with the first n entries informed
  pub record AreInformed (n : ℕ) (old now : List Entry) : Type 0 where
    pub size : length now ≡ length old
    pub done : (k : ℕ) (d : Entry) → k < n → IsInformed carrier wide (get_or old k d) (get_or now k d)
    pub rest : (k : ℕ) (d : Entry) → n ≤ k → get_or now k d ≡ get_or old k d

  pub none_informed : (old : List Entry) → AreInformed 0 old old
  none_informed old = record { size = refl; done = λ k d below. absurd (omega (arith, below)); rest = λ k d from. refl }

  pub one_more : (n : ℕ) (old now new : List Entry) → n < length old → AreInformed n old now → InformsAt carrier wide n now new → AreInformed (n + 1) old new
  one_more n old now new inside are informs = record { size = size; done = done; rest = rest }
    where
      size : length new ≡ length old
      size = ap (λ (list : List Entry). length list) informs.new_is ∙ length-set now n informs.after ∙ are.size

      set_at : (k : ℕ) (d : Entry) → get_or new k d ≡ get_or (set now n informs.after) k d
      set_at k d = ap (λ (list : List Entry). get_or list k d) informs.new_is

      other : (k : ℕ) (d : Entry) → k ≢ n → get_or new k d ≡ get_or now k d
      other k d apart = set_at k d ∙ get_or-set_other now n k informs.after d apart

      here : (d : Entry) → get_or new n d ≡ informs.after
      here d = set_at n d ∙ get_or-set_same now n informs.after d (let size = are.size in omega (arith, inside, size))

      informed_here : (d : Entry) → IsInformed carrier wide (get_or old n d) (get_or new n d)
      informed_here d =
          subst (λ entry. IsInformed carrier wide (get_or old n d) entry) (sym (here d))
          (subst (λ entry. IsInformed carrier wide entry informs.after) (are.rest n d (omega arith)) (informs.informed d))

      done : (k : ℕ) (d : Entry) → k < n + 1 → IsInformed carrier wide (get_or old k d) (get_or new k d)
      done k d below = elim (cases_lt k n) [
        | inl before ↦ subst (λ entry. IsInformed carrier wide (get_or old k d) entry) (sym (other k d (omega (arith, before)))) (are.done k d before)
        | inr from ↦ let same : n ≡ k = omega (arith, below, from) in subst (λ k. IsInformed carrier wide (get_or old k d) (get_or new k d)) same (informed_here d)
      ]

      rest : (k : ℕ) (d : Entry) → n + 1 ≤ k → get_or new k d ≡ get_or old k d
      rest k d from = other k d (omega (arith, from)) ∙ are.rest k d (omega (arith, from))

  pub all_informed : (old now : List Entry) → AreInformed (length old) old now → AllZip (IsInformed carrier wide) old now
  all_informed old now are = zip_of (IsInformed carrier wide) old now are.size each
    where
      each : (k : ℕ) (d e : Entry) → k < length old → IsInformed carrier wide (get_or old k d) (get_or now k e)
      each k d e inside =
          let size = are.size in
          subst (λ entry. IsInformed carrier wide (get_or old k d) entry) (get_or_default now k d e (omega (arith, inside, size))) (are.done k d inside)

  pub informed_are_valid : (old new : List Entry) → AllZip (IsInformed carrier wide) old new → All (λ entry. IfOk entry.sib1 IsValid) old →
      All (λ entry. IfOk entry.sib1 IsValid) new
  informed_are_valid old new all valid k d inside =
      let size = length_all_zip (IsInformed carrier wide) old new all in
      let before : k < length old = omega (arith, inside, size) in
      informed_is_valid (get_or old k d) (get_or new k d) (AllZip-get_or (IsInformed carrier wide) old new k d d all before) (valid k d before)

pub one_wide_list : IsOneWideList
one_wide_list receiver wide a b x y =
    let R = IsInformed receiver.carrier wide in
    let same : x.narrow ≡ y.narrow = is_one_list receiver (narrowed wide) x.narrow y.narrow x.listed y.listed in
    each_once R (informed_once receiver.carrier wide) y.narrow a b (subst (λ (list : List Entry). AllZip R list a) same x.informed) y.informed

-- a fact about a call that succeeded implies another
pub on_ok : {T E A B : Type 0} (result : Result T E) → (A → B) → OnOk result A → OnOk result B
on_ok (Ok x) f a = f a
on_ok (Err e) f a = tt

-- ---- starts

early : (t : ℕ) (half : Half) → start_by_hit t half < 19200
early t Zero = omega arith
early t Five = omega arith

-- the first frames of listed entries begin among the first 19,200 samples
pub listed_early : (receiver : Receiver) (recording : List Sample) (list : List Entry) → IsListFor receiver recording list →
    All (λ entry. entry.start < 19200) list
listed_early receiver recording list listed k d inside =
    let entry = get_or list k d in
    let known = is_sound receiver recording list entry listed (Contains-get_or list k d inside) in
    subst (λ n. n < 19200) (sym known.is_of.start) (early _ _)
