-- The invariant of the search for a bit among cells.
use Rattle.std.proofs.Common.{◌≡◌, ℕ, suc, ◌+◌, ◌-◌, ◌<◌, ◌≤◌, true, false, List, ◌∷◌, length, get_or, drop, refl, ap, ◌∙◌, arith, drop_of_length-le}
use Rattle.std.specs.Prelude.{nat_le}
use Rattle.std.proofs.Math.Seq.{drop-cons}
use Rattle.sub_block.specs.declared.Item.{Item}
use Rattle.sub_block.specs.Items.{item, bits_in}

pub bits_in-kept : (n : ℕ) (c : Item) (cs : List Item) → n ≤ c.index → bits_in n (c ∷ cs) ≡ item c.stream (c.index - n) ∷ bits_in n cs
unfolding bits_in
bits_in-kept n c cs h = let e : nat_le n c.index ≡ true = grind arith in rw e refl

pub bits_in-skipped : (n : ℕ) (c : Item) (cs : List Item) → c.index < n → bits_in n (c ∷ cs) ≡ bits_in n cs
unfolding bits_in
bits_in-skipped n c cs h = let e : nat_le n c.index ≡ false = grind arith in rw e refl

-- the sought bit, bit p of all cells, is bit `left` in the cells from m
pub record IsLeft (n : ℕ) (cells : List Item) (p m left : ℕ) : Type 0 where
  pub same : get_or (bits_in n cells) p (item 0 0) ≡ get_or (bits_in n (drop m cells)) left (item 0 0)
  pub inside : left < length (bits_in n (drop m cells))

pub left_first : (n : ℕ) (cells : List Item) (p : ℕ) → p < length (bits_in n cells) → IsLeft n cells p 0 p
left_first n cells p h = record { same = refl; inside = h }

next_cell : (cells : List Item) (m : ℕ) → m < length cells → drop m cells ≡ get_or cells m (item 0 0) ∷ drop (m + 1) cells
next_cell cells m inside = let e : suc m ≡ m + 1 = omega arith in drop-cons cells m (item 0 0) inside ∙ rw e refl

-- a NULL bit is skipped
pub left_null : (n : ℕ) (cells : List Item) (p m left : ℕ) → m < length cells → (get_or cells m (item 0 0)).index < n →
    IsLeft n cells p m left → IsLeft n cells p (m + 1) left
left_null n cells p m left inside null known =
    let skip = ap (bits_in n) (next_cell cells m inside) ∙ bits_in-skipped n (get_or cells m (item 0 0)) (drop (m + 1) cells) null in
    record {
      same = known.same ∙ ap (λ bs. get_or bs left (item 0 0)) skip;
      inside = let h = known.inside in rw skip at h;
    }

kept : (n : ℕ) (cells : List Item) (m : ℕ) → m < length cells → n ≤ (get_or cells m (item 0 0)).index →
    bits_in n (drop m cells) ≡ item (get_or cells m (item 0 0)).stream ((get_or cells m (item 0 0)).index - n) ∷ bits_in n (drop (m + 1) cells)
kept n cells m inside bit = ap (bits_in n) (next_cell cells m inside) ∙ bits_in-kept n (get_or cells m (item 0 0)) (drop (m + 1) cells) bit

-- a bit that precedes the sought one is passed over
pub left_bit : (n : ℕ) (cells : List Item) (p m left : ℕ) → m < length cells → n ≤ (get_or cells m (item 0 0)).index →
    IsLeft n cells p m (suc left) → IsLeft n cells p (m + 1) left
left_bit n cells p m left inside bit known =
    let keep = kept n cells m inside bit in
    record {
      same = known.same ∙ ap (λ bs. get_or bs (suc left) (item 0 0)) keep;
      inside = let h = known.inside in let h' = rw keep at h in omega (arith, h');
    }

-- the sought bit is found
pub left_found : (n : ℕ) (cells : List Item) (p m : ℕ) → m < length cells → n ≤ (get_or cells m (item 0 0)).index → IsLeft n cells p m 0 →
    get_or (bits_in n cells) p (item 0 0) ≡ item (get_or cells m (item 0 0)).stream ((get_or cells m (item 0 0)).index - n)
left_found n cells p m inside bit known = known.same ∙ ap (λ bs. get_or bs 0 (item 0 0)) (kept n cells m inside bit)

-- the search does not run past the last cell
pub left_none : (n : ℕ) (cells : List Item) (p m left : ℕ) → length cells ≤ m → IsLeft n cells p m left → ⊥
unfolding bits_in
left_none n cells p m left past known =
    let h = known.inside in
    let h' = rw (drop_of_length-le cells past) at h in
    omega (arith, h')
