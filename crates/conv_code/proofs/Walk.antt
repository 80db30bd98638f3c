-- A walk over the cells of a stream that outputs its bits in turn.
use Rattle.std.proofs.Common.{◌≡◌, ℕ, ◌+◌, ◌-◌, ◌<◌, ◌≤◌, suc, List, ◌∷◌, length, get_or, drop, ap, refl, arith, ◌∙◌, drop_of_length-le}
use Rattle.std.proofs.Math.Seq.{drop-cons}
use Rattle.sub_block.specs.declared.Item.{Item}
use Rattle.sub_block.specs.Items.{item, bits_in}
use Rattle.sub_block.proofs.Search.{IsLeft, left_first, left_null, left_bit, bits_in-kept, bits_in-skipped}

-- p bits are output before cell m, and later bits are counted from there
pub record IsWalked (n total : ℕ) (cells : List Item) (p m : ℕ) : Type 0 where
  pub count : p + length (bits_in n (drop m cells)) ≡ total
  pub ahead : (k : ℕ) → p ≤ k → k < total → IsLeft n cells k m (k - p)

pub walk_first : (n total : ℕ) (cells : List Item) → length (bits_in n cells) ≡ total → IsWalked n total cells 0 0
walk_first n total cells whole = record {
  count = omega (arith, whole);
  ahead = λ k first inside.
      let e : k - 0 ≡ k = omega arith in
      rw e (left_first n cells k (omega (arith, whole, inside)));
}

next_cell : (cells : List Item) (m : ℕ) → m < length cells → drop m cells ≡ get_or cells m (item 0 0) ∷ drop (m + 1) cells
next_cell cells m inside = let e : suc m ≡ m + 1 = omega arith in drop-cons cells m (item 0 0) inside ∙ rw e refl

-- a NULL bit is skipped
pub walk_null : (n total : ℕ) (cells : List Item) (p m : ℕ) → m < length cells → (get_or cells m (item 0 0)).index < n → IsWalked n total cells p m →
    IsWalked n total cells p (m + 1)
walk_null n total cells p m inside null known = record {
  count =
      let skip = ap (λ cs. length (bits_in n cs)) (next_cell cells m inside) ∙ ap length (bits_in-skipped n (get_or cells m (item 0 0)) (drop (m + 1) cells) null) in
      let h = known.count in
      omega (arith, skip, h);
  ahead = λ k first below. left_null n cells k m (k - p) inside null (known.ahead k first below);
}

bits_here : (n : ℕ) (cells : List Item) (m : ℕ) → m < length cells → n ≤ (get_or cells m (item 0 0)).index →
    length (bits_in n (drop m cells)) ≡ suc (length (bits_in n (drop (m + 1) cells)))
bits_here n cells m inside bit =
    ap (λ cs. length (bits_in n cs)) (next_cell cells m inside) ∙ ap length (bits_in-kept n (get_or cells m (item 0 0)) (drop (m + 1) cells) bit)

-- a data bit is output
pub walk_room : (n total : ℕ) (cells : List Item) (p m : ℕ) → m < length cells → n ≤ (get_or cells m (item 0 0)).index → IsWalked n total cells p m → p < total
walk_room n total cells p m inside bit known =
    let here = bits_here n cells m inside bit in
    let h = known.count in
    omega (arith, here, h)

pub walk_bit : (n total : ℕ) (cells : List Item) (p m : ℕ) → m < length cells → n ≤ (get_or cells m (item 0 0)).index → IsWalked n total cells p m →
    IsWalked n total cells (p + 1) (m + 1)
walk_bit n total cells p m inside bit known = record {
  count = let here = bits_here n cells m inside bit in let h = known.count in omega (arith, here, h);
  ahead = λ k first below.
      let e : k - p ≡ suc (k - (p + 1)) = omega (arith, first) in
      left_bit n cells k m (k - (p + 1)) inside bit (rw e at (known.ahead k (omega (arith, first)) below));
}

-- after the last cell, all bits are output
pub walk_end : (n total : ℕ) (cells : List Item) (p m : ℕ) → length cells ≤ m → IsWalked n total cells p m → p ≡ total
unfolding bits_in
walk_end n total cells p m past known =
    let h = known.count in
    let h' = rw (drop_of_length-le cells past) at h in
    omega (arith, h')
