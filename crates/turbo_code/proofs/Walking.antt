-- A walk along the reading skips the nulls and goes from each bit to the next.
use Rattle.std.proofs.Common.{◌≡◌, ℕ, suc, ◌+◌, ◌-◌, ◌*◌, ◌%◌, ◌<◌, ◌≤◌, [], ◌∷◌, length, get_or, drop, refl, ap, sym, ◌∙◌, arith, drop_of_length-le, length-drop, mod-eq_of_lt, mod-lt, inl, inr, ◌⊎◌}
use Rattle.std.proofs.lemmas.Bool.{cases_lt}
use Rattle.std.proofs.lemmas.List.{get_or-drop, drop-drop}
use Rattle.std.proofs.Math.Seq.{drop-cons}
use Rattle.std.proofs.Math.Nat.{mod_self, mod-add-mod}
use Rattle.sub_block.specs.declared.Item.{Item}
use Rattle.sub_block.specs.Matrix.{matrix_rows}
use Rattle.sub_block.specs.Items.{item, bits_in}
use Rattle.sub_block.proofs.Search.{bits_in-kept, bits_in-skipped}
use Rattle.turbo_code.specs.Table.{IsAnySize}
use Rattle.turbo_code.specs.Reading.{buffer, reading, item_of}
use Rattle.turbo_code.specs.Walk.{Standing, standing, IsAt}
use Rattle.turbo_code.proofs.Round.{IsRound, round, round_cells, reading_count}

pub at_start : (k rv : ℕ) → IsAnySize k → rv < 4 → IsAt k rv 0 0
unfolding reading
at_start k rv size version = record {
  size = size;
  version = version;
  inside = omega arith;
  rest = refl;
}

-- the walk is at cell m of r rows, and the cell holds this item
pub record Meets (k rv bit r m : ℕ) (here : Item) : Type 0 where
  pub at : IsAt k rv bit m
  pub rows : r ≡ matrix_rows (k + 4)
  pub inside : m < 96 * r
  pub cell : here ≡ get_or (buffer r) ((r * (24 * rv + 2) + m) % (96 * r)) (item 0 0)

opened : (k rv bit r m : ℕ) (here : Item) → Meets k rv bit r m here →
    drop m (round_cells r rv) ≡ here ∷ drop (m + 1) (round_cells r rv)
opened k rv bit r m here c =
    let known : IsRound k rv r = round k rv r c.at.size c.at.version c.rows in
    let long = known.long in
    let more : suc m ≡ m + 1 = omega arith in
    drop-cons (round_cells r rv) m (item 0 0) (let inside = c.inside in omega (arith, long, inside))
    ∙ rw (more, c.cell, known.cell m c.inside) refl

-- the remaining bits, in terms of the rows
left : (k rv bit r m : ℕ) (here : Item) → Meets k rv bit r m here →
    bits_in (32 * r - (k + 4)) (drop m (round_cells r rv)) ≡ drop bit (reading k rv)
left k rv bit r m here c = let known = c.at.rest in rw c.rows known

-- the walk skips a null
pub null_passed : (k rv bit r m : ℕ) (here : Item) → Meets k rv bit r m here → here.index < 32 * r - (k + 4) → IsAt k rv bit (m + 1)
null_passed k rv bit r m here c null =
    let same = sym (bits_in-skipped (32 * r - (k + 4)) here (drop (m + 1) (round_cells r rv)) null)
    ∙ ap (bits_in (32 * r - (k + 4))) (sym (opened k rv bit r m here c)) ∙ left k rv bit r m here c in
    record {
      size = c.at.size;
      version = c.at.version;
      inside = c.at.inside;
      rest = rw c.rows at same;
    }

-- a cell that is not a null holds the next bit, and the later bits follow
found : (k rv bit r m : ℕ) (here : Item) → Meets k rv bit r m here → 32 * r - (k + 4) ≤ here.index →
    drop bit (reading k rv) ≡ item here.stream (here.index - (32 * r - (k + 4))) ∷ bits_in (32 * r - (k + 4)) (drop (m + 1) (round_cells r rv))
found k rv bit r m here c some =
    sym (left k rv bit r m here c) ∙ ap (bits_in (32 * r - (k + 4))) (opened k rv bit r m here c)
    ∙ bits_in-kept (32 * r - (k + 4)) here (drop (m + 1) (round_cells r rv)) some

pub bit_found : (k rv bit r m : ℕ) (here : Item) → Meets k rv bit r m here → 32 * r - (k + 4) ≤ here.index →
    item here.stream (here.index - (32 * r - (k + 4))) ≡ item_of k rv bit
unfolding item_of
bit_found k rv bit r m here c some =
    let count = reading_count k rv c.at.size in
    let inside = c.at.inside in
    let same : bit % length (reading k rv) ≡ bit = mod-eq_of_lt (omega (arith, count, inside)) in
    let none : bit + 0 ≡ bit = omega arith in
    sym (ap (λ items. get_or items 0 (item 0 0)) (found k rv bit r m here c some))
    ∙ get_or-drop bit (reading k rv) 0 (item 0 0)
    ∙ ap (λ i. get_or (reading k rv) i (item 0 0)) (none ∙ sym same)

pub bit_passed : (k rv bit r m : ℕ) (here : Item) → Meets k rv bit r m here → 32 * r - (k + 4) ≤ here.index → bit + 1 < 3 * (k + 4) →
    IsAt k rv (bit + 1) (m + 1)
bit_passed k rv bit r m here c some more =
    let same = sym (ap (drop 1) (found k rv bit r m here c some)) ∙ drop-drop 1 bit (reading k rv) in
    record {
      size = c.at.size;
      version = c.at.version;
      inside = more;
      rest = rw c.rows at same;
    }

-- after the round's last bit the walk is at its start again
pub behind : (k rv bit r m : ℕ) (here : Item) → Meets k rv bit r m here → 32 * r - (k + 4) ≤ here.index → (cell : ℕ) →
    ((bit + 1) % (3 * (k + 4)) ≡ 0 → cell ≡ 0) → (((bit + 1) % (3 * (k + 4)) ≡ 0 → ⊥) → cell ≡ m + 1) →
    IsAt k rv ((bit + 1) % (3 * (k + 4))) cell
behind k rv bit r m here c some cell first next = settle (cases_lt (bit + 1) (3 * (k + 4)))
  where
    settle : (bit + 1 < 3 * (k + 4)) ⊎ (3 * (k + 4) ≤ bit + 1) → IsAt k rv ((bit + 1) % (3 * (k + 4))) cell
    settle (inl more) =
        let same : (bit + 1) % (3 * (k + 4)) ≡ bit + 1 = mod-eq_of_lt more in
        let is = next (λ none. omega (arith, none, same)) in
        rw (same, is) (bit_passed k rv bit r m here c some more)
    settle (inr last) =
        let inside = c.at.inside in
        let whole : bit + 1 ≡ 3 * (k + 4) = omega (arith, inside, last) in
        let none : (bit + 1) % (3 * (k + 4)) ≡ 0 = ap (λ n. n % (3 * (k + 4))) whole ∙ mod_self (3 * (k + 4)) in
        rw (none, first none) (at_start k rv c.at.size c.at.version)

-- the walk does not reach the end of the round while a bit is left
pub never_past : (k rv bit r m : ℕ) → IsAt k rv bit m → r ≡ matrix_rows (k + 4) → 96 * r ≤ m → ⊥
unfolding bits_in
never_past k rv bit r m at rows past =
    let known : IsRound k rv r = round k rv r at.size at.version rows in
    let long = known.long in
    let count = reading_count k rv at.size in
    let inside = at.inside in
    let none : drop m (round_cells r rv) ≡ [] = drop_of_length-le (round_cells r rv) (omega (arith, long, past)) in
    let rest : [] ≡ drop bit (reading k rv) = let h = at.rest in rw (← rows, none) at h in
    let some = length-drop bit (reading k rv) in
    let zero = ap length rest in
    omega (arith, some, zero, count, inside)

-- ---- a walk after i steps

-- the walk's next item is the item for bit i in the reading
pub item_here : (k rv i : ℕ) (s : Standing) → IsAnySize k → s ≡ standing k rv (i % (3 * (k + 4))) → item_of s.k s.rv s.bit ≡ item_of k rv i
unfolding item_of
item_here k rv i s size at =
    let count = reading_count k rv size in
    let some : 0 < 3 * (k + 4) = omega arith in
    let again : i % (3 * (k + 4)) % (3 * (k + 4)) ≡ i % (3 * (k + 4)) = mod-eq_of_lt (mod-lt i some) in
    ap (λ (s : Standing). item_of s.k s.rv s.bit) at
    ∙ ap (λ n. get_or (reading k rv) (i % (3 * (k + 4)) % n) (item 0 0)) count
    ∙ ap (λ j. get_or (reading k rv) j (item 0 0)) again
    ∙ sym (ap (λ n. get_or (reading k rv) (i % n) (item 0 0)) count)

-- one more step
pub one_more : (k rv i : ℕ) (s : Standing) → s ≡ standing k rv (i % (3 * (k + 4))) →
    standing s.k s.rv ((s.bit + 1) % (3 * (s.k + 4))) ≡ standing k rv ((i + 1) % (3 * (k + 4)))
one_more k rv i s at =
    ap (λ (s : Standing). standing s.k s.rv ((s.bit + 1) % (3 * (s.k + 4)))) at
    ∙ ap (standing k rv) (mod-add-mod i (3 * (k + 4)) 1)
