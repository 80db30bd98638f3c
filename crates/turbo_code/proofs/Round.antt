-- One round of the buffer from a start, as the search for an item uses it.
use Rattle.std.proofs.Common.{◌≡◌, ℕ, ◌+◌, ◌-◌, ◌*◌, ◌%◌, ◌<◌, ◌≤◌, List, length, get_or, ap, sym, subst, ◌∙◌, arith}
use Rattle.std.proofs.Math.Nat.{mul-le-mul_left}
use Rattle.sub_block.specs.declared.Item.{Item}
use Rattle.sub_block.specs.Matrix.{matrix_rows, nulls}
use Rattle.sub_block.specs.Items.{item, bits_in}
use Rattle.turbo_code.specs.Table.{IsAnySize}
use Rattle.turbo_code.specs.Reading.{start, buffer, turned, reading, item_of}
use Rattle.turbo_code.proofs.TableFacts.{is_small_size, bits_count}
use Rattle.turbo_code.proofs.Cells.{length-buffer}
use Rattle.turbo_code.proofs.Turned.{length-turned, turned_at, length-bits_in-turned}

abbrev pub round_cells : ℕ → ℕ → List Item
round_cells r rv = turned (r * (24 * rv + 2)) (buffer r)

pub record IsRound (k rv r : ℕ) : Type 0 where
  pub few : r ≤ 33
  pub some : 0 < r
  pub long : length (round_cells r rv) ≡ 96 * r
  pub cell : (m : ℕ) → m < 96 * r → get_or (round_cells r rv) m (item 0 0) ≡ get_or (buffer r) ((r * (24 * rv + 2) + m) % (96 * r)) (item 0 0)
  pub count : length (bits_in (32 * r - (k + 4)) (round_cells r rv)) ≡ 3 * (k + 4)
  pub reads : (i : ℕ) → item_of k rv i ≡ get_or (bits_in (32 * r - (k + 4)) (round_cells r rv)) (i % (3 * (k + 4))) (item 0 0)

start_inside : (r rv : ℕ) → rv < 4 → r * (24 * rv + 2) ≤ 96 * r
start_inside r rv h =
    let low : 24 * rv + 2 ≤ 96 = omega (arith, h) in
    let e : r * 96 ≡ 96 * r = omega arith in
    let both : r * (24 * rv + 2) ≤ r * 96 = mul-le-mul_left r low in
    omega (arith, both, e)

pub reading_count : (k rv : ℕ) → IsAnySize k → length (reading k rv) ≡ 3 * (k + 4)
unfolding reading
reading_count k rv size = length-bits_in-turned (nulls (k + 4)) (start k rv) (buffer (matrix_rows (k + 4))) ∙ bits_count k size

round_of : (k rv : ℕ) → IsAnySize k → rv < 4 → IsRound k rv (matrix_rows (k + 4))
unfolding reading item_of
round_of k rv size h =
    let small = is_small_size k size in
    let low = small.low in
    let high = small.high in
    let r = matrix_rows (k + 4) in
    let long = length-buffer r in
    let within : start k rv ≤ length (buffer r) = let s = start_inside r rv h in omega (arith, s, long) in
    record {
      few = omega (arith, low, high);
      some = omega (arith, low, high);
      long = length-turned (start k rv) (buffer r) within ∙ long;
      cell = λ m inside. turned_at (start k rv) m (96 * r) (buffer r) long (start_inside r rv h) inside;
      count = reading_count k rv size;
      reads = λ i. let n = reading_count k rv size in ap (λ n. get_or (reading k rv) (i % n) (item 0 0)) n;
    }

pub round : (k rv r : ℕ) → IsAnySize k → rv < 4 → r ≡ matrix_rows (k + 4) → IsRound k rv r
round k rv r size h e = subst (IsRound k rv) (sym e) (round_of k rv size h)
