-- A rotated list.
use Rattle.std.proofs.Common.{◌≡◌, ℕ, ◌+◌, ◌-◌, ◌%◌, ◌<◌, ◌≤◌, ◌⊎◌, inl, inr, Bool, List, length, get_or, take, drop, ap, sym, ◌∙◌, arith, mod-eq_of_lt, add_comm, length-append, length-drop}
use Rattle.std.specs.Prelude.{nat_le, cond}
use Rattle.std.specs.List.{count_by}
use Rattle.std.proofs.lemmas.Bool.{cases_lt}
use Rattle.std.proofs.lemmas.List.{get_or-take, get_or-drop, get_or-append_right, length-take-le, take-append-drop}
use Rattle.std.proofs.lemmas.List.Sums.{sum_by-append}
use Rattle.std.proofs.Math.ListN.{get_or-append}
use Rattle.std.proofs.Math.Nat.{mod-eq-sub-mod}
use Rattle.sub_block.specs.declared.Item.{Item}
use Rattle.sub_block.specs.Items.{item, bits_in}
use Rattle.sub_block.proofs.Once.{length-bits_in}
use Rattle.turbo_code.specs.Reading.{turned}

pub length-turned : (s : ℕ) (cells : List Item) → s ≤ length cells → length (turned s cells) ≡ length cells
length-turned s cells h =
    let a = length-append (drop s cells) (take s cells) in
    let b = length-drop s cells in
    let c = length-take-le s cells h in
    omega (arith, a, b, c, h)

pub turned_at : (s m n : ℕ) (cells : List Item) → length cells ≡ n → s ≤ n → m < n → get_or (turned s cells) m (item 0 0) ≡ get_or cells ((s + m) % n) (item 0 0)
turned_at s m n cells e hs hm = settle (cases_lt (s + m) n)
  where
    long : length (drop s cells) ≡ n - s
    long = let b = length-drop s cells in omega (arith, b, e)

    round : (a : ℕ) → n ≤ a → a < n + n → a % n ≡ a - n
    round a h k = mod-eq-sub-mod h ∙ mod-eq_of_lt (omega (arith, h, k))

    settle : (s + m < n) ⊎ (n ≤ s + m) → get_or (turned s cells) m (item 0 0) ≡ get_or cells ((s + m) % n) (item 0 0)
    settle (inl h) =
        get_or-append (drop s cells) (take s cells) (item 0 0) m (omega (arith, long, h))
        ∙ get_or-drop s cells m (item 0 0) ∙ ap (λ i. get_or cells i (item 0 0)) (sym (mod-eq_of_lt h))
    settle (inr h) =
        let left : m - (n - s) ≡ s + m - n = omega (arith, hs, h) in
        get_or-append_right (drop s cells) (take s cells) (n - s) m (item 0 0) long (omega (arith, hs, h))
        ∙ get_or-take s cells (m - (n - s)) (item 0 0) (omega (arith, hs, hm, h))
        ∙ ap (λ i. get_or cells i (item 0 0)) (left ∙ sym (round (s + m) h (omega (arith, hs, hm))))

pub count-turned : (test : Item → Bool) (s : ℕ) (cells : List Item) → count_by test (turned s cells) ≡ count_by test cells
count-turned test s cells =
    sum_by-append (λ c. cond (test c) 1 0) (drop s cells) (take s cells)
    ∙ add_comm (count_by test (drop s cells)) (count_by test (take s cells))
    ∙ sym (sum_by-append (λ c. cond (test c) 1 0) (take s cells) (drop s cells))
    ∙ ap (count_by test) (take-append-drop s cells)

pub length-bits_in-turned : (n s : ℕ) (cells : List Item) → length (bits_in n (turned s cells)) ≡ length (bits_in n cells)
length-bits_in-turned n s cells = length-bits_in n (turned s cells) ∙ count-turned (λ c. nat_le n c.index) s cells ∙ sym (length-bits_in n cells)
