-- The parts of a codeword that a decoder reads, and the two orders of a word. An item past the end of a list is the
-- default `d`.
use Rattle.std.specs.Prelude.{ℕ, ◌+◌, List, [], ◌∷◌, slice_index_or}
use Rattle.finite.specs.Lists.{values_below}
use Rattle.turbo_code.specs.declared.rows.Row.{Row}
use Rattle.turbo_code.specs.Table.{interleaver, step_of}

-- the item at index `p` in stream `t`
abbrev pub item_at : {A : Type 0} → A → List (List A) → ℕ → ℕ → A
item_at d streams t p = slice_index_or (slice_index_or streams t []) p d

-- the K items of stream `t` before its tail
abbrev pub bits_of_stream : {A : Type 0} → A → Row → List (List A) → ℕ → List A
bits_of_stream d row streams t = values_below row.k (λ k. item_at d streams t k)

-- a constituent encoder's six tail items, at indices `p` and p + 1 in each stream (TS 36.212 section 5.1.3.2.2)
abbrev pub tail_items : {A : Type 0} → A → List (List A) → ℕ → List A
tail_items d streams p =
    item_at d streams 0 p ∷ item_at d streams 1 p ∷ item_at d streams 2 p
    ∷ item_at d streams 0 (p + 1) ∷ item_at d streams 1 (p + 1) ∷ item_at d streams 2 (p + 1) ∷ []

-- the list `items` in the second encoder's order (TS 36.212 section 5.1.3.2.3)
unfoldable pub in_order : {A : Type 0} → A → Row → List A → List A
in_order d row items = values_below row.k (λ i. slice_index_or items (interleaver row i) d)

-- a list in the second encoder's order, put back into the order of the word
unfoldable pub in_word_order : {A : Type 0} → A → Row → List A → List A
in_word_order d row items = values_below row.k (λ k. slice_index_or items (step_of row k) d)
