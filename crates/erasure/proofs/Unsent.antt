-- Blocks without any sent coded bit.
use Rattle.std.proofs.Common.{◌≡◌, ℕ, zero, suc, ◌+◌, ◌-◌, ◌*◌, ◌<◌, Bool, true, false, inl, inr, List, ◌∷◌, ◌++◌, length, replicate, refl, ap, ap₂, sym, ◌∙◌, arith, length-append}
use Rattle.std.specs.Prelude.{◌&&◌, ◌||◌, not, nat_eq}
use Rattle.std.proofs.lemmas.Bool.{cases_Bool, true≢false}
use Rattle.std.proofs.lemmas.List.{length-replicate}
use Rattle.std.proofs.Math.Bool.{and-false}
use Rattle.finite.specs.Tests.{any_below, every_below}
use Rattle.finite.proofs.Tests.{any_below_all, every_below_at}
use Rattle.cs_bits.specs.Checks.{has_check_24}
use Rattle.trellis.specs.AllWords.{every_word}
use Rattle.trellis.proofs.AllWords.{every_word_at}
use Rattle.trellis.proofs.Words.{bit_between}
use Rattle.turbo_code.specs.declared.rows.Row.{Row}
use Rattle.turbo_code.specs.Table.{IsAnyRow, interleaver, step_of}
use Rattle.turbo_code.specs.Encoder.{bit_at, parity, tail_x, tail_z}
use Rattle.turbo_code.proofs.Permutes.{all_permute}
use Rattle.turbo_code.proofs.TableFacts.{is_small}
use Rattle.turbo_code.proofs.Orders.{read_at_step}
use Rattle.erasure.specs.Known.{Sent, step_shows, tail_shows, shows, found, tail_sent, first_sent, second_sent, first_found, second_found, known_after, settled, settles_all, word_after, resolves, resolvable, sent_of}
use Rattle.erasure.specs.Laws.{UnsentBlockIsNotResolvable}

-- a word with a 1 at index k
one_at : (n k : ℕ) → k < n → (word : List Bool) × (length word ≡ n) × (bit_at word k ≡ true)
one_at n k inside =
    let us : List Bool = replicate k false in
    let ws : List Bool = replicate (n - k - 1) false in
    let size : length us ≡ k = length-replicate k false in
    let rest = length-replicate (n - k - 1) false in (
      us ++ true ∷ ws,
      length-append us (true ∷ ws) ∙ omega (arith, size, rest, inside),
      bit_between us ws true k size,
    )

-- if nothing is sent or known, nothing is found
nothing_found : (n : ℕ) (sent : Sent) (known : ℕ → Bool) (k : ℕ) → k < n →
    ((j : ℕ) → j < n → (sent.information j || known j) ≡ false) → ((j : ℕ) → j < n → sent.parity j ≡ false) →
    ((j : ℕ) → j < 6 → sent.tail j ≡ false) → found n sent known k ≡ false
unfolding found
nothing_found n sent known k inside information checks tails =
    let (word, size, bit) = one_at n k inside in
    let hides : shows n sent known k word ≡ false =
    ap₂ ◌||◌
    (any_below_all n (step_shows sent known k word) (λ j l.
    ap₂ (λ o z. ((not (nat_eq j k) && bit_at word j) && o) || (parity word j && z)) (information j l) (checks j l)
    ∙ ap₂ ◌||◌ (and-false (not (nat_eq j k) && bit_at word j)) (and-false (parity word j))))
    (any_below_all 3 (tail_shows sent word) (λ j l.
    ap₂ (λ x z. (tail_x word j && x) || (tail_z word j && z)) (tails (2 * j) (omega (arith, l))) (tails (2 * j + 1) (omega (arith, l)))
    ∙ ap₂ ◌||◌ (and-false (tail_x word j)) (and-false (tail_z word j)))) in
    elim (cases_Bool (every_word n (λ word. not (bit_at word k) || shows n sent known k word))) [
      | inl all ↦ absurd (true≢false (sym (every_word_at n _ all word size) ∙ ap₂ (λ b t. not b || t) bit hides))
      | inr e ↦ e
    ]

module _ (row : Row) (is_row : IsAnyRow row) (sent : ℕ → ℕ → Bool) (nothing : (t p : ℕ) → sent t p ≡ false) where
  tail_nothing : (p j : ℕ) → j < 6 → bit_at (tail_sent sent p) j ≡ false
  tail_nothing p zero l = nothing 0 p
  tail_nothing p (suc zero) l = nothing 1 p
  tail_nothing p (suc (suc zero)) l = nothing 2 p
  tail_nothing p (suc (suc (suc zero))) l = nothing 0 (p + 1)
  tail_nothing p (suc (suc (suc (suc zero)))) l = nothing 1 (p + 1)
  tail_nothing p (suc (suc (suc (suc (suc zero))))) l = nothing 2 (p + 1)
  tail_nothing p (suc (suc (suc (suc (suc (suc j)))))) l = absurd (omega (arith, l))

  first_nothing : (known : ℕ → Bool) → ((k : ℕ) → k < row.k → known k ≡ false) → (k : ℕ) → k < row.k → first_found row sent known k ≡ false
  first_nothing known h k inside =
      nothing_found row.k (first_sent row sent) known k inside (λ j l. ap₂ ◌||◌ (nothing 0 j) (h j l)) (λ j l. nothing 1 j) (tail_nothing row.k)

  second_nothing : (known : ℕ → Bool) → ((k : ℕ) → k < row.k → known k ≡ false) → (k : ℕ) → k < row.k → second_found row sent known k ≡ false
  second_nothing known h k inside =
      let read = read_at_step row k is_row inside in
      nothing_found row.k (second_sent row sent) (λ i. known (interleaver row i)) (step_of row k) read.below
      (λ j l. ap₂ ◌||◌ (nothing 0 (interleaver row j)) (h (interleaver row j) ((all_permute row is_row).below j l)))
      (λ j l. nothing 2 j) (tail_nothing (row.k + 2))

  known_nothing : (n k : ℕ) → k < row.k → known_after row sent n k ≡ false
  unfolding known_after
  known_nothing zero k inside = refl
  known_nothing (suc n) k inside =
      second_nothing (first_found row sent (known_after row sent n)) (first_nothing (known_after row sent n) (known_nothing n)) k inside

  never_settled : (n : ℕ) → settles_all row sent n ≡ false
  never_settled n = elim (cases_Bool (settles_all row sent n)) [
    | inl all ↦
        let low = (is_small row is_row).low in
        let first : 0 < row.k = omega (arith, low) in
        let here : settled row sent n 0 ≡ false =
        ap₂ ◌||◌ (ap₂ ◌||◌ (nothing 0 0) (first_nothing (known_after row sent n) (known_nothing n) 0 first)) (known_nothing (suc n) 0 first) in
        absurd (true≢false (sym (every_below_at row.k (settled row sent n) all 0 first) ∙ here))
    | inr e ↦ e
  ]

  pub never_resolved : (word : List Bool) → resolvable row sent word ≡ false
  unfolding resolvable
  never_resolved word = any_below_all 8 (resolves row sent word) (λ n l.
      ap (λ f. f && every_below n (λ m. not (settles_all row sent m) && not (has_check_24 (word_after row sent word m)))) (never_settled n))

pub unsent_block_is_not_resolvable : UnsentBlockIsNotResolvable
unfolding sent_of any_below
unsent_block_is_not_resolvable row rv word is_row = never_resolved row is_row (sent_of row.k rv 0) (λ t p. refl) word
