-- Word numbers, splitting of words, and lexicographic order.
use Rattle.std.proofs.Common.{◌≡◌, ℕ, suc, ◌+◌, ◌^◌, ◌<◌, ◌⊎◌, inl, inr, ◌++◌, take, drop, subst, length-drop, length-take-le, Bool, true, false, List, [], ◌∷◌, length, get_or, refl, ap, ◌∙◌, arith}
use Rattle.std.proofs.Math.Seq.{split_at, get_or-append_seam}
use Rattle.cs_bits.specs.Numbers.{number}
use Rattle.cs_bits.proofs.Numbers.{number_below}
use Rattle.trellis.specs.Words.{IsBefore}

-- a word that precedes another has the smaller number
pub number-before : (u w : List Bool) → length u ≡ length w → IsBefore u w → number u < number w
number-before [] w e h = absurd h
number-before (x ∷ u) [] e h = absurd (omega arith)
number-before (false ∷ u) (false ∷ w) e h = let ih = number-before u w (omega arith) h in omega (arith, ih)
number-before (false ∷ u) (true ∷ w) e h =
    let k = number_below u in
    let e' : length u ≡ length w = omega arith in
    let k' : number u < 2 ^ length w = rw (← e') k in
    omega (arith, k')
number-before (true ∷ u) (false ∷ w) e h = absurd h
number-before (true ∷ u) (true ∷ w) e h =
    let ih = number-before u w (omega arith) h in
    let e' : length u ≡ length w = omega arith in
    rw e' (omega (arith, ih))

-- two words of equal length are equal, or one precedes the other
pub either_before : (u w : List Bool) → length u ≡ length w → (u ≡ w) ⊎ (IsBefore u w ⊎ IsBefore w u)
either_before [] [] size = inl refl
either_before [] (x ∷ w) size = absurd (omega (arith, size))
either_before (x ∷ u) [] size = absurd (omega (arith, size))
either_before (false ∷ u) (true ∷ w) size = inr (inl tt)
either_before (true ∷ u) (false ∷ w) size = inr (inr tt)
either_before (false ∷ u) (false ∷ w) size = elim (either_before u w (omega (arith, size))) [
  | inl same ↦ inl (ap (λ v. false ∷ v) same)
  | inr other ↦ inr other
]
either_before (true ∷ u) (true ∷ w) size = elim (either_before u w (omega (arith, size))) [
  | inl same ↦ inl (ap (λ v. true ∷ v) same)
  | inr other ↦ inr other
]

-- the bit between two words
pub bit_between : (us ws : List Bool) (b : Bool) (k : ℕ) → length us ≡ k → get_or (us ++ b ∷ ws) k false ≡ b
bit_between us ws b k size = subst (λ i. get_or (us ++ b ∷ ws) i false ≡ b) size (get_or-append_seam us b ws false)

-- a word split at index k into the bits before, the bit there, and the bits after
pub with_bit : (word : List Bool) (k n : ℕ) (b : Bool) → k + suc n ≡ length word → get_or word k false ≡ b →
    (us : List Bool) × (ws : List Bool) × (length us ≡ k) × (length ws ≡ n) × (word ≡ us ++ b ∷ ws)
with_bit word k n b size bit = (
  take k word,
  drop (suc k) word,
  length-take-le k word (omega (arith, size)),
  length-drop (suc k) word ∙ omega (arith, size),
  split_at word k false (omega (arith, size)) ∙ ap (λ a. take k word ++ a ∷ drop (suc k) word) bit,
)
