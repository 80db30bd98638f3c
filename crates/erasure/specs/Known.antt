-- The bits of a punctured block that are known after each iteration. (own; the code and its rate matching are in TS
-- 36.212 sections 5.1.3.2 and 5.1.4.1)
use Rattle.std.specs.Prelude.{ℕ, zero, suc, ◌+◌, ◌*◌, Bool, false, not, ◌&&◌, ◌||◌, List, [], ◌∷◌, nat_eq}
use Rattle.finite.specs.Lists.{values_below}
use Rattle.finite.specs.Tests.{any_below, every_below}
use Rattle.cs_bits.specs.Checks.{has_check_24}
use Rattle.trellis.specs.AllWords.{every_word}
use Rattle.sub_block.specs.Items.{is_at}
use Rattle.turbo_code.specs.declared.rows.Row.{Row}
use Rattle.turbo_code.specs.Table.{interleaver, step_of}
use Rattle.turbo_code.specs.Encoder.{bit_at, parity, tail_x, tail_z}
use Rattle.turbo_code.specs.Reading.{item_of}

-- ---- one decoder

-- the marks of a constituent encoder's sent bits: the information bits, the parity bits, and the six tail bits x(K),
-- z(K), x(K + 1), z(K + 1), x(K + 2), z(K + 2)
pub record Sent : Type 0 where
  pub information : ℕ → Bool
  pub parity : ℕ → Bool
  pub tail : ℕ → Bool

-- whether step `j` of `word` shows a 1 that is sent or known: an information bit other than `k` that is sent or known,
-- or a parity bit that is sent
abbrev pub step_shows : Sent → (ℕ → Bool) → ℕ → List Bool → ℕ → Bool
step_shows sent known k word j =
    ((not (nat_eq j k) && bit_at word j) && (sent.information j || known j)) || (parity word j && sent.parity j)

-- whether tail step `j` of `word` shows a 1 that is sent
abbrev pub tail_shows : Sent → List Bool → ℕ → Bool
tail_shows sent word j = (tail_x word j && sent.tail (2 * j)) || (tail_z word j && sent.tail (2 * j + 1))

-- whether some step of `word`, which has `n` bits, or of its tail shows a 1 that is sent or known, other than bit `k`
abbrev pub shows : ℕ → Sent → (ℕ → Bool) → ℕ → List Bool → Bool
shows n sent known k word = any_below n (step_shows sent known k word) || any_below 3 (tail_shows sent word)

-- whether bit `k` is found: every word of `n` bits with a 1 at `k` shows another 1 that is sent or known, so the sent
-- and known bits determine bit `k`
unfoldable pub found : ℕ → Sent → (ℕ → Bool) → ℕ → Bool
found n sent known k = every_word n (λ word. not (bit_at word k) || shows n sent known k word)

-- ---- the iterations; `sent t p` means that item p of stream t is sent

-- the marks of a constituent encoder's six tail bits, at indices `p` and p + 1 in each stream
abbrev pub tail_sent : (ℕ → ℕ → Bool) → ℕ → List Bool
tail_sent sent p = sent 0 p ∷ sent 1 p ∷ sent 2 p ∷ sent 0 (p + 1) ∷ sent 1 (p + 1) ∷ sent 2 (p + 1) ∷ []

-- the marks of the first encoder's sent bits
abbrev pub first_sent : Row → (ℕ → ℕ → Bool) → Sent
first_sent row sent = record { information = sent 0; parity = sent 1; tail = bit_at (tail_sent sent row.k) }

-- the marks of the second encoder's sent bits, in the second encoder's order
abbrev pub second_sent : Row → (ℕ → ℕ → Bool) → Sent
second_sent row sent = record {
  information = λ i. sent 0 (interleaver row i);
  parity = sent 2;
  tail = bit_at (tail_sent sent (row.k + 2));
}

-- whether the first decoder finds a bit from the sent bits and the `known` bits
abbrev pub first_found : Row → (ℕ → ℕ → Bool) → (ℕ → Bool) → ℕ → Bool
first_found row sent known = found row.k (first_sent row sent) known

-- whether the second decoder, which reads the bits in interleaved order, finds bit `k` from the sent bits and the
-- `known` bits
abbrev pub second_found : Row → (ℕ → ℕ → Bool) → (ℕ → Bool) → ℕ → Bool
second_found row sent known k = found row.k (second_sent row sent) (λ i. known (interleaver row i)) (step_of row k)

-- whether the second decoder finds bit `k` in the last of `n` iterations, given the bits that the first decoder found
-- in the same iteration; false if `n` is 0
unfoldable pub known_after : Row → (ℕ → ℕ → Bool) → ℕ → ℕ → Bool
known_after row sent zero k = false
known_after row sent (suc n) k = second_found row sent (first_found row sent (known_after row sent n)) k

-- whether iteration `n` + 1 settles bit `k`: the bit is sent, or one of the two decoders finds it
abbrev pub settled : Row → (ℕ → ℕ → Bool) → ℕ → ℕ → Bool
settled row sent n k = (sent 0 k || first_found row sent (known_after row sent n) k) || known_after row sent (suc n) k

-- whether iteration `n` + 1 settles every bit
abbrev pub settles_all : Row → (ℕ → ℕ → Bool) → ℕ → Bool
settles_all row sent n = every_below row.k (settled row sent n)

-- the decoded word after iteration `n` + 1: the sent `word`, with 0 at every bit that is not settled
abbrev pub word_after : Row → (ℕ → ℕ → Bool) → List Bool → ℕ → List Bool
word_after row sent word n = values_below row.k (λ k. bit_at word k && settled row sent n k)

-- whether iteration `n` + 1 is the first that settles every bit, and no earlier decoded word passes the CRC
abbrev pub resolves : Row → (ℕ → ℕ → Bool) → List Bool → ℕ → Bool
resolves row sent word n =
    settles_all row sent n
    && every_below n (λ m. not (settles_all row sent m) && not (has_check_24 (word_after row sent word m)))

-- whether a block can be resolved: one of eight iterations is the first that settles every bit, and no earlier decoded
-- word passes the CRC
unfoldable pub resolvable : Row → (ℕ → ℕ → Bool) → List Bool → Bool
resolvable row sent word = any_below 8 (resolves row sent word)

-- whether the item at index `p` of stream `t` is among the first `m` bits sent from redundancy version `rv`, for
-- streams of `k` bits and their tails
unfoldable pub sent_of : ℕ → ℕ → ℕ → ℕ → ℕ → Bool
sent_of k rv m t p = any_below m (λ i. is_at t p (item_of k rv i))
