-- Sets of states instead of words: states reached or left by steps without a known bit 1. (own; the encoder's state
-- machine is in TS 36.212 section 5.1.3.2.1)
use Rattle.std.specs.Prelude.{◌≡◌, ℕ, zero, suc, ◌+◌, ◌*◌, ◌/◌, ◌<◌, ◌≤◌, Bool, true, false, not, cond, ◌&&◌, ◌||◌}
use Rattle.std.specs.Prelude.{List, [], length, slice_index_or, nat_eq, pos, int_lt, ℤ}
use Rattle.finite.specs.Tables.{sum_at}
use Rattle.trellis.specs.Least.{IsLeastTo}
use Rattle.turbo_code.specs.Encoder.{bit_at}
use Rattle.turbo_code.specs.Machine.{next, parity_bit, tail_bit, tail_parity, first_from, second_from, bit_to}
use Rattle.erasure.specs.Known.{Sent, found}

-- whether the step from state `x` with input bit `u` has no known 1: neither `u` nor its parity bit is a known 1
abbrev pub hides : Bool → Bool → ℕ → Bool → Bool
hides own parity x u = not (u && own) && not (parity_bit x u && parity)

-- whether a step without a known 1 leads from a state in `set` to state `y`
abbrev pub leads_to : Bool → Bool → List Bool → ℕ → Bool
leads_to own parity set y =
    (bit_at set (first_from y) && hides own parity (first_from y) (bit_to (first_from y) y))
    || (bit_at set (second_from y) && hides own parity (second_from y) (bit_to (second_from y) y))

-- whether a step without a known 1 leads from state `x` into `set`
abbrev pub leads_from : Bool → Bool → List Bool → ℕ → Bool
leads_from own parity set x =
    (hides own parity x false && bit_at set (next x false)) || (hides own parity x true && bit_at set (next x true))

-- whether tail step `j` from state `x` has no sent 1 among its two bits
abbrev pub tail_step_hides : List Bool → ℕ → ℕ → Bool
tail_step_hides tail j x = not (tail_bit x && bit_at tail (2 * j)) && not (tail_parity x && bit_at tail (2 * j + 1))

-- whether all three tail steps from state `x` have no sent 1
abbrev pub tail_hides : List Bool → ℕ → Bool
tail_hides tail x = (tail_step_hides tail 0 x && tail_step_hides tail 1 (x / 2)) && tail_step_hides tail 2 (x / 2 / 2)

-- whether `x` is in the set `before`, the step from state `x` with input bit 1 leads into the set `after`, and the
-- step's parity bit is not a known 1. The input bit counts as unknown.
abbrev pub leads_through : Bool → List Bool → List Bool → ℕ → Bool
leads_through parity before after x = (bit_at before x && hides false parity x true) && bit_at after (next x true)

-- the number of known 1 bits, 0 to 2, in step `k` from state `x`: the input bit `u` and its parity bit
abbrev pub step_ones : List Bool → List Bool → ℕ → ℕ → Bool → ℕ
step_ones own parity k x u = cond (u && bit_at own k) 1 0 + cond (parity_bit x u && bit_at parity k) 1 0

-- the start cost of state `x`: 0 for state 0, where the encoder starts, and 1 for any other state
abbrev pub starts : ℕ → ℕ
starts x = cond (nat_eq x 0) 0 1

-- whether a number is 0
abbrev pub none : ℕ → Bool
none zero = true
none (suc n) = false

-- `set` holds exactly the states that `k` steps from state 0 without a known bit 1 reach
pub record IsSet (own parity : List Bool) (k : ℕ) (set : List Bool) : Type 0 where
  pub ones : ℕ → ℕ
  pub least : (x : ℕ) → x < 8 → IsLeastTo next (step_ones own parity) starts 8 k x (ones x)
  pub member : (x : ℕ) → x < 8 → bit_at set x ≡ none (ones x)

-- for each j up to `k`, set j of `sets` holds exactly the states that j steps from state 0 without a known bit 1 reach
pub record HasSets (own parity : List Bool) (sets : List (List Bool)) (k : ℕ) : Type 0 where
  pub set : (j : ℕ) → j ≤ k → IsSet own parity j (slice_index_or sets j [])

-- the marks of a decoder's known bits, given as lists: information bits, parity bits and tail bits
abbrev pub sent_by : List Bool → List Bool → List Bool → Sent
sent_by own parity tail = record { information = bit_at own; parity = bit_at parity; tail = bit_at tail }

-- whether bit `k` is found from a decoder's known bits, whose marks are given as lists
abbrev pub found_by : List Bool → List Bool → List Bool → ℕ → Bool
found_by own parity tail k = found (length own) (sent_by own parity tail) (λ _. false) k

-- whether the number at index `p` of row `t` in the table `sums` is above 0
abbrev pub above_zero : List (List ℤ) → ℕ → ℕ → Bool
above_zero sums t p = int_lt (pos 0) (sum_at sums t p)
