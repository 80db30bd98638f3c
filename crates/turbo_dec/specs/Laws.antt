-- Laws of maximum scores, and of the interleaver's two orders (own).
use Rattle.std.specs.Prelude.{◌≡◌, ℕ, ◌<◌, Bool, List, length, ℤ, pos, ◌≤ℤ◌}
use Rattle.turbo_code.specs.Encoder.{bit_at}
use Rattle.turbo_code.specs.declared.rows.Row.{Row}
use Rattle.turbo_code.specs.Table.{IsAnyRow}
use Rattle.turbo_dec.specs.Decoder.{Values, score, greatest_score}
use Rattle.turbo_code.specs.Streams.{in_order, in_word_order}

-- m is the maximum score among information words whose bit k is b: some such word has the score m, and none has a
-- greater score
pub record IsGreatest (v : Values) (k : ℕ) (b : Bool) (m : ℤ) : Type 0 where
  pub reached : (word : List Bool) × (length word ≡ length v.systematic) × (bit_at word k ≡ b) × (score v word ≡ m)
  pub greatest : (word : List Bool) → length word ≡ length v.systematic → bit_at word k ≡ b → score v word ≤ℤ m

-- `greatest_score v k b` is the maximum score among information words whose bit k is b
abbrev pub GreatestScoresAreGreatest : Type 0
GreatestScoresAreGreatest =
    (v : Values) (k : ℕ) (b : Bool) → k < length v.systematic → IsGreatest v k b (greatest_score v k b)

-- deinterleaving undoes interleaving, for each block size of the interleaver
abbrev pub OrdersUndoEachOther : Type 0
OrdersUndoEachOther =
    (row : Row) (values : List ℤ) → IsAnyRow row → length values ≡ row.k →
    in_word_order (pos 0) row (in_order (pos 0) row values) ≡ values
