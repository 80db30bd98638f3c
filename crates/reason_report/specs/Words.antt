-- The words that the text and the JSON of reasons share. (own)
use Rattle.std.specs.Prelude.{ℕ, ◌*◌, nat_lt, nat_le, ◌&&◌, if◌then◌else◌, List, Option, Some, None, codes}
use Rattle.reasons.specs.declared.reason.Attempt.{Attempt}

-- the rule that a cell without an accepted MIB fails: `ports` if a MIB for another antenna port count was decoded,
-- `crc` if the minimum cost of a codeword is at most a quarter of `total`, and `cost` otherwise. With `crc`, the
-- codeword of minimum cost fails its CRC or has no valid bandwidth
abbrev pub unread_by : Option ℕ → ℕ → ℕ → List ℕ
unread_by (Some ports) cost total = codes "ports"
unread_by None cost total = if nat_lt 0 total && nat_le (4 * cost) total then codes "crc" else codes "cost"

abbrev pub unread_word : Attempt → List ℕ
unread_word attempt = unread_by attempt.ports attempt.cost attempt.total

-- the rule that an identity without a hit fails: `no-hit` if its PSS has less than a quarter of the energy at every
-- sample, `outside` if its PSS has at least a quarter at a sample outside the search span
abbrev pub no_hit_word : ℕ → List ℕ
no_hit_word ratio = if nat_lt ratio 250 then codes "no-hit" else codes "outside"
