-- Laws of blocks that can be resolved. (own)
use Rattle.std.specs.Prelude.{◌≡◌, ℕ, ◌+◌, ◌*◌, ◌<◌, ◌≤◌, Bool, true, false, List}
use Rattle.turbo_code.specs.declared.rows.Row.{Row}
use Rattle.turbo_code.specs.Table.{IsAnyRow}
use Rattle.erasure.specs.Known.{resolvable, sent_of}

-- a block can be resolved, whatever its bits and redundancy version, if at least 3 (K + 4) bits are sent, among which
-- is each coded bit
abbrev pub WholeBlockIsResolvable : Type 0
WholeBlockIsResolvable =
    (row : Row) (rv count : ℕ) (word : List Bool) → IsAnyRow row → rv < 4 → 3 * (row.k + 4) ≤ count →
    resolvable row (sent_of row.k rv count) word ≡ true

-- a block without any sent coded bit cannot be resolved
abbrev pub UnsentBlockIsNotResolvable : Type 0
UnsentBlockIsNotResolvable =
    (row : Row) (rv : ℕ) (word : List Bool) → IsAnyRow row → resolvable row (sent_of row.k rv 0) word ≡ false
