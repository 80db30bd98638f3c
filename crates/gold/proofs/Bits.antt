-- Reading the sequence's first bits.
use Rattle.std.proofs.Common.{ℕ, ◌<◌, ◌≡◌, Bool, length, get_or, arith}
use Rattle.std.proofs.lemmas.List.FromFn.{length-map-range_with_len, get_or-map-range_with_len}
use Rattle.gold.specs.Gold.{gold_bit, gold_bits}

pub length-gold_bits : (c_init count : ℕ) → length (gold_bits c_init count) ≡ count
unfolding gold_bits
length-gold_bits c_init count = length-map-range_with_len (gold_bit c_init) 0 count

pub get_or-gold_bits : (c_init count i : ℕ) (d : Bool) → i < count → get_or (gold_bits c_init count) i d ≡ gold_bit c_init i
unfolding gold_bits
get_or-gold_bits c_init count i d inside = get_or-map-range_with_len (gold_bit c_init) 0 count i i d inside (omega arith)
