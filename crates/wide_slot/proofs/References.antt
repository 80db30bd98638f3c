-- Reference signal values from the bits of a sequence.
use Rattle.std.proofs.Common.{◌≡◌, ℕ, ◌+◌, ◌-◌, ◌*◌, ◌<◌, ◌≤◌, arith, ap, ap₂, ◌∙◌, List, Bool, false, get_or}
use Rattle.std.proofs.lemmas.List.FromFn.{get_or-map-range_with_len}
use Rattle.gold.specs.Gold.{gold_bit, gold_bits}
use Rattle.crs.specs.Qpsk.{point}
use Rattle.crs.specs.Reference.{value_of_width}

bit_is : (bits : List Bool) (c i : ℕ) → bits ≡ gold_bits c 440 → i < 440 → get_or bits i false ≡ gold_bit c i
unfolding gold_bits
bit_is bits c i e inside = ap (λ (bs : List Bool). get_or bs i false) e ∙ get_or-map-range_with_len (gold_bit c) 0 440 i i false inside (omega arith)

-- 440 bits give the values for every bandwidth
pub value_is : (bits : List Bool) (c blocks m : ℕ) → bits ≡ gold_bits c 440 → m < 2 * blocks → blocks ≤ 110 →
    value_of_width blocks (λ n. get_or bits n false) m ≡ value_of_width blocks (gold_bit c) m
value_is bits c blocks m e inside few =
    ap₂ point (bit_is bits c (2 * (m + (110 - blocks))) e (omega (arith, inside, few)))
    (bit_is bits c (2 * (m + (110 - blocks)) + 1) e (omega (arith, inside, few)))
