-- Extrinsic values computed from the definition, over all words.
use Rattle.std.proofs.Common.{◌≡◌, [], ◌∷◌, pos, negsuc, refl}
use Rattle.turbo_dec.specs.Decoder.{values_of, score, greatest_score, extrinsic, extrinsics}
use Rattle.trellis.specs.AllWords.{greatest}
use Rattle.finite.specs.Sums.{sum_below}
use Rattle.turbo_code.specs.Encoder.{before, tail_x, tail_z}

one_bit : extrinsics (values_of (negsuc 6 ∷ []) (pos 5 ∷ []) (pos 1 ∷ pos 2 ∷ pos 3 ∷ pos 4 ∷ pos 5 ∷ pos 6 ∷ []) (pos 9 ∷ [])) ≡ pos 21 ∷ []
unfolding extrinsics extrinsic greatest_score greatest score sum_below before tail_x tail_z
one_bit = refl

clamped_bit : extrinsics (values_of (pos 0 ∷ []) (pos 4096 ∷ []) (pos 4096 ∷ pos 4096 ∷ pos 4096 ∷ pos 4096 ∷ pos 4096 ∷ pos 4096 ∷ []) (pos 0 ∷ [])) ≡ pos 2047 ∷ []
unfolding extrinsics extrinsic greatest_score greatest score sum_below before tail_x tail_z
clamped_bit = refl

-- systematic [2, -3, -2], parity [2, -3, -2], tail [-2, -3, 3, 1, -1, 0], prior [-1, -3, -3]
three_bits : extrinsics (values_of (pos 2 ∷ negsuc 2 ∷ negsuc 1 ∷ []) (pos 2 ∷ negsuc 2 ∷ negsuc 1 ∷ [])
    (negsuc 1 ∷ negsuc 2 ∷ pos 3 ∷ pos 1 ∷ negsuc 0 ∷ pos 0 ∷ []) (negsuc 0 ∷ negsuc 2 ∷ negsuc 2 ∷ [])) ≡ pos 8 ∷ negsuc 2 ∷ negsuc 4 ∷ []
unfolding extrinsics extrinsic greatest_score greatest score sum_below before tail_x tail_z
three_bits = refl
