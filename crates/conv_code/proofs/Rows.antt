-- The definitions evaluated for words and lengths with known results.
use Rattle.std.proofs.Common.{◌≡◌, true, false, [], ◌∷◌, ◌++◌, replicate, take, map, refl}
use Rattle.sub_block.specs.Matrix.{turbo_columns, columns}
use Rattle.sub_block.specs.Items.{item, bits_in}
use Rattle.conv_code.specs.Code.{taps_0, tapped_bit}
use Rattle.conv_code.specs.Reading.{stream_order, reading, item_of}

-- stream 0 of a 40-bit word in which only bit 39 is 1
stream_of_last : map (tapped_bit taps_0 (replicate 39 false ++ true ∷ [])) (0 ∷ 1 ∷ 2 ∷ 3 ∷ 4 ∷ 5 ∷ 6 ∷ 38 ∷ 39 ∷ [])
    ≡ false ∷ true ∷ true ∷ false ∷ true ∷ true ∷ false ∷ false ∷ true ∷ []
stream_of_last = refl

-- the first indices in interleaved order, for 40 bits and for 37
order_of_40 : take 10 (stream_order 40) ≡ 9 ∷ 25 ∷ 17 ∷ 1 ∷ 33 ∷ 13 ∷ 29 ∷ 21 ∷ 5 ∷ 37 ∷ []
unfolding stream_order bits_in columns turbo_columns
order_of_40 = refl

order_of_37 : take 10 (stream_order 37) ≡ 6 ∷ 22 ∷ 14 ∷ 30 ∷ 10 ∷ 26 ∷ 18 ∷ 2 ∷ 34 ∷ 8 ∷ []
unfolding stream_order bits_in columns turbo_columns
order_of_37 = refl

-- with 40 bits per stream, output bit 121 is output bit 1 again
around : item_of 40 121 ≡ item 0 25
unfolding item_of reading bits_in columns turbo_columns
around = refl
