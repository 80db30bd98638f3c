-- The definitions at words and sizes with known results.
use Rattle.std.proofs.Common.{◌≡◌, true, false, [], ◌∷◌, map, refl}
use Rattle.sub_block.specs.Matrix.{columns, turbo_columns}
use Rattle.sub_block.specs.Items.{item, bits_in}
use Rattle.turbo_code.specs.Table.{row, interleaver}
use Rattle.turbo_code.specs.Encoder.{before, parities, tail_x, tail_z}
use Rattle.turbo_code.specs.Reading.{start, buffer, reading, item_of}

-- the interleaver for K = 144
indices_of_144 : map (interleaver (row 144 17 108)) (0 ∷ 1 ∷ 2 ∷ 3 ∷ []) ≡ 0 ∷ 125 ∷ 34 ∷ 15 ∷ []
unfolding interleaver
indices_of_144 = refl

-- where the four redundancy versions start for K = 144
starts_of_144 : map (start 144) (0 ∷ 1 ∷ 2 ∷ 3 ∷ []) ≡ 10 ∷ 130 ∷ 250 ∷ 370 ∷ []
starts_of_144 = refl

-- the first bits sent for K = 144
sent_of_144 : map (item_of 144 0) (0 ∷ 1 ∷ 2 ∷ 3 ∷ 4 ∷ []) ≡ item 0 28 ∷ item 0 60 ∷ item 0 92 ∷ item 0 124 ∷ item 0 12 ∷ []
unfolding item_of reading buffer bits_in columns turbo_columns
sent_of_144 = refl

sent_in_turn : map (item_of 144 2) (0 ∷ 1 ∷ 2 ∷ 444 ∷ []) ≡ item 1 6 ∷ item 2 7 ∷ item 1 38 ∷ item 1 6 ∷ []
unfolding item_of reading buffer bits_in columns turbo_columns
sent_in_turn = refl

-- one encoder's parity bits and tail for a word of seven bits
parities_of_seven : parities (true ∷ true ∷ true ∷ true ∷ true ∷ true ∷ false ∷ []) ≡ true ∷ false ∷ true ∷ false ∷ false ∷ false ∷ false ∷ []
unfolding parities before
parities_of_seven = refl

tail_of_seven : map (tail_x (true ∷ true ∷ true ∷ true ∷ true ∷ true ∷ false ∷ [])) (0 ∷ 1 ∷ 2 ∷ []) ≡ false ∷ true ∷ true ∷ []
unfolding tail_x before
tail_of_seven = refl

tail_parities_of_seven : map (tail_z (true ∷ true ∷ true ∷ true ∷ true ∷ true ∷ false ∷ [])) (0 ∷ 1 ∷ 2 ∷ []) ≡ true ∷ false ∷ true ∷ []
unfolding tail_z before
tail_parities_of_seven = refl
