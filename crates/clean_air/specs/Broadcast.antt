-- A slot determines the MIB that was sent in it. (own; the channel is in TS 36.211 section 6.6 and TS 36.212 section
-- 5.3.1)
use Rattle.std.specs.Prelude.{◌≡◌, ℕ, ◌*◌, ◌≤◌, Bool, List, [], ◌∷◌, length, ℤ}
use Rattle.cs_num.specs.declared.Cpx.{Cpx}
use Rattle.cs_bits.specs.Numbers.{field}
use Rattle.grid_map.specs.Broadcast.{pbch_places}
use Rattle.grid_map.specs.Scrambling.{pbch_c_init}
use Rattle.soft_bits.specs.Soft.{SeenSlot}
use Rattle.conv_code.specs.Cost.{word_cost}
use Rattle.tailbite.specs.Clean.{Speaks}
use Rattle.pbch.specs.Values.{coded_values}
use Rattle.pbch.specs.Master.{PassesWith, Decodes}
use Rattle.clean_air.specs.Values.{IsSlotHeard}
use Rattle.clean_air.specs.Carried.{SpeakOfWord, sums_of, CarryWord}

-- sums by coded bit determine an information word and an antenna port count, at cost 0
pub record DecodesFreely (sums : List (List ℤ)) (word : List Bool) (ports : ℕ) : Type 0 where
  pub decodes : Decodes sums word ports
  pub free : word_cost sums word ≡ 0

-- a law: sums by coded bit determine a 40-bit word, at cost 0, if all sums have the signs of the word's coded bits, its
-- CRC passes with the mask of the port count, and its bandwidth code is valid (at most 5)
abbrev pub SpokenWordIsDecoded : Type 0
SpokenWordIsDecoded =
    (ports : ℕ) (word : List Bool) (sums : List (List ℤ)) → length word ≡ 40 → length sums ≡ 40 → Speaks sums word →
    PassesWith ports word → field word 0 3 ≤ 5 →
    DecodesFreely sums word ports

-- a law: at least 120 soft values determine a MIB's 40-bit word, at cost 0, if value `i` has the sign of scrambled
-- coded bit `first` + `i`, read cyclically, the CRC passes with the mask of the port count, and the bandwidth code is
-- at most 5
abbrev pub SentWordIsDecoded : Type 0
SentWordIsDecoded =
    (c_init first ports : ℕ) (word : List Bool) (values : List ℤ) → length word ≡ 40 →
    SpeakOfWord c_init first word values → PassesWith ports word → field word 0 3 ≤ 5 →
    DecodesFreely (sums_of c_init first 40 values) word ports

-- a law: a slot with correct soft values determines, at cost 0, the 40-bit word that its broadcast channel carries in a
-- frame whose number is `phase` modulo 4, if the word's CRC passes with the mask of the port count and the bandwidth
-- code is at most 5
abbrev pub HeardSlotDecodes : Type 0
HeardSlotDecodes =
    (grids : ℕ → ℕ → Cpx) (slot : SeenSlot) (phase ports : ℕ) (word : List Bool) → IsSlotHeard grids slot →
    length word ≡ 40 → CarryWord grids (pbch_places slot.identity) (pbch_c_init slot.identity) (480 * phase) word →
    PassesWith ports word → field word 0 3 ≤ 5 →
    DecodesFreely (coded_values (slot ∷ []) phase) word ports
