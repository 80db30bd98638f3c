-- A slot that carries a MIB's word determines it.
use Rattle.std.proofs.Common.{◌≡◌, ℕ, ◌+◌, ◌*◌, ◌%◌, ◌<◌, ◌≤◌, arith, sym, subst, ◌∙◌, Bool, not, List, length, append-nil, ℤ, nat_abs, nat_le, nat_lt, nat_eq, true}
use Rattle.std.specs.Prelude.{◌&&◌, All}
use Rattle.std.proofs.lemmas.Bool.Decides.{nat_tests}
use Rattle.std.proofs.lemmas.List.Elements.{All-from_get_or}
use Rattle.finite.specs.Sums.{total_below}
use Rattle.finite.specs.Tables.{sum_at}
use Rattle.finite.proofs.Sums.{total_some}
use Rattle.conv_code.specs.Code.{tapped_bit, taps_0}
use Rattle.conv_code.specs.Cost.{word_cost}
use Rattle.conv_code.specs.Reading.{item_of}
use Rattle.conv_code.proofs.Sums.{length-summed_by}
use Rattle.cs_bits.proofs.Signs.{speaks_with_size}
use Rattle.tailbite.specs.Clean.{Speaks}
use Rattle.cs_num.specs.declared.Cpx.{Cpx}
use Rattle.grid_map.specs.declared.Place.{Place}
use Rattle.grid_map.specs.Place.{place}
use Rattle.grid_map.specs.Broadcast.{pbch_places, pbch_place, is_pbch}
use Rattle.grid_map.specs.Scrambling.{pbch_c_init}
use Rattle.grid_map.proofs.Points.{length-pbch_places, places_inside}
use Rattle.soft_bits.specs.Soft.{SeenSlot}
use Rattle.soft_bits.specs.Places.{descrambled}
use Rattle.pbch.specs.Values.{received_values, summed_values, coded_values}
use Rattle.pbch.specs.Master.{total}
use Rattle.cell_grid.specs.Block.{scrambled_bit}
use Rattle.clean_air.specs.Values.{IsSlotHeard}
use Rattle.clean_air.specs.Carried.{SpeakOfWord, sums_of, CarryWord}
use Rattle.clean_air.specs.Broadcast.{DecodesFreely, SpokenWordIsDecoded, SentWordIsDecoded, HeardSlotDecodes}
use Rattle.clean_air.proofs.Speaking.{heard_bits_speak, sums_speak_all, carried_bits_are_heard}
use Rattle.clean_air.proofs.SpokenWords.{spoken_word_is_only}

-- ---- the word

heard : (values : List (List ℤ)) (word : List Bool) → length values ≡ 40 → Speaks values word → 0 < total values
unfolding total
heard values word size speaks =
    total_some 40 0 (λ k. total_below 3 (λ t. nat_abs (sum_at values k t))) (omega arith)
    (total_some 3 0 (λ t. nat_abs (sum_at values 0 t)) (omega arith) (speaks_with_size (sum_at values 0 0) (tapped_bit taps_0 word 0) (speaks.place 0 (omega (arith, size))).first))

-- soft values that all have the signs of a 40-bit word determine it
pub spoken_word_is_decoded : SpokenWordIsDecoded
spoken_word_is_decoded ports word sums size many speaks passes width =
    let only = spoken_word_is_only sums word (omega (arith, many)) (size ∙ sym many) speaks in
    record {
      decodes = record {
        least = only.least;
        heard = heard sums word many speaks;
        clear = nothing (word_cost sums word) (total sums) only.free;
        check = passes;
        width = width;
      };
      free = only.free;
    }
  where
    nothing : (a b : ℕ) → a ≡ 0 → 4 * a ≤ b
    nothing a b e = omega (arith, e)

pub sent_word_is_decoded : SentWordIsDecoded
sent_word_is_decoded c_init first ports word values size speaks passes width =
    spoken_word_is_decoded ports word (sums_of c_init first 40 values) size (length-summed_by (λ i. item_of 40 (first + i)) 40 (descrambled c_init first values))
    (subst (λ n. Speaks (sums_of c_init first n values) word) size (sums_speak_all c_init first word values (omega (arith, size)) (omega (arith, size)) speaks)) passes width

-- ---- in a slot

below_72 : (identity i : ℕ) → i < 240 → (pbch_place identity i).k < 72
unfolding is_pbch
below_72 identity i l = decodes (pbch_place identity i) (identity % 3) (places_inside identity i l)
  where
    decodes : (p : Place) (shift : ℕ) → (nat_le 7 p.symbol && nat_lt p.symbol 11 && nat_lt p.k 72 && not (nat_lt p.symbol 9 && nat_eq (p.k % 3) shift)) ≡ true → p.k < 72
    decodes p shift e = grind (arith, nat_tests)

all_below_72 : (identity : ℕ) → All (λ p. p.k < 72) (pbch_places identity)
unfolding pbch_place
all_below_72 identity = All-from_get_or (λ (p : Place). p.k < 72) (pbch_places identity) (place 0 0) (λ i l. below_72 identity i (omega (arith, l, length-pbch_places identity)))

-- the soft values of a slot with correct soft values, whose broadcast channel carries a word in a frame of this phase,
-- have the word's signs
pub slot_speaks : (grids : ℕ → ℕ → Cpx) (slot : SeenSlot) (phase : ℕ) (word : List Bool) → IsSlotHeard grids slot →
    length word ≡ 40 → CarryWord grids (pbch_places slot.identity) (pbch_c_init slot.identity) (480 * phase) word → SpeakOfWord (pbch_c_init slot.identity) (480 * phase) word (received_values slot)
slot_speaks grids slot phase word heard size carry =
    let places = length-pbch_places slot.identity in
    heard_bits_speak 1 (2 * length (pbch_places slot.identity)) (pbch_c_init slot.identity) (480 * phase) word (received_values slot) (omega arith) (omega (arith, size, places))
    (carried_bits_are_heard grids slot (pbch_places slot.identity) (λ n. scrambled_bit (pbch_c_init slot.identity) word (480 * phase + n)) heard (all_below_72 slot.identity) carry)

pub heard_slot_decodes : HeardSlotDecodes
unfolding coded_values summed_values
heard_slot_decodes grids slot phase ports word heard size carry passes width =
    subst (λ values. DecodesFreely (sums_of (pbch_c_init slot.identity) (480 * phase) 40 values) word ports) (sym (append-nil (received_values slot)))
    (sent_word_is_decoded (pbch_c_init slot.identity) (480 * phase) ports word (received_values slot) size (slot_speaks grids slot phase word heard size carry) passes width)
