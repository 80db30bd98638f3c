-- The values in frames, and their sums.
use Rattle.std.proofs.Common.{◌≡◌, ℕ, ◌+◌, ◌*◌, ◌%◌, ◌<◌, ◌≤◌, ◌∙◌, List, [], ◌∷◌, length, get_or, ℤ, pos, nat_abs, refl, ap, arith}
use Rattle.std.specs.Prelude.{map, All}
use Rattle.std.specs.List.{flat_map}
use Rattle.std.proofs.lemmas.List.{length-append}
use Rattle.std.proofs.lemmas.List.Folds.{flat_map-map}
use Rattle.std.proofs.lemmas.List.Elements.{All-nil, All-head, All-tail, All-append}
use Rattle.finite.specs.Sizes.{AllWithin, RowsWithin}
use Rattle.finite.specs.Lists.{values_below}
use Rattle.finite.proofs.Lists.{values_below-All}
use Rattle.grid_map.specs.declared.Place.{Place}
use Rattle.grid_map.specs.Broadcast.{pbch_places}
use Rattle.grid_map.specs.Scrambling.{pbch_c_init}
use Rattle.grid_map.proofs.Points.{length-pbch_places, places_in_front}
use Rattle.soft_bits.specs.Soft.{SeenSlot}
use Rattle.soft_bits.specs.Places.{Valuing, descrambled}
use Rattle.soft_bits.specs.Front.{HaveOneFront, LooksAtFront}
use Rattle.soft_bits.proofs.Channel.{length-placed, placed-small, length-descrambled, descrambled-small}
use Rattle.sub_block.specs.Items.{summed_at}
use Rattle.sub_block.proofs.Rounds.{GoesRound, summed_at-small}
use Rattle.conv_code.specs.Reading.{item_of, summed_by}
use Rattle.conv_code.proofs.Items.{permuting}
use Rattle.conv_code.proofs.Sums.{length-summed_by, length-summed_by_row}
use Rattle.pbch.specs.Values.{received_values_by, received_values, summed_values, identity_of}

-- a default slot, which is never read
abbrev pub no_slot : SeenSlot
no_slot = record { symbols = []; number = 0; identity = 0 }

pub first_identity : (slots : List SeenSlot) → identity_of slots ≡ (get_or slots 0 no_slot).identity
first_identity [] = refl
first_identity (slot ∷ slots) = refl

-- ---- a frame

pub length-received_values : (slot : SeenSlot) → length (received_values slot) ≡ 480
length-received_values slot = length-placed (λ p. slot) (pbch_places slot.identity) ∙ ap (λ n. 2 * n) (length-pbch_places slot.identity)

pub received_values-small : (slot : SeenSlot) → AllWithin 127 (received_values slot)
received_values-small slot = placed-small (λ p. slot) (pbch_places slot.identity)

-- a frame's values depend only on the front of its slot
pub front_received : (values : Valuing) (a b : SeenSlot) → LooksAtFront values → HaveOneFront a b → received_values_by values a ≡ received_values_by values b
front_received values a b looks one =
    looks a b (pbch_places a.identity) one (places_in_front a.identity)
    ∙ ap (λ identity. values (λ (p : Place). b) (pbch_places identity)) one.identity

-- ---- frames, one after the other

-- the frames of slots, one after the other
pub frames_of_slots : (slots : List SeenSlot) (frames : List (List ℤ)) → frames ≡ map received_values slots →
    flat_map (λ frame. frame) frames ≡ flat_map received_values slots
frames_of_slots slots frames are = ap (flat_map (λ frame. frame)) are ∙ flat_map-map (λ frame. frame) received_values slots

-- the number of values in frames of at most 480 each
pub count_in_frames : (frames : List (List ℤ)) → All (λ (frame : List ℤ). length frame ≤ 480) frames → length (flat_map (λ frame. frame) frames) ≤ 480 * length frames
count_in_frames [] each = omega arith
count_in_frames (frame ∷ frames) each =
    let first = All-head (λ (frame : List ℤ). length frame ≤ 480) frame frames each in
    let rest = count_in_frames frames (All-tail (λ (frame : List ℤ). length frame ≤ 480) frame frames each) in
    let both = length-append frame (flat_map (λ frame. frame) frames) in
    omega (arith, first, rest, both)

-- joined values have the bound of their frames
pub small_in_frames : (frames : List (List ℤ)) → RowsWithin 127 frames → AllWithin 127 (flat_map (λ frame. frame) frames)
small_in_frames [] each = All-nil (λ z. nat_abs z ≤ 127)
small_in_frames (frame ∷ frames) each =
    All-append (λ z. nat_abs z ≤ 127) frame (flat_map (λ frame. frame) frames) (All-head (AllWithin 127) frame frames each)
    (small_in_frames frames (All-tail (AllWithin 127) frame frames each))

-- ---- the reading of 40 bits, from any bit

-- an item depends on its index modulo 120
same_rest : (i j : ℕ) → i % 120 ≡ j % 120 → item_of 40 i ≡ item_of 40 j
unfolding item_of
same_rest i j e = rw e refl

-- the reading repeats after 120 bits
goes_round_from : (first : ℕ) → GoesRound 120 (λ i. item_of 40 (first + i))
goes_round_from first = record { again = again; once = once }
  where
    again : (q i : ℕ) → i < 120 → item_of 40 (first + (q * 120 + i)) ≡ item_of 40 (first + i)
    again q i below = same_rest (first + (q * 120 + i)) (first + i) (omega arith)

    once : (i j : ℕ) → i < 120 → j < 120 → item_of 40 (first + i) ≡ item_of 40 (first + j) → i ≡ j
    once i j hi hj e =
        let a : ℕ = (first + i) % 120 in
        let b : ℕ = (first + j) % 120 in
        let here : item_of 40 a ≡ item_of 40 b = same_rest a (first + i) (omega arith) ∙ e ∙ same_rest (first + j) b (omega arith) in
        let same : a ≡ b = (permuting 40 (omega arith) (omega arith)).reads.once a b (omega arith) (omega arith) here in
        omega (arith, same, hi, hj)

-- ---- sums

pub length-summed_values : (identity first : ℕ) (received : List ℤ) → length (summed_values identity first received) ≡ 40
unfolding summed_values
length-summed_values identity first received =
    length-summed_by (λ i. item_of 40 (first + i)) 40 (descrambled (pbch_c_init identity) first received)

-- over four frames each sum is within 2,032
pub summed_values-small : (identity first : ℕ) (received : List ℤ) → AllWithin 127 received → length received ≤ 1920 → RowsWithin 2032 (summed_values identity first received)
unfolding summed_values summed_by
summed_values-small identity first received small few =
    let values = descrambled (pbch_c_init identity) first received in
    let many = length-descrambled (pbch_c_init identity) first received in
    let sum : ℕ → ℕ → ℤ = λ p t. summed_at (λ i. item_of 40 (first + i)) values (length values) t p in
    values_below-All (AllWithin 2032) 40 (λ p. values_below 3 (sum p)) []
    (λ p _. values_below-All (λ sum. nat_abs sum ≤ 2032) 3 (sum p) (pos 0) (λ t _. summed_at-small 120 (λ i. item_of 40 (first + i)) values 127 16 (goes_round_from first)
    (descrambled-small 127 (pbch_c_init identity) first received small) (omega (arith, many, few)) t p))

pub length-summed_values_row : (identity first : ℕ) (received : List ℤ) (k : ℕ) (d : List ℤ) → k < 40 → length (get_or (summed_values identity first received) k d) ≡ 3
unfolding summed_values
length-summed_values_row identity first received k d below =
    length-summed_by_row (λ i. item_of 40 (first + i)) 40 (descrambled (pbch_c_init identity) first received) k d below
