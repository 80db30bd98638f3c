-- The first frame's broadcast channel of a cell whose pairs have soft values with the signs of their bits, whatever else
-- its ports send: the soft values have the signs of the MIB's coded bits.
use Rattle.std.proofs.Common.{◌≡◌, ℕ, ◌+◌, ◌*◌, ◌/◌, ◌%◌, ◌<◌, ◌≤◌, Bool, true, arith, ap, subst, ◌∙◌, List, length, ℤ}
use Rattle.std.proofs.Math.Path.{fun_ext}
use Rattle.std.proofs.lemmas.Bool.Decides.{nat_tests}
use Rattle.cs_num.specs.declared.Cpx.{Cpx}
use Rattle.cs_num.specs.declared.Sample.{Sample}
use Rattle.grid_map.specs.declared.Place.{Place}
use Rattle.grid_map.specs.Broadcast.{pbch_places, pbch_place, is_pbch}
use Rattle.grid_map.specs.Scrambling.{pbch_c_init}
use Rattle.pbch.specs.Values.{received_values_by}
use Rattle.grid_map.proofs.Points.{length-pbch_places, places_inside}
use Rattle.lte_types.specs.Timing.{start_of, number_at_start}
use Rattle.soft_bits.specs.Pairs.{pair_at, paired_by}
use Rattle.soft_bits.specs.Soft.{SeenSlot}
use Rattle.cell_grid.specs.declared.antenna.Port.{Port}
use Rattle.cell_plan.specs.declared.cell.CellPlan.{CellPlan}
use Rattle.cell_grid.specs.Ports.{IsPortOf, sent_point}
use Rattle.cell_grid.specs.Points.{point_of}
use Rattle.cell_grid.specs.Block.{port_word}
use Rattle.cell_grid.specs.Grid.{Elements}
use Rattle.explain.specs.Frame.{seen_slot, broadcast_slot}
use Rattle.clean_air.specs.Load.{CarriesPlan}
use Rattle.clean_air.specs.Carried.{SpeakOfWord, AreHeard}
use Rattle.clean_air.proofs.Speaking.{heard_bits_speak}
use Rattle.clean_air.proofs.SentBlock.{is_block}
use Rattle.clean_air.proofs.SentSlots.{slot_grid, points_stand}
use Rattle.two_ports.specs.Received.{PairsSpeak}
use Rattle.two_ports.proofs.Heard.{SpeakAs, paired_heard}
use Rattle.two_ports.proofs.Senders.{pairing_of, carrier, sender, sent_bits, is_sender, pair_carried}

-- each resource element of the broadcast channel is on one of the 72 subcarriers
on_subcarrier : (identity : ℕ) (p : Place) → is_pbch identity p ≡ true → p.k < 72
unfolding is_pbch
on_subcarrier identity p e = grind (arith, nat_tests)

module _ (four : Bool) (recording : List Sample) (plan : CellPlan) (grids : Port → Elements) (sfn offset : ℕ) (carries : (port : Port) → IsPortOf (carrier four) port → CarriesPlan port plan (grids port))
    (speak : PairsSpeak (pairing_of four) 1 (λ p. slot_grid (grids (sender four p)) ((number_at_start sfn offset + 0) % 1024) 1) (broadcast_slot recording plan.identity (start_of offset) 0)) where
  abbrev number : ℕ
  number = (number_at_start sfn offset + 0) % 1024

  abbrev slot : SeenSlot
  slot = broadcast_slot recording plan.identity (start_of offset) 0

  abbrev bits : ℕ → Bool
  bits = sent_bits (sender four 0) plan number

  abbrev values : List ℤ
  values = received_values_by (paired_by (pairing_of four)) slot

  -- the element that a port sends for symbol i
  point_sent : (p i : ℕ) → i < 240 → slot_grid (grids (sender four p)) number 1 ((pbch_place plan.identity i).symbol % 7) (pbch_place plan.identity i).k ≡ sent_point (sender four p) (point_of bits) i
  point_sent p i inside =
      let is = is_sender four p in
      points_stand (sender four p) is.seven plan (grids (sender four p)) (carries (sender four p) is.own) number i inside
      ∙ ap (λ (points : ℕ → Cpx). sent_point (sender four p) points i) (fun_ext (is.points plan number))

  values_heard : AreHeard 1 480 bits values
  unfolding seen_slot pbch_place
  values_heard =
      subst (λ n. AreHeard 1 n bits values) (let size = length-pbch_places plan.identity in omega (arith, size))
      (paired_heard (pairing_of four) (λ p. slot) (pbch_places plan.identity) bits (let size = length-pbch_places plan.identity in omega (arith, size)) each)
    where
      each : (i : ℕ) → i < length (pbch_places plan.identity) / 2 → SpeakAs bits i (pair_at (pairing_of four) (λ p. slot) (pbch_places plan.identity) i)
      each i l =
          let size = length-pbch_places plan.identity in
          let a : 2 * i < 240 = omega (arith, l, size) in
          let b : 2 * i + 1 < 240 = omega (arith, l, size) in
          let p = pbch_place plan.identity (2 * i) in
          let q = pbch_place plan.identity (2 * i + 1) in
          let grid : ℕ → ℕ → ℕ → Cpx = λ p. slot_grid (grids (sender four p)) number 1 in
          let carry = pair_carried four (point_of bits) i grid p q (λ n. point_sent n (2 * i) a) (λ n. point_sent n (2 * i + 1) b) in
          speak i p q _ _ _ _ (on_subcarrier plan.identity p (places_inside plan.identity (2 * i) a)) (on_subcarrier plan.identity q (places_inside plan.identity (2 * i + 1) b)) carry

  -- the values have the signs of the word for the first frame's number and the port count
  pub word_speaks : number_at_start sfn offset ≤ 1023 → plan.spare ≤ 1023 →
      SpeakOfWord (pbch_c_init plan.identity) (480 * (number_at_start sfn offset % 4)) (port_word (sender four 0) plan (number_at_start sfn offset)) values
  word_speaks fits spare =
      let size = (is_block (sender four 0) plan number spare (omega arith)).size in
      subst (λ n. SpeakOfWord (pbch_c_init plan.identity) (480 * (n % 4)) (port_word (sender four 0) plan n) values) (let same : number ≡ number_at_start sfn offset = omega (arith, fits) in same)
      (heard_bits_speak 1 480 (pbch_c_init plan.identity) (480 * (number % 4)) (port_word (sender four 0) plan number) values (omega arith) (omega (arith, size)) values_heard)
