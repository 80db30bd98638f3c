-- Slots in a recording that is faithful to a cell's ports, whatever else they send: each slot that is read is received
-- as it was sent.
use Rattle.std.proofs.Common.{◌≡◌, ℕ, ◌+◌, ◌*◌, ◌/◌, ◌%◌, ◌<◌, ◌≤◌, Bool, true, false, None, Some, inl, inr, arith, refl, sym, subst, ◌∙◌, List, []}
use Rattle.std.specs.Prelude.{if◌then◌else◌, ◌⊎◌}
use Rattle.std.proofs.Math.Path.{fun_ext}
use Rattle.finite.proofs.Lists.{values_below_at}
use Rattle.cs_num.specs.declared.Cpx.{Cpx}
use Rattle.cs_num.specs.declared.Sample.{Sample}
use Rattle.cs_num.specs.Complex.{nothing, value_at}
use Rattle.norms.specs.Magnitudes.{energy_below}
use Rattle.fold128.specs.Symbol.{useful_at}
use Rattle.observe.specs.Seen.{seen_symbol}
use Rattle.soft_bits.specs.Lines.{Line, line_of, line_place}
use Rattle.soft_bits.specs.Soft.{SeenSlot}
use Rattle.soft_bits.proofs.Lines.{is_line}
use Rattle.cell_grid.specs.declared.antenna.Port.{Port}
use Rattle.cell_plan.specs.declared.cell.CellPlan.{CellPlan}
use Rattle.cell_grid.specs.Grid.{port_element}
use Rattle.cell_tx.specs.Emission.{mixed}
use Rattle.cell_grid.specs.Ports.{IsPortOf, port_symbols, is_own_reference, is_other_reference}
use Rattle.cell_grid.specs.Rows.{port_reference_if}
use Rattle.cell_grid.specs.Grid.{Elements}
use Rattle.cell_grid.proofs.Elements.{element_of_reference}
use Rattle.clean_air.specs.Faithful.{IsFaithfulBy, IsLittle, IsLookedAt, first_frame_of}
use Rattle.clean_air.specs.Load.{CarriesPlan}
use Rattle.clean_air.proofs.Carrying.{of_own_reference, of_other_reference}
use Rattle.clean_air.proofs.SentSlots.{slot_grid, frame_is}
use Rattle.clean_air.proofs.SentSymbols.{symbol_off}
use Rattle.lte_types.specs.declared.numerology.Prefix.{Prefix}
use Rattle.lte_types.specs.Carrier.{ports_of}
use Rattle.lte_types.specs.Numerology.{normal, symbols_of_slot, useful_start}
use Rattle.lte_types.specs.Timing.{start_of, number_at_start}
use Rattle.explain.specs.Frame.{frame_at, seen_slot}
use Rattle.budget.specs.Received.{off_by, IsReceivedBy, samples_from}
use Rattle.two_ports.specs.Received.{only, IsSlotReceived, PairsSpeak, SpeakReceivedWith}
use Rattle.two_ports.proofs.Senders.{pairing_of, quota_of, carrier, sender, is_normal, is_sender, all, sounds, quiet, reference}

-- ---- the reference signals

-- a reference signal at a resource element is the port's own or another port's
whose : (own other : Bool) (here value : Cpx) → (if own then Some here else (if other then Some nothing else None)) ≡ Some value → (own ≡ true) ⊎ (other ≡ true)
whose true other here value e = inl refl
whose false true here value e = inr refl
whose false false here value e = absurd cc

-- elements that carry the plan have the plan's reference signals
carried : (port : Port) (plan : CellPlan) (grid : Elements) → port_symbols port ≡ 7 → CarriesPlan port plan grid → (number slot l k : ℕ) (value : Cpx) → l < 7 →
    port_reference_if port plan.identity slot l k ≡ Some value → slot_grid grid number slot l k ≡ value
carried port plan grid seven carries number slot l k value inside is = same ∙ sym (element_of_reference port plan number (slot / 2) symbol k value there)
  where
    symbol : ℕ
    symbol = 7 * (slot % 2) + l

    -- the same by the subframe's symbol
    at : (P : ℕ → ℕ → Type 0) → P slot l → P (2 * (slot / 2) + (7 * (slot % 2) + l) / port_symbols port) ((7 * (slot % 2) + l) % port_symbols port)
    at P here =
        subst (λ n. P (2 * (slot / 2) + (7 * (slot % 2) + l) / n) ((7 * (slot % 2) + l) % n)) (sym seven)
        (let row : (7 * (slot % 2) + l) % 7 ≡ l = omega (arith, inside) in
        let back : 2 * (slot / 2) + (7 * (slot % 2) + l) / 7 ≡ slot = omega (arith, inside) in
        subst (λ m. P (2 * (slot / 2) + (7 * (slot % 2) + l) / 7) m) (sym row) (subst (λ m. P m l) (sym back) here))

    there : port_reference_if port plan.identity (2 * (slot / 2) + (7 * (slot % 2) + l) / port_symbols port) ((7 * (slot % 2) + l) % port_symbols port) k ≡ Some value
    there = at (λ s row. port_reference_if port plan.identity s row k ≡ Some value) is

    same : slot_grid grid number slot l k ≡ slot_grid (port_element port plan) number slot l k
    same = elim (whose (is_own_reference port plan.identity slot l k) (is_other_reference port plan.identity slot l k) _ value is) [
      | inl own ↦ of_own_reference port plan grid carries number (slot / 2) (7 * (slot % 2) + l) k (at (λ s row. is_own_reference port plan.identity s row k ≡ true) own)
      | inr other ↦ of_other_reference port plan grid carries number (slot / 2) (7 * (slot % 2) + l) k (at (λ s row. is_other_reference port plan.identity s row k ≡ true) other)
    ]

-- in elements that carry the plan, the reference signals of each port stand alone
pub references_alone : (four : Bool) (plan : CellPlan) (grids : Port → Elements) → ((port : Port) → IsPortOf (carrier four) port → CarriesPlan port plan (grids port)) →
    (recording : List Sample) (f number slot p i q : ℕ) → let line : Line = line_of (carrier four) p (seen_slot recording f slot plan.identity) in
    p < ports_of (carrier four) → i ≤ line.last → q < ports_of (carrier four) →
    slot_grid (grids (sender four q)) number slot (line.symbol i) (line_place line i) ≡ only p (line.sent i) q
unfolding seen_slot
references_alone four plan grids carries recording f number slot p i q below last other =
    let seen : SeenSlot = seen_slot recording f slot plan.identity in
    let line : Line = line_of (carrier four) p seen in
    let row = (is_line (carrier four) p seen).row i in
    carried (sender four q) plan (grids (sender four q)) (is_sender four q).seven (carries (sender four q) (is_sender four q).own) number slot (line.symbol i) (line_place line i) _ (omega (arith, row))
    (reference four seen p q i below other)

-- ---- the slots

module _ (four : Bool) (recording : List Sample) (plan : CellPlan) (grids : Port → Elements) (sfn offset : ℕ) (gains : List Cpx) (faithful : IsFaithfulBy (carrier four) recording plan grids sfn offset gains) where
  abbrev IsSymbolReceived : ℕ → ℕ → ℕ → ℕ → Type 0
  IsSymbolReceived number slot l t = IsReceivedBy (ports_of (carrier four)) (quota_of four) (value_at gains) (λ p. slot_grid (grids (sender four p)) number slot l) (samples_from recording t)

  -- a symbol that the receiver reads is received from all ports
  received_at : (t frame slot l : ℕ) → slot < 20 → l < 7 → t + offset ≡ 19200 * frame + useful_start normal 0 slot l → IsLookedAt (carrier four) sfn offset frame slot l t → IsSymbolReceived ((sfn + frame) % 1024) slot l t
  received_at t frame slot l few row place looked = record {
    sounds = sounds four gains faithful.gains_are;
    quiet = quiet four gains _ (subst Little (fun_ext (λ n. all four (λ p. useful_at (slot_grid (grids p) ((sfn + frame) % 1024) slot l) n) gains))
        (subst (λ (prefix : Prefix). l < symbols_of_slot prefix → t + offset ≡ 19200 * frame + useful_start prefix 0 slot l →
        Little (λ n. mixed (carrier four) (λ p. useful_at (grids p ((sfn + frame) % 1024) (slot / 2) (symbols_of_slot prefix * (slot % 2) + l)) n) gains)) (is_normal four)
        (λ low at. symbol_off (carrier four) recording plan grids sfn offset gains faithful frame slot l t few low at looked) row place));
  }
    where
      Little : (ℕ → Cpx) → Type 0
      Little values = IsLittle (carrier four) gains (energy_below 128 (off_by (samples_from recording t) values))

  -- a slot that the receiver reads is received
  pub each_slot_received : (j slot : ℕ) → slot < 20 → ((l start : ℕ) → IsLookedAt (carrier four) sfn offset (first_frame_of offset + j) slot l start) →
      IsSlotReceived (carrier four) (quota_of four) (value_at gains) recording (useful_start normal (frame_at (start_of offset) j) slot) (λ p. slot_grid (grids (sender four p)) ((number_at_start sfn offset + j) % 1024) slot)
      (seen_slot recording (frame_at (start_of offset) j) slot plan.identity)
  unfolding seen_slot
  each_slot_received j slot few looked =
      let number : ℕ = (number_at_start sfn offset + j) % 1024 in
      let start : ℕ → ℕ = useful_start normal (frame_at (start_of offset) j) slot in
      let frame = frame_is sfn offset j faithful.number faithful.within in
      record {
        seen = λ l inside. values_below_at (λ symbol. seen_symbol recording (start symbol)) 7 l [] inside;
        amplitudes = λ p l below inside. (faithful.carries (sender four p) (is_sender four p).own).small number (slot / 2) (7 * (slot % 2) + l);
        received = λ l inside. subst (λ m. IsSymbolReceived m slot l (start l)) frame.number
            (received_at (start l) (first_frame_of offset + j) slot l few inside (omega (arith, frame.place)) (looked l (start l)));
        pilots = references_alone four plan grids faithful.carries recording (frame_at (start_of offset) j) number slot;
      }

  -- the pairs of a slot that the receiver reads have soft values with the signs of their bits
  pub faithful_pairs_speak : SpeakReceivedWith (value_at gains) (pairing_of four) (quota_of four) 1 →
      (j slot : ℕ) → slot < 20 → ((l start : ℕ) → IsLookedAt (carrier four) sfn offset (first_frame_of offset + j) slot l start) →
      PairsSpeak (pairing_of four) 1 (λ p. slot_grid (grids (sender four p)) ((number_at_start sfn offset + j) % 1024) slot) (seen_slot recording (frame_at (start_of offset) j) slot plan.identity)
  faithful_pairs_speak speak j slot few looked =
      speak recording (useful_start normal (frame_at (start_of offset) j) slot) (λ p. slot_grid (grids (sender four p)) ((number_at_start sfn offset + j) % 1024) slot)
      (seen_slot recording (frame_at (start_of offset) j) slot plan.identity) (each_slot_received j slot few looked)
