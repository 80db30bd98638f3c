use Rattle.std.proofs.Common.{◌≡◌, ℕ, List, refl, ap, ◌∙◌}
use Rattle.finite.specs.Lists.{values_below}
use Rattle.cs_num.specs.declared.Cpx.{Cpx}
use Rattle.cs_num.specs.declared.Sample.{Sample}
use Rattle.lte_types.specs.declared.carrier.Carrier.TheVariants.{LongPrefix}
use Rattle.lte_types.specs.Numerology.{extended, useful_start}
use Rattle.observe.specs.Seen.{seen_symbol}
use Rattle.soft_bits.specs.Kept.{seen_line}
use Rattle.soft_bits.specs.Lines.{line_of, ports_energy}
use Rattle.soft_bits.specs.Soft.{SeenSlot}
use Rattle.soft_bits.proofs.Lines.{energy_of_one}
use Rattle.explain.specs.Frame.{frame_at}
use Rattle.long_prefix.specs.Entries.{long_slot, ArePilots, long_values}
use Rattle.long_prefix.proofs.reading.long_frame.Goals as goal

-- the slot with these symbols is the frame's
slot_is : (recording : List Sample) (identity id start at j : ℕ) (symbols : List (List Cpx)) →
    symbols ≡ values_below 6 (λ symbol. seen_symbol recording (useful_start extended (frame_at at j) 1 symbol)) → id ≡ identity → at ≡ start →
    ◌≡◌ {A = SeenSlot} (record { symbols = symbols; number = 1; identity = id }) (long_slot recording identity start j)
unfolding long_slot
slot_is recording identity id start at j symbols are same begins =
    ap (λ (symbols : List (List Cpx)). let slot : SeenSlot = record { symbols = symbols; number = 1; identity = id } in slot) are
    ∙ ap (λ (id : ℕ). long_slot recording id at j) same ∙ ap (λ (at : ℕ). long_slot recording identity at j) begins

pub returns-clause-pilots : goal.returns-clause-pilots
returns-clause-pilots c =
    c.pilots_of-pilots.ensures
    ∙ ap (λ (s : SeenSlot). seen_line (line_of LongPrefix 0 s) s) (slot_is _ _ _ _ _ _ _ c.symbols_of-symbols.ensures.values c.id.ensures c.start.ensures.value)

pub returns-clause-energy : goal.returns-clause-energy
returns-clause-energy c =
    c.energy_of-energy.ensures.value ∙ ap (ports_energy LongPrefix) (slot_is _ _ _ _ _ _ _ c.symbols_of-symbols.ensures.values c.id.ensures c.start.ensures.value)

pub values_of-requires-clause-pilots : goal.values_of-requires-clause-pilots
unfolding ArePilots
values_of-requires-clause-pilots c = c.pilots_of-pilots.ensures

pub values_of-requires-clause-energy : goal.values_of-requires-clause-energy
values_of-requires-clause-energy c = c.energy_of-energy.ensures.value ∙ energy_of_one LongPrefix _ refl

pub returns-clause-values : goal.returns-clause-values
returns-clause-values c =
    c.new-values.ensures ∙ c.values_of.ensures.values
    ∙ ap long_values (slot_is _ _ _ _ _ _ _ c.symbols_of-symbols.ensures.values c.id.ensures c.start.ensures.value)
