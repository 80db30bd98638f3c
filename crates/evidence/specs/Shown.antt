-- Measurements of an entry and its slot, with the bits of its MIB and its SIB1. (own)
use Rattle.std.specs.Prelude.{◌≡◌, Bool, List, [], ◌∷◌}
use Rattle.cs_num.specs.declared.Sample.{Sample}
use Rattle.lte_types.specs.declared.entry.Entry.{Entry}
use Rattle.explain.specs.Receiver.{Receiver}
use Rattle.explain.specs.Entries.{place_of}
use Rattle.evidence.specs.Blocks.{master_bits, IsSystemBlock}
use Rattle.evidence.specs.declared.measured.Measured.{Measured}
use Rattle.evidence.specs.Evidence.{SlotShown, shown_in, IsMeasuredFor}

-- measurements of an entry and its slot, with the bits of its MIB and of its SIB1's transport block
pub record Shown : Type 0 where
  pub measured : Measured
  pub slot : SlotShown
  pub master : List Bool
  pub block : List Bool

-- `shown` with these bits as those of SIB1's transport block; without bits it stays the same
abbrev pub with_bits : Shown → List Bool → Shown
with_bits shown [] = shown
with_bits shown (bit ∷ bits) = record shown { block = bit ∷ bits }

-- each of a list with the bits at its index in `blocks`
unfoldable pub with_blocks : List Shown → List (List Bool) → List Shown
with_blocks [] blocks = []
with_blocks (shown ∷ rest) [] = shown ∷ rest
with_blocks (shown ∷ rest) (bits ∷ blocks) = with_bits shown bits ∷ with_blocks rest blocks

-- `shown` holds the entry's measurements and bits, as `receiver` reads them
pub record IsShownFor (receiver : Receiver) (recording : List Sample) (entry : Entry) (shown : Shown) : Type 0 where
  pub measured : IsMeasuredFor receiver recording entry shown.measured
  pub slot : shown.slot ≡ shown_in receiver.carrier recording (place_of entry) entry.frame
  pub master : shown.master ≡ master_bits entry.mib
  pub block : IsSystemBlock receiver recording entry shown.block
