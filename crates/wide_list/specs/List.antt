-- The list of a wide recording: the list of the recording at 1.92 million samples per second, with SIB1 from the wide
-- samples where it is missing. (own)
use Rattle.std.specs.Prelude.{◌≡◌, ℕ, Bool, true, false, not, ◌&&◌, ◌||◌, nat_eq, List, slice_set, Result, is_err}
use Rattle.std.specs.List.{AllZip, HoldsAt}
use Rattle.lte_types.specs.declared.carrier.Carrier.{Carrier}
use Rattle.lte_types.specs.declared.entry.Entry.{Entry}
use Rattle.lte_types.specs.declared.sib1.Sib1.{Sib1}
use Rattle.lte_types.specs.declared.sib1_reason.Sib1Reason.{Sib1Reason}
use Rattle.lte_types.specs.Carrier.{prefix_of}
use Rattle.lte_types.specs.Numerology.{is_extended}
use Rattle.halving.specs.Wide.{Wide, narrowed}
use Rattle.wide_cell.specs.Cell.{Cell, blocks_of, fits_rate}
use Rattle.explain.specs.Receiver.{Receiver}
use Rattle.explain.specs.Entries.{IsListFor, with_system}
use Rattle.wide_list.specs.System.{IsWideSystem}

-- the cell that an entry's MIB describes
abbrev pub cell_of : Entry → Cell
cell_of entry = record {
  identity = entry.id;
  ports = entry.ports;
  blocks = blocks_of entry.mib.bandwidth;
  duration = entry.mib.duration;
  resource = entry.mib.resource;
}

-- whether a cell has one, two or four antenna ports
abbrev pub has_ports : ℕ → Bool
has_ports ports = nat_eq ports 1 || nat_eq ports 2 || nat_eq ports 4

-- whether an entry's SIB1 is read from wide samples: it is missing, the cyclic prefix is the normal one, the cell has
-- one, two or four antenna ports, and the rate contains all its subcarriers
abbrev pub is_read_wide : Carrier → ℕ → Entry → Bool
is_read_wide carrier rate entry =
    is_err entry.sib1 && not (is_extended (prefix_of carrier)) && has_ports entry.ports
    && fits_rate (cell_of entry).blocks rate

-- `after` is the entry `before` with the system information in the wide samples, or the reason for its absence there
pub record HasWideSystem (wide : Wide) (before after : Entry) : Type 0 where
  pub sib1 : Result Sib1 Sib1Reason
  pub system : IsWideSystem wide (cell_of before) before.start before.sfn sib1
  pub is : after ≡ with_system before sib1

-- `after` is the entry `before`, with SIB1 from wide samples if it is read there
pub record IsInformed (carrier : Carrier) (wide : Wide) (before after : Entry) : Type 0 where
  pub read : is_read_wide carrier wide.rate before ≡ true → HasWideSystem wide before after
  pub same : is_read_wide carrier wide.rate before ≡ false → after ≡ before

-- the list `new` is `old`, with SIB1 from wide samples in the entry at index `at` if it is read there
pub record InformsAt (carrier : Carrier) (wide : Wide) (at : ℕ) (old new : List Entry) : Type 0 where
  pub after : Entry
  pub informed : HoldsAt (λ before. IsInformed carrier wide before after) old at
  pub new_is : new ≡ slice_set old at after

-- a wide recording's list for a receiver
pub record IsWideListFor (receiver : Receiver) (wide : Wide) (list : List Entry) : Type 0 where
  pub narrow : List Entry
  pub listed : IsListFor receiver (narrowed wide) narrow
  pub informed : AllZip (IsInformed receiver.carrier wide) narrow list
