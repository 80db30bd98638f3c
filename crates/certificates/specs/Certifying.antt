-- Certificates for the entries of a cell list, and the state of the sink while they are written (own).
use Rattle.std.specs.Prelude.{◌≡◌, ◌≤◌, ℕ, List, length}
use Rattle.std.specs.List.{AllZip}
use Rattle.cs_num.specs.declared.Sample.{Sample}
use Rattle.cs_outside.specs.Outside.{SinkState}
use Rattle.cs_outside.specs.Streams.{HasWritten, HasWrittenFront, IsShortOf}
use Rattle.finite.specs.Sizes.{AllWithin}
use Rattle.lte_types.specs.CellPlace.{Place}
use Rattle.lte_types.specs.declared.entry.Entry.{Entry}
use Rattle.pbch.specs.Master.{Decodes, Carries}
use Rattle.explain.specs.Receiver.{Receiver, sums_by}
use Rattle.explain.specs.Entries.{place_of, frames_of}
use Rattle.tail_cert.specs.Certificate.{Held, IsWhole, IsAccepted}
use Rattle.tail_cert.specs.Form.{bytes_of}
use Rattle.tail_cert.specs.Forward.{IsFilled}
use Rattle.certificates.specs.Stream.{all_bytes}

-- the receiver has at most 480 PBCH soft values per frame, each from -127 to 127, so their sums over four frames fit in
-- a certificate
pub record HasSmallValues (receiver : Receiver) : Type 0 where
  pub few : (recording : List Sample) (place : Place) (j : ℕ) → length (receiver.broadcast recording place j) ≤ 480
  pub small : (recording : List Sample) (place : Place) (j : ℕ) → AllWithin 127 (receiver.broadcast recording place j)

-- certificate c certifies an entry's MIB: it is accepted and has the required tables. It holds the receiver's combined
-- soft values for the entry's frames, a minimum-cost word with the entry's port count and MIB, and the word's cost.
pub record Certifies (receiver : Receiver) (samples : List Sample) (entry : Entry) (c : Held) : Type 0 where
  pub whole : IsWhole c
  pub accepted : IsAccepted c
  pub filled : IsFilled c
  pub values : c.values ≡ sums_by receiver samples (place_of entry) (frames_of entry)
  pub word : Decodes c.values c.word entry.ports
  pub block : Carries c.word entry.mib
  pub cost : c.cost ≡ entry.cost

-- `bytes` encode a certificate for `entry`
pub record IsCertificateOf (receiver : Receiver) (samples : List Sample) (entry : Entry) (bytes : List ℕ) : Type 0 where
  pub certificate : Held
  pub certifies : Certifies receiver samples entry certificate
  pub bytes_are : bytes ≡ bytes_of certificate

-- a certificate for the entry was written to the sink
pub record HasCertified (receiver : Receiver) (samples : List Sample) (entry : Entry)
    (before now : SinkState) : Type 0 where
  pub certificate : Held
  pub certifies : Certifies receiver samples entry certificate
  pub written : HasWritten (bytes_of certificate) before now

-- only a prefix of a certificate for the entry was written; the sink's free space, if known, was too small for the
-- complete certificate
pub record HasCertifiedFront (receiver : Receiver) (samples : List Sample) (entry : Entry)
    (before now : SinkState) : Type 0 where
  pub certificate : Held
  pub certifies : Certifies receiver samples entry certificate
  pub front : HasWrittenFront (bytes_of certificate) before now
  pub full : IsShortOf (length (bytes_of certificate)) before

-- certificates for all of `entries` were written to the sink, in order
pub record HasCertifiedAll (receiver : Receiver) (samples : List Sample) (entries : List Entry)
    (before now : SinkState) : Type 0 where
  pub certificates : List Held
  pub each : AllZip (Certifies receiver samples) entries certificates
  pub written : HasWritten (all_bytes certificates) before now

-- only a prefix of the certificates for `entries` was written; the sink's free space, if known, was too small for all
-- certificates
pub record HasCertifiedSome (receiver : Receiver) (samples : List Sample) (entries : List Entry)
    (before now : SinkState) : Type 0 where
  pub certificates : List Held
  pub each : AllZip (Certifies receiver samples) entries certificates
  pub front : HasWrittenFront (all_bytes certificates) before now
  pub full : IsShortOf (length (all_bytes certificates)) before
