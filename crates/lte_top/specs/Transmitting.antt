-- The samples of a described cell, as bytes. (own)
use Rattle.std.specs.Prelude.{◌≡◌, ℕ, Option, List}
use Rattle.finite.specs.Lists.{values_below}
use Rattle.cs_num.specs.declared.Sample.{Sample}
use Rattle.cs_num.specs.Complex.{sample_of}
use Rattle.cs_outside.specs.Outside.{SourceState}
use Rattle.cs_outside.specs.Streams.{HasReadAll}
use Rattle.lte_types.specs.declared.carrier.Carrier.{Carrier}
use Rattle.sample_file.specs.Recording.{bytes_of}
use Rattle.cell_plan.specs.declared.emission.Emission.{Emission}
use Rattle.cell_tx.specs.Emission.{received_by}
use Rattle.cell_json.specs.Reading.{DescribesBy}

-- the maximum length of a description in bytes
abbrev pub most_description_bytes : ℕ
most_description_bytes = 65536

-- the samples of emission `e`, with load number `load` if there is one
unfoldable pub sent_samples : Option ℕ → Emission → List Sample
sent_samples load e =
    values_below e.samples
    (λ i. sample_of (received_by e.carrier load e.cell e.timing.sfn e.timing.offset e.gains i))

-- `output` is the samples of the emission that `bytes` describes, with load number `load` if there is one
pub record IsTransmitted (carrier : Carrier) (load : Option ℕ) (bytes output : List ℕ) : Type 0 where
  pub emission : Emission
  pub describes : DescribesBy carrier bytes emission
  pub sent : output ≡ bytes_of (sent_samples load emission)

-- a description of emission `e` was read to the end of the input
pub record HasDescription (carrier : Carrier) (e : Emission) (before now : SourceState) : Type 0 where
  pub bytes : List ℕ
  pub whole : HasReadAll most_description_bytes bytes before now
  pub describes : DescribesBy carrier bytes e
