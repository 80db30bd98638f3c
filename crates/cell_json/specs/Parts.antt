-- The values of a description, without a check of their ranges. (own)
use Rattle.std.specs.Prelude.{◌≡◌, codes}
use Rattle.serde_json.specs.Data.{Data}
use Rattle.cell_json.specs.declared.description.Sending.{Sending}
use Rattle.cell_json.specs.declared.description.Numbers.{Numbers}
use Rattle.cell_json.specs.Description.{number_at}

-- the frame number, offset and sample count in `d` are the description's, 0 where the key has no integer
pub record HasSending (d : Sending) (json : Data) : Type 0 where
  pub sfn : d.sfn ≡ number_at (codes "sfn") json
  pub offset : d.offset ≡ number_at (codes "offset") json
  pub samples : d.samples ≡ number_at (codes "samples") json

-- the plan's numbers in `d` are the description's, 0 where the key has no integer
pub record HasNumbers (d : Numbers) (json : Data) : Type 0 where
  pub identity : d.identity ≡ number_at (codes "identity") json
  pub spare : d.spare ≡ number_at (codes "spare") json
  pub cfi : d.cfi ≡ number_at (codes "cfi") json
  pub start : d.start ≡ number_at (codes "start") json
  pub blocks : d.blocks ≡ number_at (codes "blocks") json
  pub mcs : d.mcs ≡ number_at (codes "mcs") json
  pub column : d.column ≡ number_at (codes "column") json
