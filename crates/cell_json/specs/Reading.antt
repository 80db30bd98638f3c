-- Descriptions as bytes, and the emissions that they describe. (own)
use Rattle.std.specs.Prelude.{◌≡◌, ℕ, List, codes, if◌then◌else◌, Option, Some, None, pos}
use Rattle.std.specs.Str.{is_utf8}
use Rattle.serde_json.specs.Data.{Data}
use Rattle.serde_json.specs.Read.{read as value_of_text}
use Rattle.lte_types.specs.declared.carrier.Carrier.{Carrier}
use Rattle.lte_types.specs.declared.carrier.Carrier.TheVariants.{OnePort}
use Rattle.cell_plan.specs.declared.cell.CellPlan.{CellPlan}
use Rattle.cell_plan.specs.declared.emission.Emission.{Emission}
use Rattle.cell_plan.specs.declared.error.CellError.{CellError}
use Rattle.cell_plan.specs.declared.error.CellError.TheVariants.{Form}
use Rattle.cell_plan.specs.declared.transmission.Transmission.{Transmission}
use Rattle.cell_plan.specs.Pair.{gain_of}
use Rattle.cell_plan.specs.Conditions.{first_failed}
use Rattle.cell_json.specs.declared.error.JsonError.{JsonError}
use Rattle.cell_json.specs.declared.error.JsonError.TheVariants.{Cell, OutOfMemory}
use Rattle.cell_json.specs.Description.{number_at, gain_at, gains_at, duration_at, resource_at, sib1_at, conditions}

-- the JSON value that `bytes` encode, or `None` if the bytes are not UTF-8 or not JSON
abbrev pub json_of : List ℕ → Option Data
json_of bytes = if is_utf8 bytes then value_of_text bytes else None

-- the first failed condition for a JSON value and a transmission scheme, or `Form` if there is no JSON value
abbrev pub refusal_of : Carrier → Option Data → Option CellError
refusal_of carrier None = Some Form
refusal_of carrier (Some json) = first_failed (conditions carrier json)

-- the first failed condition for a description and a transmission scheme, or `None` if the description is valid
abbrev pub refusal_by : Carrier → List ℕ → Option CellError
refusal_by carrier bytes = refusal_of carrier (json_of bytes)

-- the first failed condition for a description with one antenna port, or `None` if the description is valid
abbrev pub refusal : List ℕ → Option CellError
refusal bytes = refusal_by OnePort bytes

-- the plan, first frame number, sample offset and sample count are the description's
pub record HasValues (plan : CellPlan) (sfn offset count : ℕ) (json : Data) : Type 0 where
  pub identity : pos plan.identity ≡ number_at (codes "identity") json
  pub duration : plan.duration ≡ duration_at json
  pub resource : plan.resource ≡ resource_at json
  pub spare : pos plan.spare ≡ number_at (codes "spare") json
  pub cfi : pos plan.cfi ≡ number_at (codes "cfi") json
  pub start : pos plan.start ≡ number_at (codes "start") json
  pub blocks : pos plan.blocks ≡ number_at (codes "blocks") json
  pub mcs : pos plan.mcs ≡ number_at (codes "mcs") json
  pub column : pos plan.column ≡ number_at (codes "column") json
  pub sib1 : Some plan.sib1 ≡ sib1_at json
  pub number : pos sfn ≡ number_at (codes "sfn") json
  pub first : pos offset ≡ number_at (codes "offset") json
  pub samples : pos count ≡ number_at (codes "samples") json

-- the emission, without load, that a description gives for a transmission scheme
pub record IsEmissionOf (carrier : Carrier) (json : Data) (e : Emission) : Type 0 where
  pub carrier_is : e.carrier ≡ carrier
  pub values : HasValues e.cell e.timing.sfn e.timing.offset e.samples json
  pub gains : e.gains ≡ gains_at carrier json
  pub load : e.load ≡ None

-- a description meets all conditions, and `e` is the emission that it gives
abbrev pub IsValueOf : Carrier → Data → Emission → Type 0
IsValueOf carrier json e = (first_failed (conditions carrier json) ≡ None) × IsEmissionOf carrier json e

-- `cause` is the first condition that fails for a description and a transmission scheme
abbrev pub IsRefusedFor : Carrier → Data → CellError → Type 0
IsRefusedFor carrier json cause = first_failed (conditions carrier json) ≡ Some cause

-- the bytes are a valid description of emission `e` for a transmission scheme
pub record DescribesBy (carrier : Carrier) (bytes : List ℕ) (e : Emission) : Type 0 where
  pub value : Data
  pub json : json_of bytes ≡ Some value
  pub valid : refusal_by carrier bytes ≡ None
  pub is : IsEmissionOf carrier value e

-- the bytes are a valid description of transmission `t`, which has one antenna port
pub record Describes (bytes : List ℕ) (t : Transmission) : Type 0 where
  pub value : Data
  pub json : json_of bytes ≡ Some value
  pub valid : refusal bytes ≡ None
  pub values : HasValues t.cell t.sfn t.offset t.samples value
  pub gain : gain_of t.gain ≡ gain_at value

-- `Cell` reports the first failed condition; `OutOfMemory` is possible for any bytes
abbrev pub IsRefusedBy : Carrier → List ℕ → JsonError → Type 0
IsRefusedBy carrier bytes (Cell cause) = refusal_by carrier bytes ≡ Some cause
IsRefusedBy carrier bytes OutOfMemory = Unit {0}

abbrev pub IsRefused : List ℕ → JsonError → Type 0
IsRefused bytes error = IsRefusedBy OnePort bytes error
