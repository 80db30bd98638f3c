-- The keys of a description, and the conditions on their values. (own)
use Rattle.std.specs.Prelude.{ℕ, ◌-◌, ◌/◌, Bool, ◌&&◌, nat_le, if◌then◌else◌, List, [], ◌∷◌, ◌++◌, map, take}
use Rattle.std.specs.Prelude.{replicate, codes, Option, None, is_some, option_map, option_and_then, ℤ, pos, nat_abs}
use Rattle.std.specs.Option.{unwrap_or, option_map_or}
use Rattle.serde_json.specs.Data.{Data, Items, no_items, item}
use Rattle.serde_json.specs.Find.{as_bool, as_str, as_array}
use Rattle.cs_num.specs.declared.Cpx.{Cpx}
use Rattle.cs_num.specs.Complex.{nothing, square, value_at}
use Rattle.cs_num.specs.Gain.{with_parts}
use Rattle.lte_types.specs.declared.carrier.Carrier.{Carrier}
use Rattle.lte_types.specs.Carrier.{ports_of}
use Rattle.lte_types.specs.declared.duration.Duration.{Duration}
use Rattle.lte_types.specs.declared.duration.Duration.TheVariants.{Normal}
use Rattle.lte_types.specs.declared.resource.Resource.{Resource}
use Rattle.lte_types.specs.declared.resource.Resource.TheVariants.{OneSixth}
use Rattle.lte_types.specs.declared.sib1.Sib1.{Sib1}
use Rattle.lte_types.specs.Codes.{duration_named, resource_named}
use Rattle.lte_types.specs.Numerology.{least_samples, most_samples}
use Rattle.cell_plan.specs.declared.cell.CellPlan.{CellPlan}
use Rattle.cell_plan.specs.declared.error.CellError.TheVariants.{Form, Sfn, Offset, Samples, Gain, Sib1Range}
use Rattle.cell_plan.specs.Conditions.{Condition, condition}
use Rattle.cell_plan.specs.Plan.{conditions_of}
use Rattle.cell_plan.specs.Gains.{power_of}
use Rattle.cell_json.specs.Kinds.{whole_of, is_between, null_or, list_of, at_key, has, has_exactly, object_of}
use Rattle.cell_json.specs.Information.{sib1_in}

-- ---- kinds of values in a description

-- the complex number in an array of exactly two integers, real part first, or `None` for other arrays
abbrev pub pair_in : Items → Option Cpx
pair_in (item a (item b no_items)) = option_and_then (λ x. option_map (λ y. with_parts x y) (whole_of b)) (whole_of a)
pair_in _ = None

abbrev pub pair_of : Data → Option Cpx
pair_of json = option_and_then pair_in (as_array json)

-- the phich-Duration that a string names, or `None` if there is no such string
abbrev pub duration_of : Data → Option Duration
duration_of json = option_and_then duration_named (as_str json)

-- the phich-Resource that a string names, or `None` if there is no such string
abbrev pub resource_of : Data → Option Resource
resource_of json = option_and_then resource_named (as_str json)

-- ---- keys and their kinds

-- tests for the keys of a network identity (PLMN): each has a value of its type
abbrev pub network_keys : List (Data → Bool)
network_keys =
    has (codes "mcc") (null_or as_str)
    ∷ has (codes "mnc") as_str
    ∷ has (codes "reserved") as_bool
    ∷ []

-- tests for the keys of a schedule entry: each has a value of its type
abbrev pub message_keys : List (Data → Bool)
message_keys =
    has (codes "period") whole_of
    ∷ has (codes "sibs") (list_of whole_of)
    ∷ []

-- tests for the keys of cellAccessRelatedInfo: each has a value of its type
unfoldable pub access_keys : List (Data → Bool)
access_keys =
    has (codes "plmns") (list_of (object_of network_keys))
    ∷ has (codes "tac") whole_of
    ∷ has (codes "cell") whole_of
    ∷ has (codes "barred") as_bool
    ∷ has (codes "intra") as_bool
    ∷ has (codes "csg") as_bool
    ∷ has (codes "csg_identity") (null_or whole_of)
    ∷ []

-- tests for the keys of cellSelectionInfo, p-Max and freqBandIndicator: each has a value of its type
unfoldable pub selection_keys : List (Data → Bool)
selection_keys =
    has (codes "q_rx") whole_of
    ∷ has (codes "q_offset") (null_or whole_of)
    ∷ has (codes "p_max") (null_or whole_of)
    ∷ has (codes "band") whole_of
    ∷ []

-- tests for the keys of the schedule and systemInfoValueTag: each has a value of its type
unfoldable pub schedule_keys : List (Data → Bool)
schedule_keys =
    has (codes "scheduling") (list_of (object_of message_keys))
    ∷ has (codes "window") whole_of
    ∷ has (codes "tag") whole_of
    ∷ []

-- tests for the 14 keys of SystemInformationBlockType1: each has a value of its type
abbrev pub sib1_keys : List (Data → Bool)
sib1_keys = access_keys ++ selection_keys ++ schedule_keys

-- tests for the transmission's keys: `sfn`, `offset` and `samples` each have a 64-bit integer
unfoldable pub sending_keys : List (Data → Bool)
sending_keys =
    has (codes "sfn") whole_of
    ∷ has (codes "offset") whole_of
    ∷ has (codes "samples") whole_of
    ∷ []

-- tests for the plan's keys: `identity`, `spare`, `cfi`, `start`, `blocks`, `mcs` and `column` each have a 64-bit
-- integer
unfoldable pub number_keys : List (Data → Bool)
number_keys =
    has (codes "identity") whole_of
    ∷ has (codes "spare") whole_of
    ∷ has (codes "cfi") whole_of
    ∷ has (codes "start") whole_of
    ∷ has (codes "blocks") whole_of
    ∷ has (codes "mcs") whole_of
    ∷ has (codes "column") whole_of
    ∷ []

-- the keys for the gains of four antenna ports, in port order
abbrev pub gain_names : List (List ℕ)
gain_names = codes "gain" ∷ codes "gain2" ∷ codes "gain3" ∷ codes "gain4" ∷ []

-- tests for the gain keys of the transmission scheme's ports: each has a pair of integers
abbrev pub gain_keys : Carrier → List (Data → Bool)
gain_keys carrier = map (λ name. has name pair_of) (take (ports_of carrier) gain_names)

-- tests for all keys of a description, for a transmission scheme; `has_form` states that a JSON value passes all tests
-- and has no other key
abbrev pub keys : Carrier → List (Data → Bool)
keys carrier =
    sending_keys
    ++ number_keys
    ++ has (codes "duration") duration_of
    ∷ has (codes "resource") resource_of
    ∷ has (codes "sib1") (object_of sib1_keys)
    ∷ gain_keys carrier

abbrev pub has_form : Carrier → Data → Bool
has_form carrier json = has_exactly (keys carrier) json

-- ---- values at the keys

-- the integer at a key, or 0 if the key has no integer
abbrev pub number_at : List ℕ → Data → ℤ
number_at key json = unwrap_or (at_key whole_of key json) (pos 0)

-- the gain at a key, or 0 if the key has no pair of integers
abbrev pub gain_by : List ℕ → Data → Cpx
gain_by key json = unwrap_or (at_key pair_of key json) nothing

-- the gain of antenna port 0
abbrev pub gain_at : Data → Cpx
gain_at json = gain_by (codes "gain") json

-- four gains in port order, with 0 for ports beyond the transmission scheme's port count
abbrev pub gains_at : Carrier → Data → List Cpx
gains_at carrier json =
    map (λ name. gain_by name json) (take (ports_of carrier) gain_names) ++ replicate (4 - ports_of carrier) nothing

abbrev pub duration_at : Data → Duration
duration_at json = unwrap_or (at_key duration_of (codes "duration") json) Normal

abbrev pub resource_at : Data → Resource
resource_at json = unwrap_or (at_key resource_of (codes "resource") json) OneSixth

-- a description's SystemInformationBlockType1, or `None` if a value in it is missing or out of range
abbrev pub sib1_at : Data → Option Sib1
sib1_at json = at_key sib1_in (codes "sib1") json

-- a number in a plan's field; a number that is negative or above `most` becomes `most`, which no condition accepts
abbrev pub in_field : ℕ → ℤ → ℕ
in_field most z = if is_between (pos 0) (pos most) z then nat_abs z else most

-- the plan that a description gives, with `sib1` as its SystemInformationBlockType1
abbrev pub plan_of : Data → Sib1 → CellPlan
plan_of json sib1 = record {
  identity = in_field 65535 (number_at (codes "identity") json);
  duration = duration_at json;
  resource = resource_at json;
  spare = in_field 65535 (number_at (codes "spare") json);
  cfi = in_field 255 (number_at (codes "cfi") json);
  start = in_field 255 (number_at (codes "start") json);
  blocks = in_field 255 (number_at (codes "blocks") json);
  mcs = in_field 255 (number_at (codes "mcs") json);
  column = in_field 255 (number_at (codes "column") json);
  sib1 = sib1;
}

-- ---- the conditions

-- whether the gains are a clean recording's, except that a transmit diversity pair may be weak: port 0's gain is not 0,
-- and the total power is at most 784 divided by the port count
abbrev pub are_gains : Carrier → List Cpx → Bool
are_gains carrier gains =
    nat_le 1 (square (value_at gains 0)) && nat_le (power_of carrier gains) (784 / ports_of carrier)

-- the conditions on the plan that a description gives, or none if a value in its SystemInformationBlockType1 is out of
-- range
unfoldable pub cell_conditions : Carrier → Data → List Condition
cell_conditions carrier json =
    option_map_or (λ sib1. conditions_of carrier (plan_of json sib1)) (sib1_at json) []

-- all conditions in order: the form, the transmission's numbers, the gains, the ranges of SystemInformationBlockType1,
-- and the conditions on the plan
abbrev pub conditions : Carrier → Data → List Condition
conditions carrier json =
    condition (has_form carrier json) Form
    ∷ condition (is_between (pos 0) (pos 1023) (number_at (codes "sfn") json)) Sfn
    ∷ condition (is_between (pos 0) (pos 19199) (number_at (codes "offset") json)) Offset
    ∷ condition (is_between (pos least_samples) (pos most_samples) (number_at (codes "samples") json)) Samples
    ∷ condition (are_gains carrier (gains_at carrier json)) Gain
    ∷ condition (is_some (sib1_at json)) Sib1Range
    ∷ cell_conditions carrier json
