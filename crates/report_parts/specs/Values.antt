-- The data in values and fields. (own)
use Rattle.std.specs.Prelude.{List, map}
use Rattle.serde_json.specs.Data.{Data}
use Rattle.serde_json.specs.View.{view}
use Rattle.report_parts.specs.Fields.{NamedData}
use Rattle.report_parts.specs.declared.value.Value.{Value}
use Rattle.report_parts.specs.declared.fields.Field.{Field}

-- the JSON data of a value
abbrev pub data_of : Value → Data
data_of value = view value.json

-- a field's name and the JSON data of its value
abbrev pub named_of : Field → NamedData
named_of field = (field.name.now, data_of field.value)

-- the names and the JSON data of fields
abbrev pub fields_of : List Field → List NamedData
fields_of fields = map named_of fields
