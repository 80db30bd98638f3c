-- The encoding of SystemInformationBlockType1 as a function of its fields. (own)
use Rattle.std.specs.Prelude.{Bool, List, Option}
use Rattle.lte_types.specs.declared.sib1.Sib1.{Sib1}
use Rattle.lte_types.specs.Same.{same_fields}
use Rattle.uper.specs.Texts.{first_text}
use Rattle.sib1.specs.Layout.{sib1}

-- the first encoding of `fields` in the layout, or None if there is none
unfoldable pub text_of : Sib1 → Option (List Bool)
text_of fields = first_text (same_fields fields) sib1
