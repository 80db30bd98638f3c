-- A block's encoding is the one that `text_of` gives.
use Rattle.std.proofs.Common.{◌≡◌, Bool, List, Some, refl, sym, subst}
use Rattle.lte_types.specs.declared.sib1.Sib1.{Sib1}
use Rattle.lte_types.specs.Same.{same_fields}
use Rattle.lte_types.proofs.Same.{fields_decide}
use Rattle.uper.specs.Texts.{IsText}
use Rattle.uper.proofs.FirstText.{first_text_is, first_text_passes}
use Rattle.sib1.specs.Layout.{sib1}
use Rattle.sib1.specs.Text.{text_of}
use Rattle.sib1.proofs.Once.{once_sib1}

pub text_of_is : (text : List Bool) (fields : Sib1) → IsText sib1 text fields → text_of fields ≡ Some text
unfolding text_of
text_of_is text fields s =
    first_text_is (same_fields fields) sib1 text fields s ((fields_decide fields fields).1 refl)
    (λ other y r t. (once_sib1 other text fields (subst (λ x. IsText sib1 other x) (sym ((fields_decide fields y).0 t)) r) s).1)

pub is_text_of : (text : List Bool) (fields : Sib1) → text_of fields ≡ Some text → IsText sib1 text fields
unfolding text_of
is_text_of text fields e =
    let p = first_text_passes (same_fields fields) sib1 text e in
    subst (λ x. IsText sib1 text x) (sym ((fields_decide fields p.value).0 p.passes)) p.is_text
