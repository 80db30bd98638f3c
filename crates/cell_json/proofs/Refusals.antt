-- The first failed condition of a description.
use Rattle.std.proofs.Common.{◌≡◌, pos, true, false, List, Option, Some, [], refl, sym, ap, ◌∙◌}
use Rattle.std.specs.Option.{option_map_or}
use Rattle.serde_json.specs.Data.{Data}
use Rattle.cs_num.specs.declared.Cpx.{Cpx}
use Rattle.lte_types.specs.declared.carrier.Carrier.{Carrier}
use Rattle.lte_types.specs.declared.sib1.Sib1.{Sib1}
use Rattle.cell_plan.specs.declared.error.CellError.TheVariants.{Form}
use Rattle.cell_plan.specs.Conditions.{first_failed}
use Rattle.cell_plan.specs.Plan.{conditions_of, refusal_of}
use Rattle.cell_json.specs.declared.description.Sending.{Sending}
use Rattle.cell_json.specs.Kinds.{is_between}
use Rattle.cell_json.specs.Description.{are_gains, has_form, gains_at, sib1_at, plan_of, cell_conditions, conditions}
use Rattle.cell_json.specs.Parts.{HasSending}

pub form_fails : (carrier : Carrier) (json : Data) → has_form carrier json ≡ false → first_failed (conditions carrier json) ≡ Some Form
form_fails carrier json e = rw e refl

-- if SystemInformationBlockType1 is in range, the plan's conditions remain
pub cell_conditions_are : (carrier : Carrier) (json : Data) (sib1 : Sib1) → Some sib1 ≡ sib1_at json → cell_conditions carrier json ≡ conditions_of carrier (plan_of json sib1)
unfolding cell_conditions
cell_conditions_are carrier json sib1 e = ap (λ (found : Option Sib1). option_map_or (λ s. conditions_of carrier (plan_of json s)) found []) (sym e)

module _ (carrier : Carrier) (json : Data) (d : Sending) (gains : List Cpx) (sib1 : Sib1) (form : has_form carrier json ≡ true) (parts : HasSending d json)
    (gains_are : gains ≡ gains_at carrier json) (there : Some sib1 ≡ sib1_at json) where
  -- if the transmission and SystemInformationBlockType1 are in range, the plan's conditions decide
  pub cell_decides : is_between (pos 0) (pos 1023) d.sfn ≡ true → is_between (pos 0) (pos 19199) d.offset ≡ true
      → is_between (pos 57600) (pos 1920000) d.samples ≡ true → are_gains carrier gains ≡ true
      → first_failed (conditions carrier json) ≡ refusal_of carrier (plan_of json sib1)
  cell_decides e f g h =
      let s = ap (is_between (pos 0) (pos 1023)) (sym parts.sfn) ∙ e in
      let o = ap (is_between (pos 0) (pos 19199)) (sym parts.offset) ∙ f in
      let n = ap (is_between (pos 57600) (pos 1920000)) (sym parts.samples) ∙ g in
      let a : are_gains carrier (gains_at carrier json) ≡ true = ap (are_gains carrier) (sym gains_are) ∙ h in
      rw (form, s, o, n, a, sym there) (ap first_failed (cell_conditions_are carrier json sib1 there))
