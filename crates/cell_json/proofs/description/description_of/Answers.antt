use Rattle.std.proofs.Common.{◌≡◌, ℕ, arith, refl, Bool, true, false, nat_eq, ◌&&◌, length, sym, ap, ◌∙◌, rules}
use Rattle.std.specs.Prelude.{codes}
use Rattle.std.specs.Option.{unwrap_or}
use Rattle.serde_json.specs.Data.{Data}
use Rattle.serde_json.specs.View.{view}
use Rattle.lte_types.specs.declared.carrier.Carrier.{Carrier}
use Rattle.lte_types.specs.declared.duration.Duration.TheVariants.{Normal}
use Rattle.lte_types.specs.declared.resource.Resource.TheVariants.{OneSixth}
use Rattle.cell_json.specs.Kinds.{has, has_all, key_count, object_of}
use Rattle.cell_json.specs.Description.{sending_keys, number_keys, gain_keys, keys, duration_of, resource_of, sib1_keys}
use Rattle.cell_json.proofs.Tables.{form_parts}
use Rattle.std.proofs.lemmas.Bool.Decides.{nat_tests}
use Rattle.cell_json.proofs.description.description_of.Goals as goal
use Rattle.cell_json.proofs.description.description_of.Goals.{then-count_keys-key_count-via-then-count_keys-key_count, then-count_keys-key_count-via-else-count_keys-key_count+then-not-has_sib1}

-- whether the parts have their forms
abbrev parts_fit : Carrier → Data → Bool
parts_fit carrier json =
    nat_eq (key_count json) (length (keys carrier)) && (has_all sending_keys json && (has_all number_keys json && (has (codes "duration") duration_of json
    && (has (codes "resource") resource_of json && (has (codes "sib1") (object_of sib1_keys) json && has_all (gain_keys carrier) json)))))

other_count : (count wanted : ℕ) (others : Bool) → (count ≡ wanted → ⊥) → (nat_eq count wanted && others) ≡ false
other_count count wanted others differ = let no : nat_eq count wanted ≡ false = grind (arith, nat_tests) in rw no refl

no_block : (count sending numbers duration resource block gains : Bool) → block ≡ false → (count && (sending && (numbers && (duration && (resource && (block && gains)))))) ≡ false
no_block true true true true true block gains e = rw e refl
no_block true true true true false block gains e = refl
no_block true true true false resource block gains e = refl
no_block true true false duration resource block gains e = refl
no_block true false numbers duration resource block gains e = refl
no_block false sending numbers duration resource block gains e = refl

without_block : (carrier : Carrier) (json : Data) → has (codes "sib1") (object_of sib1_keys) json ≡ false → parts_fit carrier json ≡ false
without_block carrier json e =
    no_block (nat_eq (key_count json) (length (keys carrier))) (has_all sending_keys json) (has_all number_keys json) (has (codes "duration") duration_of json)
    (has (codes "resource") resource_of json) (has (codes "sib1") (object_of sib1_keys) json) (has_all (gain_keys carrier) json) e

pub returns-then-count_keys-key_count : goal.returns-then-count_keys-key_count
returns-then-count_keys-key_count c =
    let json = view c.args.value.now in
    let parts : parts_fit c.args.carrier json ≡ false =
    elim c.then-count_keys-key_count.branch [
      | then-count_keys-key_count-via-then-count_keys-key_count w ↦ other_count (key_count json) (length (keys c.args.carrier)) _
          (λ same. w.if-count_keys-key_count.true (c.count_keys.ensures ∙ same ∙ sym c.key_count.ensures))
      | then-count_keys-key_count-via-else-count_keys-key_count+then-not-has_sib1 w ↦ without_block c.args.carrier json (sym w.has_sib1.ensures ∙ w.if-not-has_sib1.true)
    ] in
    sym (form_parts c.args.carrier json) ∙ parts

pub invariant_of-result-clause-has_form : goal.invariant_of-result-clause-has_form
invariant_of-result-clause-has_form c =
    let json = view c.args.value.now in
    let parts : parts_fit c.args.carrier json ≡ true = search rules in
    sym (form_parts c.args.carrier json) ∙ parts

pub invariant_of-result-clause-has_duration : goal.invariant_of-result-clause-has_duration
invariant_of-result-clause-has_duration c = ap (λ found. unwrap_or found Normal) c.in_ok-duration.ensures

pub invariant_of-result-clause-has_resource : goal.invariant_of-result-clause-has_resource
invariant_of-result-clause-has_resource c = ap (λ found. unwrap_or found OneSixth) c.in_ok-resource.ensures
