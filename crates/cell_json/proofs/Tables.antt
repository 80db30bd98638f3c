-- The tables of keys, part by part.
use Rattle.std.proofs.Common.{◌≡◌, ◌+◌, ◌∷◌, ◌++◌, length, ◌&&◌, nat_eq, refl}
use Rattle.std.proofs.lemmas.List.Folds.{list_all-append}
use Rattle.std.specs.Prelude.{codes}
use Rattle.serde_json.specs.Data.{Data}
use Rattle.lte_types.specs.declared.carrier.Carrier.{Carrier}
use Rattle.lte_types.specs.declared.carrier.Carrier.TheVariants.{OnePort, TwoPorts, LongPrefix, FourPorts}
use Rattle.lte_types.specs.Carrier.{ports_of}
use Rattle.cell_json.specs.Kinds.{has, has_all, has_exactly, key_count, object_of}
use Rattle.cell_json.specs.Description.{access_keys, selection_keys, schedule_keys, sib1_keys, sending_keys, number_keys, gain_keys, keys, duration_of, resource_of, has_form}

sib1_count : length sib1_keys ≡ 14
unfolding access_keys selection_keys schedule_keys
sib1_count = refl

-- SystemInformationBlockType1 has its form if its three parts have theirs
pub sib1_parts : (json : Data) → (nat_eq (key_count json) 14 && (has_all access_keys json && (has_all selection_keys json && has_all schedule_keys json)))
    ≡ has_exactly sib1_keys json
unfolding access_keys
sib1_parts json = rw (sib1_count, list_all-append (λ is_there. is_there json) access_keys (selection_keys ++ schedule_keys), list_all-append (λ is_there. is_there json) selection_keys schedule_keys) refl

-- a description has its form if its parts have theirs
pub form_parts : (carrier : Carrier) (json : Data) → (nat_eq (key_count json) (length (keys carrier)) && (has_all sending_keys json && (has_all number_keys json && (has (codes "duration") duration_of json
    && (has (codes "resource") resource_of json && (has (codes "sib1") (object_of sib1_keys) json && has_all (gain_keys carrier) json)))))) ≡ has_form carrier json
unfolding sending_keys number_keys
form_parts carrier json = rw (
  list_all-append (λ is_there. is_there json) sending_keys (number_keys ++ has (codes "duration") duration_of ∷ has (codes "resource") resource_of ∷ has (codes "sib1") (object_of sib1_keys) ∷ gain_keys carrier),
  list_all-append (λ is_there. is_there json) number_keys (has (codes "duration") duration_of ∷ has (codes "resource") resource_of ∷ has (codes "sib1") (object_of sib1_keys) ∷ gain_keys carrier),
) refl

-- a description has 13 keys and one for each port
pub count_by_ports : (carrier : Carrier) → 13 + ports_of carrier ≡ length (keys carrier)
unfolding sending_keys number_keys
count_by_ports OnePort = refl
count_by_ports TwoPorts = refl
count_by_ports LongPrefix = refl
count_by_ports FourPorts = refl
