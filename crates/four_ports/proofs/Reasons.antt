-- The reason why an entry has no SIB1.
use Rattle.std.proofs.Common.{◌≡◌, List, get_or, Err}
use Rattle.std.specs.Prelude.{All}
use Rattle.std.proofs.lemmas.List.Elements.{Contains-get_or}
use Rattle.cs_num.specs.declared.Sample.{Sample}
use Rattle.lte_types.specs.declared.entry.Entry.{Entry}
use Rattle.lte_types.specs.declared.sib1_reason.Sib1Reason.TheVariants.{NotOnePort}
use Rattle.explain.proofs.Listed.{is_sound}
use Rattle.four_ports.specs.Entries.{four_ports_receiver, IsExplainedOfFour}

-- each entry in the list has the reason `NotOnePort 4`
pub reasons_are_ports : (recording : List Sample) (list : List Entry) → IsExplainedOfFour recording list → All (λ entry. entry.sib1 ≡ Err (NotOnePort 4)) list
reasons_are_ports recording list explained k d inside =
    (is_sound four_ports_receiver recording list (get_or list k d) explained (Contains-get_or list k d inside)).is_of.sib1
