-- The functions computed by `==`, which are true if and only if all fields are equal.
use Rattle.std.specs.Prelude.{Bool}
use Rattle.lte_types.specs.declared.plmn.Plmn.{Plmn}
use Rattle.lte_types.specs.declared.si_message.SiMessage.{SiMessage}
use Rattle.lte_types.specs.declared.sib1.Sib1.{Sib1}
use Rattle.lte_types.specs.declared.sib1_reason.Sib1Reason.{Sib1Reason}
use Rattle.lte_types.specs.contracts.plmn.PlmnPartialEq.TheImpl as plmn_eq
use Rattle.lte_types.specs.contracts.si_message.SiMessagePartialEq.TheImpl as message_eq
use Rattle.lte_types.specs.contracts.sib1.Sib1PartialEq.TheImpl as sib1_eq
use Rattle.lte_types.specs.contracts.sib1_reason.Sib1ReasonPartialEq.TheImpl as reason_eq

abbrev pub same_plmn : Plmn → Plmn → Bool
same_plmn = (plmn_eq.ghosts).eq

abbrev pub same_message : SiMessage → SiMessage → Bool
same_message = (message_eq.ghosts).eq

abbrev pub same_fields : Sib1 → Sib1 → Bool
same_fields = (sib1_eq.ghosts).eq

abbrev pub same_reason : Sib1Reason → Sib1Reason → Bool
same_reason = (reason_eq.ghosts).eq
