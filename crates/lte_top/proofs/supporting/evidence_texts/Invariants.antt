use Rattle.std.proofs.Common.{take, string_bytes}
use Rattle.std.specs.List.{AllZip}
use Rattle.lte_types.specs.Carrier.{carriers}
use Rattle.lte_top.specs.Supporting.{IsEvidenceText}
use Rattle.lte_top.proofs.supporting.evidence_texts.Given as goal

abbrev pub invariant-loop-carrier : goal.invariant-loop-carrier
invariant-loop-carrier l = AllZip (λ carrier text. IsEvidenceText carrier l.recording (string_bytes text)) (take l.carrier-index carriers) l.texts.items
