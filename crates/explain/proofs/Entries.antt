-- Entries with equal fields are equal.
use Rattle.std.proofs.Common.{◌≡◌, ℕ, ◌≤◌, ap, subst, ◌∙◌}
use Rattle.std.proofs.Math.Bridge.{le_prop}
use Rattle.lte_types.specs.declared.mib.Mib.{Mib}
use Rattle.lte_types.specs.declared.entry.Entry.{Entry}
use Rattle.pbch.specs.declared.master.Master.{Master}
use Rattle.pbch.specs.Laws.{IsSame}
use Rattle.explain.specs.Entries.{master_of}

same_spare : (mib : Mib) (spare : ℕ) → mib.spare ≡ spare → (within : spare ≤ 1023) → mib ≡ record mib { spare = spare; spare_range = within }
same_spare mib spare e = subst (λ s. (within : s ≤ 1023) → mib ≡ record mib { spare = s; spare_range = within }) e
    (λ within. ap (λ w. record mib { spare_range = w }) (le_prop mib.spare_range within))

pub same_mib : (a b : Mib) → a.bandwidth ≡ b.bandwidth → a.duration ≡ b.duration → a.resource ≡ b.resource → a.upper ≡ b.upper → a.spare ≡ b.spare → a ≡ b
same_mib a b width length share frame bits =
    ap (λ x. record a { bandwidth = x }) width
    ∙ ap (λ x. record a { bandwidth = b.bandwidth; duration = x }) length
    ∙ ap (λ x. record a { bandwidth = b.bandwidth; duration = b.duration; resource = x }) share
    ∙ ap (λ x. record a { bandwidth = b.bandwidth; duration = b.duration; resource = b.resource; upper = x }) frame
    ∙ same_spare (record a { bandwidth = b.bandwidth; duration = b.duration; resource = b.resource; upper = b.upper }) b.spare bits b.spare_range

-- two MIBs with equal fields are equal
pub same_master : (a b : Master) → IsSame a b → a ≡ b
same_master a b s =
    ap (λ x. record a { ports = x }) s.ports
    ∙ ap (λ x. record a { ports = b.ports; cost = x }) s.cost
    ∙ ap (λ x. record a { ports = b.ports; cost = b.cost; mib = x }) (same_mib a.mib b.mib s.bandwidth s.duration s.resource s.upper s.spare)

-- two entries with equal places, MIBs and system information are equal
pub same_entry : (a b : Entry) → a.id ≡ b.id → a.start ≡ b.start → a.sfn ≡ b.sfn → a.frames ≡ b.frames → a.frame ≡ b.frame → a.phase ≡ b.phase → master_of a ≡ master_of b → a.sib1 ≡ b.sib1 → a ≡ b
same_entry a b id start sfn frames frame phase master sib1 =
    ap (λ x. record a { id = x }) id
    ∙ ap (λ x. record a { id = b.id; start = x }) start
    ∙ ap (λ x. record a { id = b.id; start = b.start; sfn = x }) sfn
    ∙ ap (λ x. record a { id = b.id; start = b.start; sfn = b.sfn; frames = x }) frames
    ∙ ap (λ x. record a { id = b.id; start = b.start; sfn = b.sfn; frames = b.frames; frame = x }) frame
    ∙ ap (λ x. record a { id = b.id; start = b.start; sfn = b.sfn; frames = b.frames; frame = b.frame; phase = x }) phase
    ∙ ap (λ (x : Master). record a { id = b.id; start = b.start; sfn = b.sfn; frames = b.frames; frame = b.frame; phase = b.phase; ports = x.ports; mib = x.mib; cost = x.cost }) master
    ∙ ap (λ x. record b { sib1 = x }) sib1
