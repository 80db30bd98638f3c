-- The transport block of the sent grant is decoded, and its fields are read.
use Rattle.std.proofs.Common.{◌≡◌, ℕ, ◌+◌, ◌<◌, inl, inr, Bool, true, false, not, nat_lt, if◌then◌else◌, List, ℤ, Option, Some, Result, Ok, Err, sym, subst, arith}
use Rattle.std.specs.Option.{option_map}
use Rattle.lte_types.specs.declared.sib1.Sib1.{Sib1}
use Rattle.lte_types.specs.declared.sib1_reason.Sib1Reason.{Sib1Reason}
use Rattle.cs_bits.specs.Checks.{message_of}
use Rattle.cs_bits.proofs.Numbers.{field_below}
use Rattle.dci.specs.Fields.{bit}
use Rattle.turbo_code.specs.declared.rows.Row.{Row}
use Rattle.turbo_code.specs.Table.{IsAnyRow}
use Rattle.turbo_dec.specs.Block.{block}
use Rattle.turbo_convergence.proofs.ReceivedSums.{sent_block_is_decoded, punctured_block_is_decoded}
use Rattle.sib1.specs.Message.{Says}
use Rattle.wide_grant.specs.declared.grant.WideGrant.{WideGrant}
use Rattle.wide_grant.specs.declared.grant.Refusal.{Refusal}
use Rattle.wide_grant.specs.declared.grant.Refusal.TheVariants.{NotFormat1A, BadAllocation, ReservedMcs}
use Rattle.wide_grant.specs.Grants.{has_run_1a, mcs_1a, width_1a, value_1c, has_second_gap, steps, version_at}
use Rattle.wide_grant.specs.Runs.{run_count}
use Rattle.wide_slot.specs.Slot.{WideSeen}
use Rattle.wide_control.specs.declared.format.DciFormat.{DciFormat}
use Rattle.wide_control.specs.declared.format.DciFormat.TheVariants.{Format1A, Format1C}
use Rattle.wide_control.specs.Format.{grant_in}
use Rattle.wide_block.specs.Sums.{row_for, grant_sums, offer_of}
use Rattle.wide_block.specs.Block.{IsReadFrom, DecodesBy, SumsSay, OfferSays}
use Rattle.wide_block.proofs.FoundRows.{row_found}
use Rattle.wide_spoken.specs.Sent.{Sent, IsBlockSent}
use Rattle.wide_spoken.specs.Spoken.{IsBlockSpoken, sent_values}
use Rattle.wide_spoken.specs.Laws.{SpokenBlockIsRead}

-- ---- the redundancy version of a grant is 0 to 3

accepted : (refused : Bool) (reason : Refusal) (rest : Result WideGrant Refusal) (grant : WideGrant) →
    (if refused then Err reason else rest) ≡ Ok grant → rest ≡ Ok grant
accepted true reason rest grant e = absurd cc
accepted false reason rest grant e = e

same_grant : (a b : WideGrant) → ◌≡◌ {A = Result WideGrant Refusal} (Ok a) (Ok b) → a ≡ b
same_grant a b e = cc

pub version_few : (blocks sfn : ℕ) (format : DciFormat) (bits : List Bool) (grant : WideGrant) → grant_in blocks sfn format bits ≡ Ok grant → grant.rv < 4
unfolding grant_in
version_few blocks sfn Format1A bits grant e =
    let allocated = accepted (not (bit bits 0)) NotFormat1A _ grant e in
    let modulated = accepted (not (has_run_1a blocks bits)) BadAllocation _ grant allocated in
    let granted = accepted (nat_lt 26 (mcs_1a blocks bits)) ReservedMcs _ grant modulated in
    subst (λ (g : WideGrant). g.rv < 4) (same_grant _ grant granted) (field_below bits (11 + width_1a blocks) 2)
version_few blocks sfn Format1C bits grant e =
    let granted = accepted (not (nat_lt (value_1c blocks bits) (run_count (steps blocks (has_second_gap blocks bits))))) BadAllocation _ grant e in
    let few : version_at sfn < 4 = omega arith in
    subst (λ (g : WideGrant). g.rv < 4) (same_grant _ grant granted) few

-- ---- the block

-- an offer with a decoded block says what the block says
says_by : (first second : WideSeen) (cfi : ℕ) (grant : WideGrant) (row : Row) (bits : List Bool) (answer : Result Sib1 Sib1Reason) →
    row_for grant.size ≡ Some row → block row (grant_sums first second cfi grant row) ≡ Some bits → Says bits answer →
    OfferSays (offer_of first second cfi grant) answer
unfolding offer_of
says_by first second cfi grant row bits answer is decoded says =
    subst (λ (found : Option Row). SumsSay (option_map (grant_sums first second cfi grant) found) grant.size answer) (sym is)
    (subst (λ (found : Option Row). DecodesBy found (grant_sums first second cfi grant row) answer) (sym is)
    (subst (λ (found : Option (List Bool)). IsReadFrom found answer) (sym decoded) says))

block_decoded : (first second : WideSeen) (sent : Sent) → sent.grant.rv < 4 → IsBlockSent sent → IsBlockSpoken first second sent →
    block sent.row (grant_sums first second sent.cfi sent.grant sent.row) ≡ Some (message_of 24 sent.block)
block_decoded first second sent version is spoken =
    let any : IsAnyRow sent.row = (row_found sent.grant.size sent.row is.row).is_row in
    let values : List ℤ = sent_values first second sent in
    elim spoken.enough [
      | inl many ↦ sent_block_is_decoded sent.row sent.block sent.grant.rv values any version is.size is.passes spoken.values many
      | inr resolved ↦ punctured_block_is_decoded sent.row sent.block sent.grant.rv values any is.size is.passes spoken.values resolved
    ]

pub spoken_block_is_read : SpokenBlockIsRead
spoken_block_is_read first second sfn sent control is spoken =
    let version = version_few first.cell.blocks sfn sent.search.format (message_of 16 sent.word) sent.grant control.conveys.grants in
    says_by first second sent.cfi sent.grant sent.row (message_of 24 sent.block) (Ok sent.fields) is.row (block_decoded first second sent version is spoken) is.carries
