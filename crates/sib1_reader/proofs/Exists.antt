-- Each subframe has an attempt, and fields that are read are in their ranges.
use Rattle.std.proofs.Common.{◌≡◌, ℕ, inl, inr, Bool, true, false, List, ℤ, Option, None, Some, Result, Ok, Err, refl, sym, subst, ◌∙◌}
use Rattle.std.specs.Prelude.{nat_eq, bit_xor}
use Rattle.std.proofs.lemmas.Bool.{cases_lt, eqb-true, eq-eqb, false≢true}
use Rattle.lte_types.specs.declared.bandwidth.Bandwidth.{Bandwidth}
use Rattle.lte_types.specs.declared.sib1.Sib1.{Sib1}
use Rattle.lte_types.specs.declared.sib1_reason.Sib1Reason.{Sib1Reason}
use Rattle.lte_types.specs.declared.sib1_reason.Sib1Reason.TheVariants.{NotOnePort, Bandwidth as OtherWidth, NoSearchSpace, NoControl, NotDecoded, LongPrefix}
use Rattle.lte_types.specs.Ranges.{IsValid}
use Rattle.cs_bits.specs.Checks.{crc16_of, message_of, check_of}
use Rattle.conv_code.specs.Reading.{summed as summed_by_place}
use Rattle.tailbite.proofs.Only.{some_word}
use Rattle.dci.specs.declared.grant.Grant.{Grant}
use Rattle.dci.specs.Format1A.{IsGrant}
use Rattle.dci.proofs.Exists.{some_answer as some_grant}
use Rattle.dci.proofs.Words.{carried_is_grant}
use Rattle.turbo_code.specs.Reading.{summed}
use Rattle.turbo_dec.specs.Block.{block}
use Rattle.sib1.proofs.Exists.{some_answer as some_message}
use Rattle.sib1.proofs.Valid.{sib1_holds}
use Rattle.pcfich.specs.Indicator.{IsIndicator}
use Rattle.pcfich.proofs.Indicators.{some_indicator}
use Rattle.dci.specs.Fields.{system_information_rnti}
use Rattle.sib1_reader.specs.Subframe.{Subframe}
use Rattle.sib1_reader.specs.Control.{IsWord, ControlSays, Grants}
use Rattle.sib1_reader.specs.Block.{IsBlock, BlockSays, Decodes}
use Rattle.sib1_reader.specs.declared.reading.Attempt.{Attempt}
use Rattle.sib1_reader.specs.Attempt.{Follows, IsAttempt, Reads}
use Rattle.sib1_reader.specs.Laws.{IsSomeAttempt, IsSomeAnswer, IsReadValid}
use Rattle.dci.proofs.SizeRows.{size_fits}

-- ---- the control information

of_control : (count : ℕ) (candidate : List ℤ) (answer : Result Grant Sib1Reason) → ControlSays count candidate answer → Grants count candidate answer
of_control count candidate (Err (NoSearchSpace decoded)) s = absurd s.says
of_control count candidate (Err NoControl) s = absurd s.says
of_control count candidate answer s = s

by_check : (count : ℕ) (candidate : List ℤ) (word : List Bool) → IsWord count candidate word → (passes : Bool) →
    nat_eq (check_of 16 word) (bit_xor (crc16_of (message_of 16 word)) system_information_rnti) ≡ passes → (answer : Result Grant Sib1Reason) × Grants count candidate answer
by_check count candidate word is true e =
    let (answer, says) = some_grant (message_of 16 word) in
    (answer, of_control count candidate answer (record { word = word; is = is; passes = eqb-true (check_of 16 word) (bit_xor (crc16_of (message_of 16 word)) system_information_rnti) e; says = says }))
by_check count candidate word is false e = (
  Err NoControl,
  record {
    word = word;
    is = is;
    fails = λ passes. false≢true (sym e ∙ eq-eqb (check_of 16 word) (bit_xor (crc16_of (message_of 16 word)) system_information_rnti) passes);
  },
)

some_control : (count : ℕ) (candidate : List ℤ) → (answer : Result Grant Sib1Reason) × Grants count candidate answer
some_control count candidate = elim (cases_lt count 4) [
  | inl few ↦ (Err (NoSearchSpace count), record { reported_is = refl; few = few })
  | inr enough ↦
      let (word, least) = some_word (summed_by_place 37 candidate) in
      by_check count candidate word (record { enough = enough; least = least }) (nat_eq (check_of 16 word) (bit_xor (crc16_of (message_of 16 word)) system_information_rnti)) refl
]

-- a decoded grant has its fields in their ranges
granted : (count : ℕ) (candidate : List ℤ) (grant : Grant) → Grants count candidate (Ok grant) → IsGrant grant
granted count candidate grant g = carried_is_grant (message_of 16 g.word) grant g.says

-- ---- the block

of_block : (values : List ℤ) (grant : Grant) (answer : Result Sib1 Sib1Reason) → BlockSays values grant answer → Decodes values grant answer
of_block values grant (Err NotDecoded) s = absurd s.says
of_block values grant answer s = s

by_block : (values : List ℤ) (grant : Grant) (found : Option (List Bool)) → IsBlock values grant found → (answer : Result Sib1 Sib1Reason) × Decodes values grant answer
by_block values grant None is = (Err NotDecoded, is)
by_block values grant (Some bits) is =
    let (answer, says) = some_message bits in
    (answer, of_block values grant answer (record { bits = bits; is = is; says = says }))

some_text : (values : List ℤ) (grant : Grant) → IsGrant grant → (answer : Result Sib1 Sib1Reason) × Decodes values grant answer
some_text values grant is =
    let (row, is_row, size) = size_fits grant.mcs grant.column grant.size is.size_is in
    by_block values grant (block row (summed row.k grant.rv values)) (record { row = row; is_row = is_row; size = size; decodes = refl })

-- ---- the attempt

by_grant : (values : Subframe) (indicator : ℕ) → IsIndicator values.indicator indicator → (answer : Result Grant Sib1Reason) →
    Grants (values.elements indicator) (values.candidate indicator) answer → (attempt : Attempt) × IsAttempt values attempt
by_grant values indicator decoded (Ok grant) grants =
    let (answer, decodes) = some_text (values.shared indicator grant.start grant.blocks) grant (granted (values.elements indicator) (values.candidate indicator) grant grants) in
    (record { cfi = indicator; grant = Some grant; answer = answer }, record { decoded = decoded; follows = record { grants = grants; decodes = decodes } })
by_grant values indicator decoded (Err reason) grants = (record { cfi = indicator; grant = None; answer = Err reason }, record { decoded = decoded; follows = grants })

pub some_attempt : IsSomeAttempt
some_attempt values =
    let (indicator, decoded) = some_indicator values.indicator in
    let (answer, grants) = some_control (values.elements indicator) (values.candidate indicator) in
    by_grant values indicator decoded answer grants

pub some_reading : IsSomeAnswer
some_reading values = let (attempt, is) = some_attempt values in (attempt.answer, record { attempt = attempt; is = is; answers = refl })

-- ---- fields

valid_by_grant : (values : Subframe) (indicator : ℕ) (grant : Option Grant) (fields : Sib1) → Follows values indicator grant (Ok fields) → IsValid fields
valid_by_grant values indicator None fields f = absurd f
valid_by_grant values indicator (Some grant) fields f = let b = f.decodes.says in sib1_holds b.text fields b.is_text

pub read_is_valid : IsReadValid
read_is_valid values fields reads =
    valid_by_grant values reads.attempt.cfi reads.attempt.grant fields (subst (λ a. Follows values reads.attempt.cfi reads.attempt.grant a) reads.answers reads.is.follows)

-- ---- reasons that a subframe never has

never_ports_by_grant : (values : Subframe) (indicator decoded : ℕ) (grant : Option Grant) → Follows values indicator grant (Err (NotOnePort decoded)) → ⊥
never_ports_by_grant values indicator decoded None f = f.says
never_ports_by_grant values indicator decoded (Some grant) f = f.decodes.says

pub never_ports : (values : Subframe) (decoded : ℕ) → Reads values (Err (NotOnePort decoded)) → ⊥
never_ports values decoded reads =
    never_ports_by_grant values reads.attempt.cfi decoded reads.attempt.grant (subst (λ a. Follows values reads.attempt.cfi reads.attempt.grant a) reads.answers reads.is.follows)

never_width_by_grant : (values : Subframe) (indicator : ℕ) (decoded : Bandwidth) (grant : Option Grant) → Follows values indicator grant (Err (OtherWidth decoded)) → ⊥
never_width_by_grant values indicator decoded None f = f.says
never_width_by_grant values indicator decoded (Some grant) f = f.decodes.says

pub never_width : (values : Subframe) (decoded : Bandwidth) → Reads values (Err (OtherWidth decoded)) → ⊥
never_width values decoded reads =
    never_width_by_grant values reads.attempt.cfi decoded reads.attempt.grant (subst (λ a. Follows values reads.attempt.cfi reads.attempt.grant a) reads.answers reads.is.follows)

never_long_by_grant : (values : Subframe) (indicator : ℕ) (grant : Option Grant) → Follows values indicator grant (Err LongPrefix) → ⊥
never_long_by_grant values indicator None f = f.says
never_long_by_grant values indicator (Some grant) f = f.decodes.says

pub never_long : (values : Subframe) → Reads values (Err LongPrefix) → ⊥
never_long values reads =
    never_long_by_grant values reads.attempt.cfi reads.attempt.grant (subst (λ a. Follows values reads.attempt.cfi reads.attempt.grant a) reads.answers reads.is.follows)
