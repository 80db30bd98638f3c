-- The control channels of a subframe say something.
use Rattle.std.proofs.Common.{◌≡◌, ◌∙◌, ℕ, ◌+◌, Bool, true, false, List, [], ◌∷◌, ℤ, Option, None, Result, Ok, Err, refl, sym}
use Rattle.std.specs.Prelude.{nat_eq, bit_xor}
use Rattle.std.specs.List.{AllZip}
use Rattle.std.specs.Result.{result_ok}
use Rattle.std.proofs.lemmas.Bool.{eqb-true, eq-eqb, false≢true}
use Rattle.cs_bits.specs.Checks.{HasCheck16, crc16_of, message_of, check_of}
use Rattle.conv_code.specs.Reading.{summed}
use Rattle.tailbite.proofs.Only.{some_word}
use Rattle.dci.specs.Fields.{system_information_rnti}
use Rattle.pcfich.proofs.Indicators.{some_indicator}
use Rattle.wide_grid.specs.declared.group.WideReg.{WideReg}
use Rattle.wide_grid.specs.Control.{element_count}
use Rattle.wide_grant.specs.declared.grant.WideGrant.{WideGrant}
use Rattle.wide_grant.specs.declared.grant.Refusal.{Refusal}
use Rattle.wide_slot.specs.Slot.{WideSeen}
use Rattle.wide_control.specs.declared.format.DciFormat.{DciFormat}
use Rattle.wide_control.specs.Format.{payload_size, grant_in}
use Rattle.wide_control.specs.Offer.{Gives, IsOffer}
use Rattle.wide_control.specs.Values.{indicator_values, candidate_values, ordered_groups}
use Rattle.wide_control.specs.Control.{Search, searches, Finds, grants_among}
use Rattle.wide_control.specs.Laws.{IsSomeControl}

-- a word whose CRC passes gives the grant in its payload, if there is one
pub given_by : (blocks sfn : ℕ) (format : DciFormat) (word : List Bool) → HasCheck16 system_information_rnti word →
    (answer : Result WideGrant Refusal) → grant_in blocks sfn format (message_of 16 word) ≡ answer →
    Gives blocks sfn format word (result_ok answer)
given_by blocks sfn format word passes (Ok grant) is = record { passes = passes; grants = is }
given_by blocks sfn format word passes (Err refusal) is = λ grant conveys. absurd (let both = sym is ∙ conveys.grants in cc)

-- a word whose CRC fails gives no grant
pub none_given : (blocks sfn : ℕ) (format : DciFormat) (word : List Bool) → (HasCheck16 system_information_rnti word → ⊥) →
    Gives blocks sfn format word None
none_given blocks sfn format word fails = λ grant conveys. fails conveys.passes

some_given : (blocks sfn : ℕ) (format : DciFormat) (word : List Bool) → (passes : Bool) →
    nat_eq (check_of 16 word) (bit_xor (crc16_of (message_of 16 word)) system_information_rnti) ≡ passes →
    (found : Option WideGrant) × Gives blocks sfn format word found
some_given blocks sfn format word true e =
    let answer = grant_in blocks sfn format (message_of 16 word) in
    (result_ok answer, given_by blocks sfn format word (eqb-true (check_of 16 word) (bit_xor (crc16_of (message_of 16 word)) system_information_rnti) e) answer refl)
some_given blocks sfn format word false e = (
  None,
  none_given blocks sfn format word
      (λ passes. false≢true (sym e ∙ eq-eqb (check_of 16 word) (bit_xor (crc16_of (message_of 16 word)) system_information_rnti) passes)),
)

some_offer : (blocks sfn : ℕ) (values : List ℤ) (format : DciFormat) → (found : Option WideGrant) × IsOffer blocks sfn values format found
some_offer blocks sfn values format =
    let (word, least) = some_word (summed (payload_size blocks format + 16) values) in
    let (found, gives) = some_given blocks sfn format word (nat_eq (check_of 16 word) (bit_xor (crc16_of (message_of 16 word)) system_information_rnti)) refl in
    (found, record { word = word; least = least; gives = gives })

some_founds : (slot : WideSeen) (sfn : ℕ) (groups : List WideReg) (list : List Search) →
    (founds : List (Option WideGrant)) × AllZip (Finds slot sfn groups) list founds
some_founds slot sfn groups [] = ([], tt)
some_founds slot sfn groups (search ∷ list) =
    let (found, is) = some_offer slot.cell.blocks sfn (candidate_values slot groups search.candidate) search.format in
    let (founds, each) = some_founds slot sfn groups list in
    (found ∷ founds, (is, each))

pub some_control : IsSomeControl
some_control slot sfn =
    let (cfi, indicator) = some_indicator (indicator_values slot) in
    let (founds, each) = some_founds slot sfn (ordered_groups slot.cell cfi) (searches (element_count slot.cell cfi)) in (
      record { cfi = cfi; elements = element_count slot.cell cfi; grants = grants_among founds },
      record { indicator = indicator; elements = refl; grants = record { founds = founds; each = each; given = refl } },
    )
