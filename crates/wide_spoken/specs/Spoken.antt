-- A subframe 5 is spoken if its soft values are not 0 and have the signs of the bits that it sends. Their magnitudes do
-- not matter. (own)
use Rattle.std.specs.Prelude.{◌≡◌, ◌⊎◌, ℕ, ◌+◌, ◌*◌, ◌<◌, ◌≤◌, Bool, true, List, All, length, slice_index_or, ℤ, pos, Some, Ok}
use Rattle.lte_types.specs.declared.sib1.Sib1.{Sib1}
use Rattle.cs_bits.specs.Signs.{Supports}
use Rattle.conv_code.specs.Code.{coded_word}
use Rattle.conv_code.specs.Reading.{bit_of_item, item_of}
use Rattle.pcfich.specs.Indicator.{Speak}
use Rattle.erasure.specs.Known.{resolvable, sent_of}
use Rattle.turbo_convergence.specs.Conveys.{ValuesSupport}
use Rattle.wide_grant.specs.declared.grant.WideGrant.{WideGrant}
use Rattle.wide_slot.specs.Slot.{WideSeen}
use Rattle.wide_control.specs.Control.{Search, Finds}
use Rattle.wide_control.specs.Values.{indicator_values, candidate_values, ordered_groups}
use Rattle.wide_block.specs.Sums.{shared_values, offer_of}
use Rattle.wide_block.specs.Block.{OfferSays}
use Rattle.wide_spoken.specs.Sent.{Sent, IsControlSent, IsBlockSent}

-- each soft value of a candidate has the sign of the coded bit of `word` that rate matching sends at its position
abbrev pub WordSpeaks : List Bool → List ℤ → Type 0
WordSpeaks word values =
    (i : ℕ) → i < length values →
    Supports 1 (bit_of_item (coded_word word) (item_of (length word) i)) (slice_index_or values i (pos 0))

-- The soft values of the control channels in a subframe's first slot have the signs of the sent bits: `indicator`, the
-- 32 values of the control format indicator; `word`, the 288 or 576 values of the search's candidate.
pub record IsControlSpoken (slot : WideSeen) (sent : Sent) : Type 0 where
  pub indicator : Speak (indicator_values slot) sent.cfi
  pub word : WordSpeaks sent.word (candidate_values slot (ordered_groups slot.cell sent.cfi) sent.search.candidate)

-- the soft values of the sent grant
abbrev pub sent_values : WideSeen → WideSeen → Sent → List ℤ
sent_values first second sent = shared_values first second sent.cfi sent.grant

-- The soft values of the grant have the signs of the block's coded bits that are sent. `enough`: there are at least as
-- many values as coded bits, or the sent bits resolve the block.
pub record IsBlockSpoken (first second : WideSeen) (sent : Sent) : Type 0 where
  pub values : ValuesSupport 1 sent.row sent.block sent.grant.rv (sent_values first second sent)
  pub enough :
      (3 * (sent.row.k + 4) ≤ length (sent_values first second sent))
      ⊎ (resolvable sent.row (sent_of sent.row.k sent.grant.rv (length (sent_values first second sent))) sent.block
      ≡ true)

-- no grant that a search finds has a transport block with SIB1 fields other than the sent ones
abbrev pub FindsNoOther : WideSeen → WideSeen → ℕ → Sent → Search → Type 0
FindsNoOther first second sfn sent search =
    (grant : WideGrant) (fields : Sib1) →
    Finds first sfn (ordered_groups first.cell sent.cfi) search (Some grant) →
    OfferSays (offer_of first second sent.cfi grant) (Ok fields) → fields ≡ sent.fields

-- Subframe 5 of frame `sfn` sends `sent`, and is spoken, by the soft values of its first and second slot. `earlier`: no
-- earlier search leads to other fields.
pub record IsSpoken (first second : WideSeen) (sfn : ℕ) (sent : Sent) : Type 0 where
  pub control : IsControlSent first.cell sfn sent
  pub block : IsBlockSent sent
  pub control_spoken : IsControlSpoken first sent
  pub block_spoken : IsBlockSpoken first second sent
  pub earlier : All (FindsNoOther first second sfn sent) sent.before
