-- Sums of received values have the sent bits' signs, and they decode to the sent block.
use Rattle.std.proofs.Common.{◌≡◌, ℕ, zero, suc, ◌<◌, Bool, true, false, List, length, ℤ, pos, refl, sym, subst, arith}
use Rattle.std.specs.Prelude.{cond, nat_abs, ◌&&◌}
use Rattle.std.proofs.Math.Bool.{and-true}
use Rattle.finite.specs.Sums.{sum_below}
use Rattle.finite.specs.Tables.{sum_at}
use Rattle.finite.specs.Tests.{any_below}
use Rattle.finite.proofs.Sums.{positive}
use Rattle.finite.proofs.Tests.{any_below_same}
use Rattle.sub_block.specs.declared.Item.{Item}
use Rattle.sub_block.specs.Items.{item, is_at, summed_at}
use Rattle.sub_block.proofs.Sums.{same_item}
use Rattle.turbo_code.specs.declared.rows.Row.{Row}
use Rattle.turbo_code.specs.Table.{IsAnyRow}
use Rattle.turbo_code.specs.Encoder.{coded}
use Rattle.turbo_code.specs.Reading.{bit_of, item_of, summed}
use Rattle.turbo_code.proofs.Sums.{summed-at}
use Rattle.turbo_code.proofs.TableFacts.{is_small, row_size}
use Rattle.turbo_dec.specs.Decoder.{at}
use Rattle.erasure.specs.Known.{sent_of}
use Rattle.erasure.proofs.Whole.{all_sent, whole_block_is_resolvable}
use Rattle.turbo_convergence.specs.Conveys.{Conveys, SumsConvey}
use Rattle.turbo_convergence.specs.Laws.{ReceivedSumsAllow, ReceivedSumsConvey, WholeSumsSpeak, SentBlockIsDecoded, PuncturedBlockIsDecoded}
use Rattle.turbo_convergence.proofs.Conveying.{conveys-sum, conveys_allows, allows_conveys}
use Rattle.turbo_convergence.proofs.Iterates.{resolvable_is_decoded}

-- ---- sums by item, for any reading order and any bits

-- a value that is counted if it belongs to an item
counted : (c there bit : Bool) (z : ℤ) → (c ≡ true → Conveys there bit z) → Conveys (c && there) bit (cond c z (pos 0))
counted true there bit z h = h refl
counted false there bit z h = refl

-- an item's sum has its bit's sign if one of the item's values is not 0
pub item_conveys : (reading : ℕ → Item) (values : List ℤ) (bit : Item → Bool) (given : ℕ → Bool) (t p m : ℕ) →
    ((i : ℕ) → i < m → Conveys (given i) (bit (reading i)) (at values i)) →
    Conveys (any_below m (λ i. is_at t p (reading i) && given i)) (bit (item t p)) (summed_at reading values m t p)
unfolding summed_at any_below sum_below
item_conveys reading values bit given t p zero each = refl
item_conveys reading values bit given t p (suc m) each =
    conveys-sum (any_below m (λ i. is_at t p (reading i) && given i)) (is_at t p (reading m) && given m) (bit (item t p))
    (summed_at reading values m t p) (cond (is_at t p (reading m)) (at values m) (pos 0))
    (item_conveys reading values bit given t p m (λ i l. each i (omega (arith, l))))
    (counted (is_at t p (reading m)) (given m) (bit (item t p)) (at values m)
    (λ e. subst (λ q. Conveys (given m) (bit q) (at values m)) (same_item (reading m) t p e) (each m (omega arith))))

-- ---- the sums of a block

module _ (row : Row) (word : List Bool) (rv : ℕ) (values : List ℤ) (is_row : IsAnyRow row) where
  -- the sums have the signs of the coded bits with a value that is not 0
  sums_convey : (given : ℕ → Bool) → ((i : ℕ) → i < length values → Conveys (given i) (bit_of (coded row word) (item_of row.k rv i)) (at values i)) →
      SumsConvey row word (λ t p. any_below (length values) (λ i. is_at t p (item_of row.k rv i) && given i)) (summed row.k rv values)
  sums_convey given each t p stream inside =
      let high = (is_small row is_row).high in
      subst (Conveys (any_below (length values) (λ i. is_at t p (item_of row.k rv i) && given i)) (bit_of (coded row word) (item t p)))
      (sym (summed-at row.k rv values t p stream (omega (arith, inside, high))))
      (item_conveys (item_of row.k rv) values (bit_of (coded row word)) given t p (length values) each)

-- values without wrong signs give sums without wrong signs
pub received_sums_allow : ReceivedSumsAllow
received_sums_allow row word rv values is_row allow t p stream inside =
    conveys_allows _ (bit_of (coded row word) (item t p)) _
    (sums_convey row word rv values is_row (λ i. positive (nat_abs (at values i)))
    (λ i l. allows_conveys (bit_of (coded row word) (item_of row.k rv i)) (at values i) (allow i l)) t p stream inside)

-- values with the bits' signs give sums with these signs
pub received_sums_convey : ReceivedSumsConvey
unfolding sent_of
received_sums_convey row word rv values is_row speak t p stream inside =
    subst (λ there. Conveys there (bit_of (coded row word) (item t p)) (sum_at (summed row.k rv values) t p))
    (any_below_same (length values) (λ i. is_at t p (item_of row.k rv i) && true) (λ i. is_at t p (item_of row.k rv i)) (λ i l. and-true (is_at t p (item_of row.k rv i))))
    (sums_convey row word rv values is_row (λ _. true) speak t p stream inside)

-- at least as many values as coded bits give a nonzero sum for each
pub whole_sums_speak : WholeSumsSpeak
whole_sums_speak row word rv values is_row version speak many t p stream inside =
    subst (λ there. Conveys there (bit_of (coded row word) (item t p)) (sum_at (summed row.k rv values) t p))
    (all_sent row.k rv (length values) (row_size row is_row) version many t p stream inside)
    (received_sums_convey row word rv values is_row speak t p stream inside)

-- ---- the block

pub punctured_block_is_decoded : PuncturedBlockIsDecoded
punctured_block_is_decoded row word rv values is_row size passed speak can =
    resolvable_is_decoded row word (sent_of row.k rv (length values)) (summed row.k rv values) is_row size
    (received_sums_convey row word rv values is_row speak) passed can

pub sent_block_is_decoded : SentBlockIsDecoded
sent_block_is_decoded row word rv values is_row version size passed speak many =
    punctured_block_is_decoded row word rv values is_row size passed speak
    (whole_block_is_resolvable row rv (length values) word is_row version many)
