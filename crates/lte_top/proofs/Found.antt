-- `search` finds every cell that `transmit` sends.
use Rattle.std.proofs.Common.{◌≡◌, ℕ, ◌≤◌, Option, arith, refl, ap, sym, subst, ◌∙◌, List}
use Rattle.std.specs.Prelude.{All}
use Rattle.finite.specs.Lists.{values_below}
use Rattle.finite.proofs.Lists.{values_below-All, values_below_same}
use Rattle.cs_num.specs.declared.Cpx.{Cpx}
use Rattle.cs_num.specs.declared.Sample.{Sample}
use Rattle.cs_num.specs.Complex.{IsWithin, nothing, plus, silence, value_of, sample_of}
use Rattle.cs_num.proofs.Complex.{within_more}
use Rattle.norms.proofs.Algebra.{plus-nothing_right}
use Rattle.sample_file.specs.Recording.{samples_of, bytes_of}
use Rattle.sample_file.proofs.Samples.{samples_back}
use Rattle.lte_types.specs.declared.carrier.Carrier.{Carrier}
use Rattle.lte_types.specs.declared.carrier.Carrier.TheVariants.{OnePort, TwoPorts, LongPrefix, FourPorts}
use Rattle.lte_types.specs.declared.entry.Entry.{Entry}
use Rattle.lte_types.specs.Timing.{IsOffset, start_of, number_at_start}
use Rattle.cell_plan.specs.declared.cell.CellPlan.{CellPlan}
use Rattle.cell_plan.specs.declared.emission.Emission.{Emission}
use Rattle.cell_plan.specs.Gains.{AreGainsOf, IsAllowedBy, ArePairedBy}
use Rattle.cell_tx.specs.Emission.{received_by, IsCleanBy}
use Rattle.cell_tx.specs.Laws.{EmittedIsClean}
use Rattle.cell_tx.proofs.Received.{received_by-small}
use Rattle.clean_air.specs.Clean.{HoldsCellBy}
use Rattle.cell_json.proofs.Ranges.{described_ranges_by}
use Rattle.report_text.specs.Lines.{entry_lines, report_text}
use Rattle.report_text.specs.Pieces.{IsPiece}
use Rattle.report_text.proofs.Pieces.{lines_stand}
use Rattle.lte_top.specs.Transmitting.{sent_samples}
use Rattle.lte_top.proofs.Carriers.{held}
use Rattle.lte_top.specs.Found.{sent_lines, WhatIsSentIsFound}

-- ---- the bytes

-- the samples of an emission
samples_by : Carrier → Option ℕ → Emission → List Sample
samples_by carrier load e =
    values_below e.samples (λ i. sample_of (received_by carrier load e.cell e.timing.sfn e.timing.offset e.gains i))

-- the samples of an emission fit in 16 bits
sent_fits : (carrier : Carrier) (load : Option ℕ) (e : Emission) → AreGainsOf carrier e.gains → All (λ s. IsWithin 32767 (value_of s)) (samples_by carrier load e)
unfolding samples_by
sent_fits carrier load e gains =
    let f : ℕ → Sample = λ i. sample_of (received_by carrier load e.cell e.timing.sfn e.timing.offset e.gains i) in
    values_below-All (λ s. IsWithin 32767 (value_of s)) e.samples f silence (λ k below.
    within_more (received_by carrier load e.cell e.timing.sfn e.timing.offset e.gains k) 32284 32767
    (received_by-small carrier load e.cell e.timing.sfn e.timing.offset e.gains k gains) (omega arith))

-- the bytes of an emission are parsed back into its samples
sent_back : (carrier : Carrier) (load : Option ℕ) (e : Emission) (bytes : List ℕ) → e.carrier ≡ carrier → AreGainsOf carrier e.gains → bytes ≡ bytes_of (sent_samples load e)
    → samples_of bytes ≡ samples_by carrier load e
unfolding sent_samples samples_by
sent_back carrier load e bytes by_carrier gains is =
    ap samples_of (is ∙ ap (λ (c : Carrier). bytes_of (samples_by c load e)) by_carrier) ∙ samples_back (samples_by carrier load e) (sent_fits carrier load e gains)

-- ---- the described cell is clean

no_error : IsWithin 0 nothing
no_error = record { re = omega arith; im = omega arith }

-- paired gains allow an error of 0
none_allowed : (carrier : Carrier) (gains : List Cpx) → ArePairedBy carrier gains → IsAllowedBy carrier gains 0
none_allowed OnePort gains paired = omega arith
none_allowed TwoPorts gains paired = record { both = omega arith; one = omega arith }
none_allowed LongPrefix gains paired = omega arith
none_allowed FourPorts gains paired = record { pairs = paired; quiet = omega arith }

sent_cleanly : EmittedIsClean → (carrier : Carrier) (load : Option ℕ) (e : Emission) → e.timing.sfn ≤ 1023 → IsOffset e.timing.offset → AreGainsOf carrier e.gains → ArePairedBy carrier e.gains →
    IsCleanBy carrier load (samples_by carrier load e) e.cell e.timing.sfn e.timing.offset e.gains 0
unfolding samples_by
sent_cleanly law carrier load e number within gains paired =
    let z : ℕ → Cpx = received_by carrier load e.cell e.timing.sfn e.timing.offset e.gains in
    subst (λ l. IsCleanBy carrier load l e.cell e.timing.sfn e.timing.offset e.gains 0)
    (values_below_same e.samples (λ i. sample_of (plus (z i) nothing)) (λ i. sample_of (z i)) (λ k below. ap sample_of (plus-nothing_right (z k))))
    (law carrier load e.cell e.timing.sfn e.timing.offset e.samples e.gains 0 (λ i. nothing) number within gains (none_allowed carrier e.gains paired) (λ i below. no_error))

-- ---- the described cell is listed

-- the lines of a listed cell appear in the list's text
held_lines : (carrier : Carrier) (list : List Entry) (plan : CellPlan) (first number : ℕ) → HoldsCellBy carrier list plan first number → IsPiece (sent_lines carrier plan first number) (report_text list)
held_lines carrier list plan first number held =
    let is : entry_lines held.entry ≡ sent_lines carrier plan first number =
    rw (held.id, held.start, held.sfn, held.sent.ports, held.sent.block.bandwidth, held.sent.block.duration, held.sent.block.resource, held.sent.block.spare, held.sent.sib1) refl in
    subst (λ l. IsPiece l (report_text list)) is (lines_stand list held.entry held.inside)

pub sent_is_found : EmittedIsClean → WhatIsSentIsFound
sent_is_found law carrier load description bytes text paired a b =
    let e = a.emission in
    let ranges = described_ranges_by carrier description e a.describes in
    let back = sent_back carrier load e bytes a.describes.is.carrier_is ranges.gains a.sent in
    let clean : IsCleanBy carrier load (samples_of bytes) e.cell e.timing.sfn e.timing.offset e.gains 0 =
    subst (λ samples. IsCleanBy carrier load samples e.cell e.timing.sfn e.timing.offset e.gains 0) (sym back)
    (sent_cleanly law carrier load e ranges.parts.number ranges.parts.within ranges.gains (paired e a.describes)) in
    let there = held carrier load e.cell e.timing.sfn e.timing.offset e.gains 0 (samples_of bytes) b.entries ranges.parts.sendable clean b.is_list in
    record {
      e = e;
      describes = a.describes;
      clean = clean;
      lines = subst (IsPiece (sent_lines carrier e.cell (start_of e.timing.offset) (number_at_start e.timing.sfn e.timing.offset))) (sym b.text_is)
          (held_lines carrier b.entries e.cell (start_of e.timing.offset) (number_at_start e.timing.sfn e.timing.offset) there);
    }
