-- Laws on the samples of transmitted cells.
use Rattle.std.specs.Prelude.{◌≡◌, ℕ, ◌+◌, ◌-◌, ◌*◌, ◌/◌, ◌%◌, ◌<◌, ◌≤◌, Option, List}
use Rattle.cs_num.specs.declared.Sample.{Sample}
use Rattle.cs_num.specs.Complex.{IsWithin, square, plus, times, sample_of}
use Rattle.fold128.specs.Symbol.{useful_at}
use Rattle.lte_types.specs.declared.carrier.Carrier.{Carrier}
use Rattle.lte_types.specs.declared.numerology.Prefix.{Prefix}
use Rattle.lte_types.specs.Numerology.{frame_length, IsPrefix, prefix_length, symbols_of_slot, useful_start, useful_length}
use Rattle.cell_plan.specs.declared.cell.CellPlan.{CellPlan}
use Rattle.cell_grid.specs.declared.antenna.Port.{Port}
use Rattle.cell_grid.specs.Ports.{port_prefix}
use Rattle.cell_grid.specs.Load.{sent_element}
use Rattle.cell_grid.specs.Grid.{Elements}
use Rattle.cell_tx.specs.Sent.{prefix_frame_sample, prefix_sent, received}
use Rattle.finite.specs.Lists.{values_below}
use Rattle.cs_num.specs.declared.Cpx.{Cpx}
use Rattle.cs_num.specs.Gain.{IsGain}
use Rattle.lte_types.specs.Timing.{IsOffset, start_of, number_at_start}
use Rattle.cell_plan.specs.Gains.{AreGains, IsAllowed, AreGainsOf, IsAllowedBy}
use Rattle.cell_tx.specs.Clean.{IsCleanOf, IsClean, received_of_two, IsCleanOfTwo}
use Rattle.cell_tx.specs.Emission.{received_by, IsCleanBy}

-- the useful part of symbol `l` in a slot begins at sample `useful_start` of the frame, with either cyclic prefix
abbrev pub UsefulPartsStand : Type 0
UsefulPartsStand =
    (prefix : Prefix) (grid : Elements) (sfn slot l n : ℕ) → IsPrefix prefix → l < symbols_of_slot prefix →
    n < useful_length →
    prefix_frame_sample prefix grid sfn (useful_start prefix 0 slot l + n)
    ≡ useful_at (grid sfn (slot / 2) (symbols_of_slot prefix * (slot % 2) + l)) n

-- a symbol's cyclic prefix repeats the end of its useful part
abbrev pub PrefixesRepeat : Type 0
PrefixesRepeat =
    (prefix : Prefix) (grid : Elements) (sfn slot l d : ℕ) → IsPrefix prefix → l < symbols_of_slot prefix → 1 ≤ d →
    d ≤ prefix_length prefix l →
    prefix_frame_sample prefix grid sfn (useful_start prefix 0 slot l - d)
    ≡ useful_at (grid sfn (slot / 2) (symbols_of_slot prefix * (slot % 2) + l)) (useful_length - d)

-- frame `j` of a sequence that begins with frame `sfn` has the number `sfn` plus `j`, modulo 1024
abbrev pub FramesFollow : Type 0
FramesFollow = (prefix : Prefix) (grid : Elements) (sfn j i : ℕ) → i < frame_length →
    prefix_sent prefix grid sfn (frame_length * j + i) ≡ prefix_frame_sample prefix grid ((sfn + j) % 1024) i

-- in a sequence from sample `offset` of a frame, the first whole frame begins at sample `start_of offset`, and the
-- following frames come in order
abbrev pub FramesBeginAtStart : Type 0
FramesBeginAtStart =
    (prefix : Prefix) (grid : Elements) (sfn offset j i : ℕ) → sfn ≤ 1023 → IsOffset offset → i < frame_length →
    prefix_sent prefix grid sfn (start_of offset + frame_length * j + i + offset)
    ≡ prefix_frame_sample prefix grid ((number_at_start sfn offset + j) % 1024) i

-- a resource element at any port, with or without load, has components of magnitude at most 127 (`ElementsAreWithin`)
-- and a magnitude up to 128 (`ElementsAreSmall`)
abbrev pub ElementsAreWithin : Type 0
ElementsAreWithin =
    (load : Option ℕ) (port : Port) (plan : CellPlan) (sfn subframe symbol k : ℕ) →
    IsWithin 127 (sent_element load port plan sfn subframe symbol k)

abbrev pub ElementsAreSmall : Type 0
ElementsAreSmall =
    (load : Option ℕ) (port : Port) (plan : CellPlan) (sfn subframe symbol k : ℕ) →
    square (sent_element load port plan sfn subframe symbol k) ≤ 128 * 128

-- if no resource element has a magnitude above 128, no sample has a magnitude above 1,153
abbrev pub SmallElementsMakeSmallSamples : Type 0
SmallElementsMakeSmallSamples =
    (prefix : Prefix) (grid : Elements) →
    ((sfn subframe symbol k : ℕ) → square (grid sfn subframe symbol k) ≤ 128 * 128) → (sfn i : ℕ) →
    square (prefix_sent prefix grid sfn i) ≤ 1153 * 1153

-- no sample that a cell's port sends has a magnitude above 1,153
abbrev pub SamplesAreSmall : Type 0
SamplesAreSmall =
    (load : Option ℕ) (port : Port) (plan : CellPlan) (sfn i : ℕ) →
    square (prefix_sent (port_prefix port) (sent_element load port plan) sfn i) ≤ 1153 * 1153

-- the values plus the errors, as samples `0` to `count - 1`
abbrev pub values_with : ℕ → (ℕ → Cpx) → (ℕ → Cpx) → List Sample
values_with count values errors = values_below count (λ i. sample_of (plus (values i) (errors i)))

-- `count` samples of a sequence from sample `offset`, times the gain, plus errors
abbrev pub received_with : (ℕ → Cpx) → ℕ → ℕ → Cpx → (ℕ → Cpx) → List Sample
received_with sequence offset count gain errors = values_with count (λ i. times gain (sequence (i + offset))) errors

-- a sequence times a gain, plus any errors of at most twice the gain's magnitude, is a clean recording
abbrev pub ReceivedWithErrorsIsClean : Type 0
ReceivedWithErrorsIsClean =
    (sequence : ℕ → Cpx) (offset count : ℕ) (gain : Cpx) (eps : ℕ) (errors : ℕ → Cpx) → IsOffset offset → IsGain gain →
    eps * eps ≤ 4 * square gain → ((i : ℕ) → i < count → IsWithin eps (errors i)) →
    IsCleanOf sequence (received_with sequence offset count gain errors) offset gain eps

-- if a sample has a magnitude up to 1,153, its product with the gain, plus an error of at most twice the gain's
-- magnitude, has components up to 32,340 and fits 16 bits
abbrev pub ReceivedWithErrorsFits : Type 0
ReceivedWithErrorsFits =
    (clean gain error : Cpx) (eps : ℕ) → square clean ≤ 1153 * 1153 → IsGain gain → eps * eps ≤ 4 * square gain →
    IsWithin eps error →
    IsWithin 32340 (plus (times gain clean) error)

-- the samples of a cell times a gain are a clean recording, without errors
abbrev pub ReceivedIsClean : Type 0
ReceivedIsClean = (plan : CellPlan) (sfn offset count : ℕ) (gain : Cpx) → sfn ≤ 1023 → IsOffset offset → IsGain gain →
    IsClean (values_below count (λ i. sample_of (received plan sfn offset gain i))) plan sfn offset gain 0

-- ---- two antenna ports

-- `count` samples of two sequences from sample `offset`, each times its gain, plus errors
abbrev pub received_of_two_with : (ℕ → Cpx) → (ℕ → Cpx) → ℕ → ℕ → Cpx → Cpx → (ℕ → Cpx) → List Sample
received_of_two_with first second offset count gain other errors =
    values_with count (received_of_two first second offset gain other) errors

-- two sequences times their gains, plus any errors that the gains allow (`IsAllowed`), are a clean recording of both
abbrev pub ReceivedOfTwoIsClean : Type 0
ReceivedOfTwoIsClean =
    (first second : ℕ → Cpx) (offset count : ℕ) (gain other : Cpx) (eps : ℕ) (errors : ℕ → Cpx) →
    IsOffset offset → AreGains gain other →
    IsAllowed gain other eps → ((i : ℕ) → i < count → IsWithin eps (errors i)) →
    IsCleanOfTwo first second (received_of_two_with first second offset count gain other errors) offset gain other eps

-- if two samples have magnitudes up to 1,153, the sum of their products with the gains has components up to 32,284
abbrev pub ReceivedOfTwoIsSmall : Type 0
ReceivedOfTwoIsSmall =
    (first second gain other : Cpx) → square first ≤ 1153 * 1153 → square second ≤ 1153 * 1153 → AreGains gain other →
    IsWithin 32284 (plus (times gain first) (times other second))

-- if two samples have magnitudes up to 1,153, the sum of their products with the gains, plus an error that the gains
-- allow, has components up to 32,293 and fits 16 bits
abbrev pub ReceivedOfTwoFits : Type 0
ReceivedOfTwoFits =
    (first second gain other error : Cpx) (eps : ℕ) →
    square first ≤ 1153 * 1153 → square second ≤ 1153 * 1153 → AreGains gain other →
    IsAllowed gain other eps → IsWithin eps error →
    IsWithin 32293 (plus (plus (times gain first) (times other second)) error)

-- ---- transmission schemes

-- the samples of an emission plus any errors that the gains allow (`IsAllowedBy`) are a clean recording
abbrev pub EmittedIsClean : Type 0
EmittedIsClean =
    (carrier : Carrier) (load : Option ℕ) (plan : CellPlan) (sfn offset count : ℕ) (gains : List Cpx) (eps : ℕ)
    (errors : ℕ → Cpx) →
    sfn ≤ 1023 → IsOffset offset → AreGainsOf carrier gains → IsAllowedBy carrier gains eps →
    ((i : ℕ) → i < count → IsWithin eps (errors i)) →
    IsCleanBy carrier load (values_with count (received_by carrier load plan sfn offset gains) errors)
    plan sfn offset gains eps

-- the samples of an emission without errors have components up to 32,284
abbrev pub EmittedIsSmall : Type 0
EmittedIsSmall =
    (carrier : Carrier) (load : Option ℕ) (plan : CellPlan) (sfn offset : ℕ) (gains : List Cpx) (i : ℕ) →
    AreGainsOf carrier gains →
    IsWithin 32284 (received_by carrier load plan sfn offset gains i)
