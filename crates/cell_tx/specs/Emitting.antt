-- The computation of samples frame by frame, which computes anew only the symbols that differ between frames. (own)
use Rattle.std.specs.Prelude.{◌≡◌, ℕ, ◌+◌, ◌-◌, ◌*◌, ◌%◌, ◌<◌, ◌≤◌, Bool, true, false, ◌&&◌, ◌||◌, nat_le, nat_lt, min}
use Rattle.std.specs.Prelude.{if◌then◌else◌, Option, List, length, take, drop, slice_index_or}
use Rattle.finite.specs.Lists.{values_below}
use Rattle.cs_num.specs.declared.Cpx.{Cpx}
use Rattle.cs_num.specs.declared.Sample.{Sample}
use Rattle.cs_num.specs.Complex.{IsWithin, times, plus, sample_at, value_of, sample_of, silence}
use Rattle.lte_types.specs.declared.carrier.Carrier.{Carrier}
use Rattle.lte_types.specs.declared.numerology.Prefix.{Prefix}
use Rattle.lte_types.specs.Carrier.{prefix_of}
use Rattle.lte_types.specs.Numerology.{frame_length, symbols_of_slot}
use Rattle.lte_types.specs.Timing.{number_of}
use Rattle.cell_grid.specs.declared.antenna.Port.{Port}
use Rattle.cell_plan.specs.declared.cell.CellPlan.{CellPlan}
use Rattle.cell_tx.specs.declared.source.Source.{Source}
use Rattle.cell_tx.specs.declared.frame_symbols.Symbols.{Symbols}
use Rattle.cell_grid.specs.Ports.{port_prefix}
use Rattle.cell_tx.specs.Emission.{sent_by}
use Rattle.cell_tx.specs.Mixing.{mixed_by}
use Rattle.cell_grid.specs.Load.{sent_element}
use Rattle.cell_tx.specs.Starts.{first_sample}
use Rattle.cell_tx.specs.Sent.{prefix_frame_sample}

-- ---- samples of a source

-- sample `i` of a source; `made_samples` lists all samples with 16-bit components
abbrev pub made : Source → ℕ → Cpx
made s i = mixed_by s.ports (λ port. sent_by s.load port s.cell.now s.timing.sfn (i + s.timing.offset)) s.gains

abbrev pub made_samples : Source → List Sample
made_samples s = values_below s.samples (λ i. sample_of (made s i))

-- ---- frames of a source

-- sample `i` of the frame numbered `n`, as a port transmits it
abbrev pub sent_in_frame : Option ℕ → Port → CellPlan → ℕ → ℕ → Cpx
sent_in_frame load port plan n i = prefix_frame_sample (port_prefix port) (sent_element load port plan) n i

-- sample `i` of the frame numbered `n`: the sum of the source's ports, each times its gain
abbrev pub framed : Source → ℕ → ℕ → Cpx
framed s n i = mixed_by s.ports (λ port. sent_in_frame s.load port s.cell.now n i) s.gains

-- `samples` are the samples of frame `n`
abbrev pub AreFrame : Source → ℕ → List Sample → Type 0
AreFrame s n samples = (i : ℕ) → i < frame_length → slice_index_or samples i silence ≡ sample_of (framed s n i)

-- ---- symbol ranges in a frame

-- whether `i` is at least `first` and below `last`
abbrev pub is_between : ℕ → ℕ → ℕ → Bool
is_between first last i = nat_le first i && nat_lt i last

-- whether sample `i` of a frame lies in either symbol range: `first` up to but not including `last`, or `again` up to
-- but not including `end`
abbrev pub is_made_anew : Prefix → Symbols → ℕ → Bool
is_made_anew prefix symbols i =
    is_between (first_sample prefix symbols.first) (first_sample prefix symbols.last) i
    || is_between (first_sample prefix symbols.again) (first_sample prefix symbols.end) i

-- `symbols` has two ranges in order, within a frame
pub record AreSpans (prefix : Prefix) (symbols : Symbols) : Type 0 where
  pub first : symbols.first ≤ symbols.last
  pub again : symbols.last ≤ symbols.again
  pub end : symbols.again ≤ symbols.end
  pub most : symbols.end ≤ 20 * symbols_of_slot prefix

-- the two symbol ranges together contain each sample of a frame
abbrev pub AreAll : Prefix → Symbols → Type 0
AreAll prefix symbols = (i : ℕ) → i < frame_length → is_made_anew prefix symbols i ≡ true

-- outside the two symbol ranges, the samples of every port are equal in all frames
abbrev pub AreOwn : Carrier → Option ℕ → Symbols → Type 0
AreOwn carrier load symbols =
    (port : Port) (plan : CellPlan) (a b i : ℕ) → port.carrier ≡ carrier → i < frame_length →
    is_made_anew (prefix_of carrier) symbols i ≡ false →
    sent_in_frame load port plan a i ≡ sent_in_frame load port plan b i

-- ---- partially changed samples

-- At the frame's indices where `there` holds, a sample in `new` is the changed sample of `old`; elsewhere `new` and
-- `old` are equal.
abbrev pub AreChanged : (ℕ → Bool) → (ℕ → Sample → Sample) → List Sample → List Sample → Type 0
AreChanged there change old new =
    (i : ℕ) → i < frame_length →
    slice_index_or new i silence
    ≡ (if there i then change i (slice_index_or old i silence) else slice_index_or old i silence)

-- sample `before` plus value `i` times `gain`
abbrev pub added : Cpx → (ℕ → Cpx) → ℕ → Sample → Sample
added gain values i before = sample_of (plus (value_of before) (times gain (values i)))

-- where `there` holds, the sample plus the value times `gain` fits 16 bits
abbrev pub FitSamples : (ℕ → Bool) → Cpx → (ℕ → Cpx) → List Sample → Type 0
FitSamples there gain values samples =
    (i : ℕ) → i < frame_length → there i ≡ true → IsWithin 32767 (plus (sample_at samples i) (times gain (values i)))

-- samples are silent where `there` holds
abbrev pub AreSilent : (ℕ → Bool) → List Sample → Type 0
AreSilent there samples = (i : ℕ) → i < frame_length → there i ≡ true → slice_index_or samples i silence ≡ silence

-- ---- pieces in order

-- The samples of an emission and the current position: the current piece begins at sample `from`, and the next piece at
-- sample `at`. The first frame begins `offset` samples before the emission.
pub record Progress : Type 0 where
  pub samples : List Sample
  pub offset : ℕ
  pub from : ℕ
  pub at : ℕ

-- the end of the piece that begins at `at`: the frame's end, or the samples' end
abbrev pub piece_end : Progress → ℕ
piece_end p = min (p.at + (frame_length - (p.at + p.offset) % frame_length)) (length p.samples)

-- the samples of the current piece
abbrev pub piece_of : Progress → List Sample
piece_of p = take (p.at - p.from) (drop p.from p.samples)

-- The invariant of an emitter: the current piece, from `from` to `at`, lies in one frame, which `frame` holds. `begun`:
-- in the middle of the samples, the current piece is not empty.
pub record IsMade (s : Source) (from at : ℕ) (frame : List Sample) : Type 0 where
  pub order : from ≤ at
  pub most : at ≤ s.samples
  pub whole : length frame ≡ frame_length
  pub within : (from + s.timing.offset) % frame_length + (at - from) ≤ frame_length
  pub held : from < at → AreFrame s (number_of s.timing.sfn (from + s.timing.offset)) frame
  pub begun : 0 < at → at < s.samples → from < at
