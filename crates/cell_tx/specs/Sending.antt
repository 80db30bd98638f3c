-- The frames that are transmitted, and the samples of a complete transmission. (own)
use Rattle.std.specs.Prelude.{ℕ, ◌+◌, List}
use Rattle.finite.specs.Lists.{values_below}
use Rattle.cs_num.specs.declared.Cpx.{Cpx}
use Rattle.cs_num.specs.declared.Sample.{Sample}
use Rattle.cs_num.specs.Complex.{sample_of}
use Rattle.cell_grid.specs.declared.grid.Signals.{Signals}
use Rattle.cell_tx.specs.declared.samples.Sender.{Sender}
use Rattle.cell_plan.specs.declared.transmission.Transmission.{Transmission}
use Rattle.cell_plan.specs.Pair.{gain_of}
use Rattle.cell_grid.specs.Ports.{port_prefix}
use Rattle.cell_grid.specs.Load.{sent_element}
use Rattle.cell_tx.specs.Starts.{first_sample}
use Rattle.cell_grid.specs.Grid.{Elements}
use Rattle.cell_tx.specs.Sent.{prefix_frame_sample, received}
use Rattle.cell_tx.specs.Emission.{sent_by}

-- ---- the frame of `Signals`

abbrev pub elements_of : Signals → Elements
elements_of signals = sent_element signals.load signals.port signals.cell.now

-- sample `i` of the frame that `signals` describe
abbrev pub sample_in : Signals → ℕ → Cpx
sample_in signals i = prefix_frame_sample (port_prefix signals.port) (elements_of signals) signals.sfn i

-- the first sample of symbol `n` in the frame
abbrev pub symbol_start : Signals → ℕ → ℕ
symbol_start signals n = first_sample (port_prefix signals.port) n

-- ---- a sender's sequence

-- sample `i` of the sequence that a sender transmits
abbrev pub sample_by : Sender → ℕ → Cpx
sample_by sender i = sent_by sender.load sender.port sender.cell.now sender.timing.sfn (i + sender.timing.offset)

-- the samples of a transmission, as received without errors
abbrev pub received_samples : Transmission → List Sample
received_samples t =
    values_below t.samples (λ i. sample_of (received t.cell t.sfn t.offset (gain_of t.gain) i))
