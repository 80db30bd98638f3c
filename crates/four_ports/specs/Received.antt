-- Soft values with four antenna ports: a transmit diversity pair's soft values have the signs of the sent bits if no
-- pair of ports is weak. (own)
use Rattle.std.specs.Prelude.{ℕ}
use Rattle.cs_num.specs.declared.Cpx.{Cpx}
use Rattle.norms.specs.Magnitudes.{ArePaired}
use Rattle.soft_bits.specs.Pairs.{over_four}
use Rattle.two_ports.specs.Received.{SpeakWith, SpeakReceivedWith}

-- a law: a pair's four soft values have its bits' signs if each transmit diversity pair of ports has at least three
-- eighths of the gains' total energy, and each received element is off by at most 900 / 64 amplitude units times the
-- root of the total energy
abbrev pub PairValuesSpeak : Type 0
PairValuesSpeak = (gains : ℕ → Cpx) → ArePaired gains → SpeakWith gains over_four 900 1

-- a law: in a recording, a pair's four soft values have its bits' signs if each transmit diversity pair of ports has at
-- least three eighths of the gains' total energy, and each symbol's error energy is at most 7 times the total energy
abbrev pub ReceivedPairSpeaks : Type 0
ReceivedPairSpeaks = (gains : ℕ → Cpx) → ArePaired gains → SpeakReceivedWith gains over_four 7 1
