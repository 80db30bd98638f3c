-- With four ports, a pair's soft values have the signs of its bits.
use Rattle.std.proofs.Common.{ℕ, zero, suc, ◌+◌, ◌*◌, ◌%◌, ◌<◌, ◌≤◌, arith, refl}
use Rattle.cs_num.specs.declared.Cpx.{Cpx}
use Rattle.cs_num.specs.Complex.{square}
use Rattle.norms.specs.Magnitudes.{energy_below, ArePaired}
use Rattle.soft_bits.specs.Pairs.{over_four}
use Rattle.budget.proofs.Seen.{four_amplitudes_are_seen_in_recording}
use Rattle.two_ports.proofs.Energies.{four_squares}
use Rattle.two_ports.proofs.ReceivedPairs.{received_pair_speaks_by}
use Rattle.two_ports.proofs.Values.{IsPairing, Margins, AreMargins, HavePart, values_speak}
use Rattle.four_ports.specs.Received.{PairValuesSpeak, ReceivedPairSpeaks}

is_over_four : IsPairing over_four
is_over_four = record { lower = λ i. omega arith; upper = λ i. omega arith; apart = λ i. omega arith; by_three = refl; by_six = λ more. refl }

have_part : (gains : ℕ → Cpx) → ArePaired gains → HavePart over_four 3 8 gains
have_part gains paired = record { each = λ i. by (i % 2) (omega arith) }
  where
    by : (odd : ℕ) → odd < 2 → 3 * energy_below 4 gains ≤ 8 * (square (gains odd) + square (gains (2 + odd)))
    by zero l = let same = four_squares gains in let part = paired.even in omega (arith, same, part)
    by (suc zero) l = let same = four_squares gains in let part = paired.odd in omega (arith, same, part)
    by (suc (suc n)) l = absurd (omega (arith, l))

-- 36 * 900^2 * 16200 * 8 / 3 for the channels, if the pair's gains have three eighths, and 900^2 * 8 / 3 for the
-- observed symbols. The energy's 6340239360, and six times 34517463575, are less than 540 * 398131200. With 912 in
-- place of 900 they are more, so that no quota of 8 follows.
abbrev four_margins : Margins
four_margins = record {
  most = 900;
  weight = 5;
  part = 3;
  whole = 8;
  estimate = 1259712000000;
  seen = 2160000;
  seen_root = 2079;
  estimate_root = 285708484;
  both_root = 3299077399;
  energy = 6340239360;
  least = 1;
}

four_margins_hold : AreMargins over_four four_margins
four_margins_hold = grind arith

pub pair_values_speak : PairValuesSpeak
pair_values_speak gains paired = values_speak over_four four_margins is_over_four four_margins_hold gains (have_part gains paired)

pub received_pair_speaks : ReceivedPairSpeaks
received_pair_speaks gains paired = received_pair_speaks_by over_four 7 900 1 four_amplitudes_are_seen_in_recording gains (pair_values_speak gains paired)
