-- Round trips between a recording's position and its first frame start.
use Rattle.std.proofs.Common.{◌≡◌, ℕ, ◌<◌, ◌≤◌, arith}
use Rattle.std.proofs.lemmas.Bool.Decides.{nat_tests}
use Rattle.lte_types.specs.Timing.{start_of, number_at_start, offset_of, number_before, TimingsComeBack, StartsComeBack}

pub same_offset : (offset : ℕ) → offset < 19200 → offset_of (start_of offset) ≡ offset
same_offset offset within = omega (arith, within)

pub same_number : (sfn offset : ℕ) → sfn ≤ 1023 → offset < 19200 → number_before (start_of offset) (number_at_start sfn offset) ≡ sfn
same_number sfn offset known within = grind (arith, nat_tests)

pub same_start : (start : ℕ) → start < 19200 → start_of (offset_of start) ≡ start
same_start start within = omega (arith, within)

pub same_number_there : (start number : ℕ) → start < 19200 → number ≤ 1023 → number_at_start (number_before start number) (offset_of start) ≡ number
same_number_there start number within known = grind (arith, nat_tests)

pub timings_come_back : TimingsComeBack
timings_come_back sfn offset known within = (same_offset offset within, same_number sfn offset known within)

pub starts_come_back : StartsComeBack
starts_come_back start number within known = (same_start start within, same_number_there start number within known)
