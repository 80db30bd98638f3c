-- The recipe for recording `n`: its cell and how the cell is transmitted. (own)
use Rattle.std.specs.Prelude.{ℕ, ◌+◌, ◌*◌, ◌%◌, ◌^◌, pos, ℤ, neg_ℤ, ◌-ℤ◌, ◌≤ℤ◌, nat_abs, true, false, List, [], ◌∷◌}
use Rattle.std.specs.Prelude.{nat_eq, if◌then◌else◌, Some, None}
use Rattle.cs_num.specs.declared.Cpx.{Cpx}
use Rattle.cs_num.specs.Complex.{nothing}
use Rattle.lte_types.specs.declared.carrier.Carrier.{Carrier}
use Rattle.lte_types.specs.Carrier.{ports_of}
use Rattle.lte_types.specs.Codes.{duration, resource}
use Rattle.lte_types.specs.Numerology.{frame_length}
use Rattle.lte_types.specs.declared.mnc.Mnc.TheVariants.{Two as TwoDigits}
use Rattle.lte_types.specs.declared.plmn.Plmn.{Plmn}
use Rattle.lte_types.specs.declared.si_message.SiMessage.{SiMessage}
use Rattle.lte_types.specs.declared.sib1.Sib1.{Sib1}
use Rattle.cell_plan.specs.declared.cell.CellPlan.{CellPlan}
use Rattle.cell_plan.specs.Gains.{IsAllowedBy}

-- ---- the cell

-- the network 001/01 (country code 001, network code 01)
abbrev pub network : Plmn
network = record { mcc = Some (0 ∷ 0 ∷ 1 ∷ []); mnc = TwoDigits (0 ∷ 1 ∷ []); reserved = false }

-- a schedule entry, with the codes of its period and SIB types
abbrev pub message : ℕ → List ℕ → SiMessage
message period sibs = record { period = period; sibs = sibs }

-- the SystemInformationBlockType1 of recording `n`, which has 131 bits
abbrev pub information : ℕ → Sib1
information n = record {
  plmns = network ∷ [];
  tac = n % 65536;
  cell = n % 2 ^ 28;
  barred = false;
  intra = true;
  csg = false;
  csg_identity = None;
  q_rx = pos (n % 49) -ℤ pos 70;
  q_offset = None;
  p_max = None;
  band = 1 + n % 64;
  scheduling = message (n % 7) [] ∷ message (n % 7) (0 ∷ 2 ∷ []) ∷ [];
  tdd = None;
  window = n % 7;
  tag = n % 32;
  extended = false;
}

-- the plan of the cell in recording `n`; its transport block has 144 bits
abbrev pub plan : ℕ → CellPlan
plan n = record {
  identity = n % 504;
  duration = duration (n % 2);
  resource = resource (n % 4);
  spare = n % 1024;
  cfi = 2 + n % 2;
  start = 0;
  blocks = 6;
  mcs = 5;
  column = 2;
  sib1 = information n;
}

-- ---- the transmission

-- the number of the first frame in recording `n`
abbrev pub number : ℕ → ℕ
number n = n % 1024

-- the sample of the first frame at which recording `n` begins
abbrev pub offset : ℕ → ℕ
offset n = n % frame_length

-- the sample count of recording `n`, which is 10 to 99 frames
abbrev pub sample_count : ℕ → ℕ
sample_count n = frame_length * (10 + n % 90)

-- the gain in recording `n` for one antenna port
abbrev pub gain : ℕ → Cpx
gain n = record { re = pos (1 + n % 19); im = pos (n % 20) }

-- the gains in recording `n` for two antenna ports: port 0's and port 1's (`second_gain`)
abbrev pub first_gain : ℕ → Cpx
first_gain n = record { re = pos (1 + n % 9); im = pos (n % 10) }

abbrev pub second_gain : ℕ → Cpx
second_gain n = record { re = pos (n % 11); im = neg_ℤ (pos (n % 8)) }

-- the gains in recording `n` for four antenna ports: similar magnitudes, with phases around 0, 1/4, 1/2 and 3/4 of a
-- cycle
abbrev pub gains_of_four : ℕ → List Cpx
gains_of_four n =
    record { re = pos 4; im = pos (n % 7) -ℤ pos 3 }
    ∷ record { re = pos (n % 5) -ℤ pos 2; im = pos 4 }
    ∷ record { re = neg_ℤ (pos 3); im = pos (n % 4) -ℤ pos 2 }
    ∷ record { re = pos (n % 3) -ℤ pos 1; im = neg_ℤ (pos 4) }
    ∷ []

-- the four gains in recording `n` for `ports` antenna ports, 1, 2 or 4, with 0 for ports beyond `ports`
abbrev pub gains_of_ports : ℕ → ℕ → List Cpx
gains_of_ports ports n =
    if nat_eq ports 1 then gain n ∷ nothing ∷ nothing ∷ nothing ∷ []
    else (if nat_eq ports 2 then first_gain n ∷ second_gain n ∷ nothing ∷ nothing ∷ [] else gains_of_four n)

abbrev pub gains : Carrier → ℕ → List Cpx
gains carrier n = gains_of_ports (ports_of carrier) n

-- `bound` is the error bound: the maximum that a clean recording with gains `gains` allows
pub record IsBoundBy (carrier : Carrier) (gains : List Cpx) (bound : ℤ) : Type 0 where
  pub within : IsAllowedBy carrier gains (nat_abs bound)
  pub greatest : (m : ℕ) → IsAllowedBy carrier gains m → pos m ≤ℤ bound

abbrev pub IsBound : Carrier → ℕ → ℤ → Type 0
IsBound carrier n bound = IsBoundBy carrier (gains carrier n) bound
