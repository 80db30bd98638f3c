-- The fields and the CRC of the word that a cell broadcasts.
use Rattle.std.proofs.Common.{◌≡◌, ℕ, ◌/◌, ◌≤◌, ◌⊎◌, inl, inr, arith, refl, ap, sym, subst, ◌∙◌, List, ◌++◌, length, Bool, bit_xor}
use Rattle.cs_bits.specs.Numbers.{number as number_of, bits_of, part, field}
use Rattle.cs_bits.specs.Checks.{crc16_of, with_check_16}
use Rattle.cs_bits.proofs.Numbers.{number_of_bits}
use Rattle.cs_bits.proofs.Checks.{checked_16}
use Rattle.lte_types.specs.declared.bandwidth.Bandwidth.{Bandwidth}
use Rattle.lte_types.specs.declared.bandwidth.Bandwidth.TheVariants.{N6, N15, N25, N50, N75, N100}
use Rattle.lte_types.specs.declared.mib.Mib.{Mib}
use Rattle.lte_types.specs.Codes.{bandwidth, bandwidth_code, duration, duration_code, resource, resource_code}
use Rattle.lte_types.proofs.RoundTrips.{bandwidth-code, duration-code, duration_code_fits, resource-code, resource_code_fits}
use Rattle.pbch.specs.Master.{mask, PassesWith}
use Rattle.cell_grid.specs.declared.antenna.Port.{Port}
use Rattle.lte_types.specs.declared.carrier.Carrier.{Carrier}
use Rattle.lte_types.specs.declared.carrier.Carrier.TheVariants.{OnePort, TwoPorts, LongPrefix, FourPorts}
use Rattle.lte_types.specs.Carrier.{ports_of as count_of}
use Rattle.cell_plan.specs.declared.cell.CellPlan.{CellPlan}
use Rattle.cell_grid.specs.Block.{master_bits, master_word, port_word}
use Rattle.cell_grid.specs.Ports.{mask_by}
use Rattle.clean_air.specs.Heard.{SentMaster, bits_of_master, word_of_master, master_of_plan}

-- ---- the parts of a word

word_with : ℕ → ℕ → ℕ → ℕ → ℕ → ℕ → List Bool
word_with a b c d e f = (bits_of 3 a ++ bits_of 1 b ++ bits_of 2 c ++ bits_of 8 d ++ bits_of 10 e) ++ bits_of 16 f

record HasParts (word : List Bool) (a b c d e f : ℕ) : Type 0 where
  size : length word ≡ 40
  first : part word 0 3 ≡ bits_of 3 a
  second : part word 3 1 ≡ bits_of 1 b
  third : part word 4 2 ≡ bits_of 2 c
  fourth : part word 6 8 ≡ bits_of 8 d
  fifth : part word 14 10 ≡ bits_of 10 e

has_parts : (a b c d e f : ℕ) → HasParts (word_with a b c d e f) a b c d e f
unfolding word_with
has_parts a b c d e f = record { size = refl; first = refl; second = refl; third = refl; fourth = refl; fifth = refl }

-- the word of a master block in a frame: its size, its check, and its fields
pub record IsMasterWord (master : SentMaster) (number : ℕ) (word : List Bool) : Type 0 where
  pub size : length word ≡ 40
  pub few : field word 0 3 ≤ 5
  pub width : bandwidth (field word 0 3) ≡ master.width
  pub duration : duration (field word 3 1) ≡ master.duration
  pub resource : resource (field word 4 2) ≡ master.resource
  pub upper : field word 6 8 ≡ number / 4
  pub spare : field word 14 10 ≡ master.spare
  pub check : PassesWith master.ports word

-- one of the counts of antenna ports that a check can be masked for
abbrev pub IsPortCount : ℕ → Type 0
IsPortCount ports = (ports ≡ 1) ⊎ (ports ≡ 2) ⊎ (ports ≡ 4)

pub counts_ports : (carrier : Carrier) → IsPortCount (count_of carrier)
counts_ports OnePort = inl refl
counts_ports TwoPorts = inr (inl refl)
counts_ports LongPrefix = inl refl
counts_ports FourPorts = inr (inr refl)

passes_with : (ports : ℕ) (bits : List Bool) → IsPortCount ports → PassesWith ports (with_check_16 (mask ports) bits)
passes_with ports bits (inl e) = subst (λ p. PassesWith p (with_check_16 (mask p) bits)) (sym e) (record { count = inl refl; check = checked_16 0 bits (omega arith) })
passes_with ports bits (inr (inl e)) = subst (λ p. PassesWith p (with_check_16 (mask p) bits)) (sym e) (record { count = inr (inl refl); check = checked_16 65535 bits (omega arith) })
passes_with ports bits (inr (inr e)) = subst (λ p. PassesWith p (with_check_16 (mask p) bits)) (sym e) (record { count = inr (inr refl); check = checked_16 21845 bits (omega arith) })

bandwidth_code_fits : (width : Bandwidth) → bandwidth_code width ≤ 5
bandwidth_code_fits N6 = omega arith
bandwidth_code_fits N15 = omega arith
bandwidth_code_fits N25 = omega arith
bandwidth_code_fits N50 = omega arith
bandwidth_code_fits N75 = omega arith
bandwidth_code_fits N100 = omega arith

pub is_master_word : (master : SentMaster) (number : ℕ) → IsPortCount master.ports → master.spare ≤ 1023 → number ≤ 1023 → IsMasterWord master number (word_of_master master number)
unfolding word_of_master bits_of_master word_with
is_master_word master number count small known =
    let check : ℕ = bit_xor (crc16_of (bits_of_master master number)) (mask master.ports) in
    let parts = has_parts (bandwidth_code master.width) (duration_code master.duration) (resource_code master.resource) (number / 4) master.spare check in
    let width_fits = bandwidth_code_fits master.width in
    let code = ap number_of parts.first ∙ number_of_bits 3 (bandwidth_code master.width) (omega (arith, width_fits)) in
    record {
      size = parts.size;
      few = subst (λ n. n ≤ 5) (sym code) width_fits;
      width = ap bandwidth code ∙ bandwidth-code master.width;
      duration = ap duration (ap number_of parts.second ∙ number_of_bits 1 (duration_code master.duration) (let fits = duration_code_fits master.duration in omega (arith, fits))) ∙ duration-code master.duration;
      resource = ap resource (ap number_of parts.third ∙ number_of_bits 2 (resource_code master.resource) (let fits = resource_code_fits master.resource in omega (arith, fits))) ∙ resource-code master.resource;
      upper = ap number_of parts.fourth ∙ number_of_bits 8 (number / 4) (omega (arith, known));
      spare = ap number_of parts.fifth ∙ number_of_bits 10 master.spare (omega (arith, small));
      check = passes_with master.ports (bits_of_master master number) count;
    }

-- the block that is read of it
abbrev pub sent_mib : (master : SentMaster) → master.spare ≤ 1023 → ℕ → Mib
sent_mib master range number = record {
  bandwidth = master.width;
  duration = master.duration;
  resource = master.resource;
  upper = number / 4;
  spare = master.spare;
  spare_range = range;
}

-- ---- that of a plan

same_by : (carrier : Carrier) (plan : CellPlan) (sfn : ℕ) → master_word (mask_by carrier) plan.duration plan.resource sfn plan.spare ≡ word_of_master (master_of_plan carrier plan) sfn
unfolding master_word master_bits word_of_master bits_of_master
same_by OnePort plan sfn = refl
same_by TwoPorts plan sfn = refl
same_by LongPrefix plan sfn = refl
same_by FourPorts plan sfn = refl

-- each port sends it
pub same_word : (port : Port) (plan : CellPlan) (sfn : ℕ) → port_word port plan sfn ≡ word_of_master (master_of_plan port.carrier plan) sfn
same_word port plan sfn = same_by port.carrier plan sfn

pub is_block : (port : Port) (plan : CellPlan) (sfn : ℕ) → plan.spare ≤ 1023 → sfn ≤ 1023 → IsMasterWord (master_of_plan port.carrier plan) sfn (port_word port plan sfn)
is_block port plan sfn spare known =
    subst (λ word. IsMasterWord (master_of_plan port.carrier plan) sfn word) (sym (same_word port plan sfn)) (is_master_word (master_of_plan port.carrier plan) sfn (counts_ports port.carrier) spare known)
