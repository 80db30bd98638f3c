-- Soft values decode to at most one MIB.
use Rattle.std.proofs.Common.{◌≡◌, ℕ, ◌≤◌, ◌⊎◌, Bool, List, ℤ, arith, sym, ap, subst, ◌∙◌, bit_xor}
use Rattle.std.specs.Int.Bits.{xor_assoc, xor_self, xor_zero_l}
use Rattle.std.proofs.lemmas.Bool.Decides.{nat_tests}
use Rattle.conv_code.specs.Cost.{word_cost}
use Rattle.tailbite.specs.LeastWord.{IsLeastWord}
use Rattle.cs_bits.specs.Checks.{crc16_of, message_of, check_of}
use Rattle.cs_bits.specs.Numbers.{field}
use Rattle.lte_types.specs.Codes.{bandwidth, duration, resource}
use Rattle.pbch.specs.Master.{mask, PassesWith, Decodes}
use Rattle.pbch.specs.Laws.{IsOneMaster}
use Rattle.tailbite.proofs.Only.{one_word}

-- values decode to no word if the minimum-cost word has no mask or a reserved bandwidth code
pub none_by : (values : List (List ℤ)) (w : List Bool) → IsLeastWord values w →
    ((ports : ℕ) → PassesWith ports w → field w 0 3 ≤ 5 → ⊥) →
    (word : List Bool) (ports : ℕ) → Decodes values word ports → ⊥
none_by values w least refused word ports decodes =
    let same : word ≡ w = one_word values word w decodes.least least in
    refused ports (subst (PassesWith ports) same decodes.check) (subst (λ v. field v 0 3 ≤ 5) same decodes.width)

-- a mask applied twice cancels
unmasked : (r m : ℕ) → bit_xor r (bit_xor r m) ≡ m
unmasked r m = sym (xor_assoc r r m) ∙ ap (λ n. bit_xor n m) (xor_self r) ∙ xor_zero_l m

same_mask : (r p q : ℕ) → bit_xor r (mask p) ≡ bit_xor r (mask q) → mask p ≡ mask q
same_mask r p q e = sym (unmasked r (mask p)) ∙ ap (bit_xor r) e ∙ unmasked r (mask q)

-- each number of ports has its own mask
same_ports : (p q : ℕ) → (p ≡ 1) ⊎ (p ≡ 2) ⊎ (p ≡ 4) → (q ≡ 1) ⊎ (q ≡ 2) ⊎ (q ≡ 4) → mask p ≡ mask q → p ≡ q
same_ports p q hp hq e = grind (arith, nat_tests, hp, hq, e)

pub one_master : IsOneMaster
one_master values a b ha hb =
    let same : ha.word ≡ hb.word = one_word values ha.word hb.word ha.decodes.least hb.decodes.least in
    let fa = ha.mib in
    let fb = hb.mib in
    let checks : bit_xor (crc16_of (message_of 16 ha.word)) (mask a.ports) ≡ bit_xor (crc16_of (message_of 16 ha.word)) (mask b.ports) =
    sym ha.decodes.check.check ∙ ap (check_of 16) same ∙ hb.decodes.check.check ∙ ap (λ w. bit_xor (crc16_of (message_of 16 w)) (mask b.ports)) (sym same) in
    record {
      ports = same_ports a.ports b.ports ha.decodes.check.count hb.decodes.check.count (same_mask _ a.ports b.ports checks);
      cost = ha.cost ∙ ap (word_cost values) same ∙ sym hb.cost;
      bandwidth = fa.bandwidth ∙ ap (λ w. bandwidth (field w 0 3)) same ∙ sym fb.bandwidth;
      duration = fa.duration ∙ ap (λ w. duration (field w 3 1)) same ∙ sym fb.duration;
      resource = fa.resource ∙ ap (λ w. resource (field w 4 2)) same ∙ sym fb.resource;
      upper = fa.upper ∙ ap (λ w. field w 6 8) same ∙ sym fb.upper;
      spare = fa.spare ∙ ap (λ w. field w 14 10) same ∙ sym fb.spare;
    }
