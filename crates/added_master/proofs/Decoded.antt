-- The MIB that added sums decode to.
use Rattle.std.proofs.Common.{◌≡◌, ℕ, ◌<◌, ◌≤◌, Bool, List, ℤ, arith, sym, ap, subst, ◌∙◌}
use Rattle.std.proofs.Math.Bridge.{le_prop}
use Rattle.cs_bits.specs.Numbers.{field, part}
use Rattle.cs_bits.specs.Checks.{HasCheck16}
use Rattle.cs_bits.proofs.Numbers.{number_below}
use Rattle.lte_types.specs.declared.mib.Mib.{Mib}
use Rattle.lte_types.specs.Codes.{bandwidth, duration, resource}
use Rattle.tailbite.specs.LeastWord.{IsLeastWord}
use Rattle.tailbite.proofs.Only.{one_word}
use Rattle.pbch.specs.Master.{mask}
use Rattle.added_master.specs.declared.master.AddedMaster.{AddedMaster}
use Rattle.added_master.specs.Master.{matches_of, least_matches, IsCandidate, DecodesAdded}
use Rattle.added_master.specs.Laws.{OnlyOneDecoded}

-- no candidate is decoded if one of its properties refuses the word of minimum cost
pub refused : (sums : List (List ℤ)) (w : List Bool) (ports phase upper matches : ℕ) → IsLeastWord sums w → matches ≡ matches_of sums w →
    (least_matches ≤ matches → HasCheck16 (mask ports) w → field w 6 8 ≡ upper → field w 0 3 ≤ 5 → ⊥) →
    (m : AddedMaster) → IsCandidate ports phase upper m → DecodesAdded sums m → ⊥
refused sums w ports phase upper matches least count free m is d =
    let same : d.word ≡ w = one_word sums d.word w d.least least in
    free (subst (λ (n : ℕ). least_matches ≤ n) (d.matches ∙ ap (matches_of sums) same ∙ sym count) d.enough)
    (subst (λ (n : ℕ). HasCheck16 (mask n) w) is.0 (subst (HasCheck16 (mask m.ports)) same d.check.check))
    (sym (ap (λ v. field v 6 8) same) ∙ sym d.mib.upper ∙ is.2)
    (subst (λ v. field v 0 3 ≤ 5) same d.width)

-- the upper frame number bits are eight
pub upper-below : (sums : List (List ℤ)) (m : AddedMaster) → DecodesAdded sums m → m.mib.upper < 256
upper-below sums m d = let e = d.mib.upper in let small = number_below (part d.word 6 8) in omega (arith, e, small)

-- ---- equal MIBs

same_spare : (mib : Mib) (spare : ℕ) → mib.spare ≡ spare → (within : spare ≤ 1023) → mib ≡ record mib { spare = spare; spare_range = within }
same_spare mib spare e = subst (λ s. (within : s ≤ 1023) → mib ≡ record mib { spare = s; spare_range = within }) e
    (λ within. ap (λ w. record mib { spare_range = w }) (le_prop mib.spare_range within))

same_mib : (a b : Mib) → a.bandwidth ≡ b.bandwidth → a.duration ≡ b.duration → a.resource ≡ b.resource → a.upper ≡ b.upper → a.spare ≡ b.spare → a ≡ b
same_mib a b width length share frame bits =
    ap (λ x. record a { bandwidth = x }) width
    ∙ ap (λ x. record a { bandwidth = b.bandwidth; duration = x }) length
    ∙ ap (λ x. record a { bandwidth = b.bandwidth; duration = b.duration; resource = x }) share
    ∙ ap (λ x. record a { bandwidth = b.bandwidth; duration = b.duration; resource = b.resource; upper = x }) frame
    ∙ same_spare (record a { bandwidth = b.bandwidth; duration = b.duration; resource = b.resource; upper = b.upper }) b.spare bits b.spare_range

same_master : (a b : AddedMaster) → a.ports ≡ b.ports → a.phase ≡ b.phase → a.mib ≡ b.mib → a.matches ≡ b.matches → a ≡ b
same_master a b ports phase mib matches =
    ap (λ x. record a { ports = x }) ports
    ∙ ap (λ x. record a { ports = b.ports; phase = x }) phase
    ∙ ap (λ x. record a { ports = b.ports; phase = b.phase; mib = x }) mib
    ∙ ap (λ x. record a { ports = b.ports; phase = b.phase; mib = b.mib; matches = x }) matches

pub only_one_decoded : OnlyOneDecoded
only_one_decoded sums a b da db ports phase =
    let same : da.word ≡ db.word = one_word sums da.word db.word da.least db.least in
    let fa = da.mib in
    let fb = db.mib in
    same_master a b ports phase
    (same_mib a.mib b.mib
    (fa.bandwidth ∙ ap (λ w. bandwidth (field w 0 3)) same ∙ sym fb.bandwidth)
    (fa.duration ∙ ap (λ w. duration (field w 3 1)) same ∙ sym fb.duration)
    (fa.resource ∙ ap (λ w. resource (field w 4 2)) same ∙ sym fb.resource)
    (fa.upper ∙ ap (λ w. field w 6 8) same ∙ sym fb.upper)
    (fa.spare ∙ ap (λ w. field w 14 10) same ∙ sym fb.spare))
    (da.matches ∙ ap (matches_of sums) same ∙ sym db.matches)
