use Rattle.std.proofs.Common.{◌≡◌, List, [], ◌++◌, ℕ, drop, refl, ap, sym, ◌∙◌, append-nil}
use Rattle.lte_types.specs.declared.carrier.Carrier.{Carrier}
use Rattle.lte_types.specs.declared.carrier.Carrier.TheVariants.{OnePort, TwoPorts, LongPrefix, FourPorts}
use Rattle.lte_args.specs.Words.{carrier_words, BeginsWithNo}
use Rattle.lte_args.proofs.parts.carrier_of.Goals as goal

-- a transmission scheme has at most two words
few : (carrier : Carrier) → drop 2 (carrier_words carrier) ≡ []
few OnePort = refl
few TwoPorts = refl
few LongPrefix = refl
few FourPorts = refl

-- if the arguments are exactly a transmission scheme's words, nothing is left after the scheme that is parsed
none_left : (words rest : List (List ℕ)) (read carrier : Carrier) → words ≡ carrier_words read ++ rest → (carrier_words read ≡ [] → BeginsWithNo carrier_words words) →
    words ≡ carrier_words carrier → rest ≡ []
none_left words rest OnePort carrier named unnamed is = sym named ∙ is ∙ unnamed refl carrier [] (is ∙ sym (append-nil (carrier_words carrier)))
none_left words rest TwoPorts carrier named unnamed is = ap (drop 2) (sym named ∙ is) ∙ few carrier
none_left words rest LongPrefix carrier named unnamed is = ap (drop 2) (sym named ∙ is) ∙ few carrier
none_left words rest FourPorts carrier named unnamed is = ap (drop 2) (sym named ∙ is) ∙ few carrier

pub returns-else-are_none-clause-none : goal.returns-else-are_none-clause-none
returns-else-are_none-clause-none c none carrier is =
    let read = c.carrier_in-carrier.ensures in
    let empty = c.are_none.ensures.1 (none_left _ _ _ carrier read.named read.unnamed is) in let left = c.if-are_none.false in cc
