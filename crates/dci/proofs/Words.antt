-- From a grant to its bits, and back.
use Rattle.std.proofs.Common.{◌≡◌, ℕ, ◌<◌, ◌⊎◌, inl, inr, Bool, true, false, nat_eq, List, [], ◌∷◌, ◌++◌, map, length, refl, sym, ◌∙◌, arith}
use Rattle.std.proofs.lemmas.Bool.Decides.{nat_tests}
use Rattle.cs_bits.specs.Numbers.{number, bits_of, part}
use Rattle.cs_bits.proofs.Numbers.{number_below, number_of_bits, bits_of_is, whole_part}
use Rattle.dci.specs.declared.grant.Grant.{Grant}
use Rattle.dci.specs.Fields.{bit, tpc_low}
use Rattle.lte_types.specs.Assignment.{AreBlocks}
use Rattle.dci.specs.Assignment.{riv_of}
use Rattle.dci.specs.Format1A.{Carries, IsSentFor, IsGrant, column_of, sent_word}

riv_small : (start blocks : ℕ) → AreBlocks start blocks → riv_of start blocks < 32
riv_small start blocks are = let some = are.some in let inside = are.inside in grind (arith, nat_tests)

column_low : (column : ℕ) → (column ≡ 2) ⊎ (column ≡ 3) → column ≡ column_of (nat_eq column 3)
column_low column (inl e) = rw e refl
column_low column (inr e) = rw e refl

pub sent_carries : (grant : Grant) → IsGrant grant → IsSentFor (sent_word grant) grant
unfolding sent_word
sent_carries grant is = record {
  carries = record {
    format = refl;
    localised = refl;
    blocks = is.blocks;
    assigned = number_of_bits 5 (riv_of grant.start grant.blocks) (riv_small grant.start grant.blocks is.blocks);
    mcs_is = number_of_bits 5 grant.mcs (let l = is.mcs_valid in omega (arith, l));
    mcs_valid = is.mcs_valid;
    rv_is = number_of_bits 2 grant.rv (let l = is.rv_valid in omega (arith, l));
    column_is = column_low grant.column is.column_valid;
    size_is = is.size_is;
  };
  harq_is = refl;
  old = refl;
  power = refl;
  pads = refl;
}

low_column : (low : Bool) (column : ℕ) → column ≡ column_of low → (column ≡ 2) ⊎ (column ≡ 3)
low_column true column e = inr e
low_column false column e = inl e

low_is : (low : Bool) (column : ℕ) → column ≡ column_of low → low ≡ nat_eq column 3
low_is true column e = rw e refl
low_is false column e = rw e refl

pub carried_is_grant : (bits : List Bool) (grant : Grant) → Carries bits grant → IsGrant grant
carried_is_grant bits grant c = record {
  blocks = c.blocks;
  mcs_valid = c.mcs_valid;
  rv_valid = let is = c.rv_is in let below = number_below (part bits 16 2) in omega (arith, is, below);
  column_valid = low_column (tpc_low bits) grant.column c.column_is;
  size_is = c.size_is;
}

-- ---- only one word

abbrev laid_out : Bool → Bool → List Bool → List Bool → List Bool → Bool → List Bool → Bool → Bool → Bool → List Bool
laid_out format distributed assignment mcs harq new rv high low pad =
    (format ∷ distributed ∷ []) ++ assignment ++ mcs ++ harq ++ (new ∷ []) ++ rv ++ (high ∷ low ∷ pad ∷ [])

parts_of : (bits : List Bool) → part bits 0 21
    ≡ laid_out (bit bits 0) (bit bits 1) (part bits 2 5) (part bits 7 5) (part bits 12 3)
    (bit bits 15) (part bits 16 2) (bit bits 18) (bit bits 19) (bit bits 20)
parts_of bits = refl

same_parts : (f f' d d' : Bool) (a a' s s' p p' : List Bool) (n n' : Bool) (v v' : List Bool) (h h' l l' z z' : Bool) →
    f ≡ f' → d ≡ d' → a ≡ a' → s ≡ s' → p ≡ p' → n ≡ n' → v ≡ v' → h ≡ h' → l ≡ l' → z ≡ z' →
    laid_out f d a s p n v h l z ≡ laid_out f' d' a' s' p' n' v' h' l' z'
same_parts f f' d d' a a' s s' p p' n n' v v' h h' l l' z z' ef ed ea es ep en ev eh el ez = rw (ef, ed, ea, es, ep, en, ev, eh, el, ez) refl

pub only_word : (bits : List Bool) (grant : Grant) → length bits ≡ 21 → IsSentFor bits grant → bits ≡ sent_word grant
unfolding sent_word
only_word bits grant long sent =
    let c = sent.carries in
    let assignment = bits_of_is 5 (riv_of grant.start grant.blocks) (part bits 2 5) refl c.assigned in
    let mcs = bits_of_is 5 grant.mcs (part bits 7 5) refl c.mcs_is in
    let harq = bits_of_is 3 0 (part bits 12 3) refl sent.harq_is in
    let rv = bits_of_is 2 grant.rv (part bits 16 2) refl c.rv_is in
    let format = c.format in
    let localised = c.localised in
    let old = sent.old in
    let power = sent.power in
    let low = low_is (tpc_low bits) grant.column c.column_is in
    let pads = sent.pads in
    whole_part bits 21 long ∙ parts_of bits ∙ same_parts _ _ _ _ _ _ _ _ _ _ _ _ _ _ _ _ _ _ _ _ format localised assignment mcs harq old rv power low pads
