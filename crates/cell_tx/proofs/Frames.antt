-- Parts that the frames of a cell share.
use Rattle.std.proofs.Common.{◌≡◌, ℕ, ◌+◌, ◌*◌, ◌/◌, ◌%◌, ◌<◌, ◌≤◌, ◌⊎◌, inl, inr, Bool, true, false, nat_eq, arith, refl, sym, ap, ◌∙◌, mod-lt}
use Rattle.std.specs.Prelude.{if◌then◌else◌}
use Rattle.std.proofs.lemmas.Bool.Decides.{nat_tests}
use Rattle.finite.specs.Lists.{values_below}
use Rattle.finite.proofs.Lists.{values_below_same}
use Rattle.cs_num.specs.declared.Cpx.{Cpx}
use Rattle.cs_num.specs.Complex.{sample_of}
use Rattle.fold128.proofs.Samples.{useful_same}
use Rattle.lte_types.specs.declared.numerology.Prefix.{Prefix}
use Rattle.lte_types.specs.Numerology.{normal, extended, IsPrefix, symbols_of_slot, symbol_of}
use Rattle.cell_grid.specs.declared.antenna.Port.{Port}
use Rattle.cell_plan.specs.declared.cell.CellPlan.{CellPlan}
use Rattle.cell_grid.specs.declared.layout.Carried.{Carried}
use Rattle.cell_grid.specs.Ports.{port_prefix, has_control}
use Rattle.cell_grid.specs.Grid.{has_broadcast, port_channel_value, port_element}
use Rattle.cell_grid.specs.Control.{control_word, control_point}
use Rattle.cell_grid.specs.Shared.{shared_point}
use Rattle.cell_grid.specs.Grid.{Elements}
use Rattle.cell_tx.specs.Sent.{prefix_frame_sample, prefix_sent}
use Rattle.cell_tx.specs.Starts.{useful_place, first_sample}
use Rattle.cell_tx.specs.Sent.{frame_samples}
use Rattle.cell_grid.specs.Rows.{IsCarried}
use Rattle.cell_grid.proofs.Broadcast.{not_broadcast}
use Rattle.cell_grid.proofs.Prefixes.{with_prefix}
use Rattle.cell_tx.proofs.Symbols.{frame_sample_is, slot_sample_is, frames_follow}

-- ---- resource elements that do not depend on the frame

-- the symbol is not one of the first four in slot 1, which PBCH uses
abbrev IsBeside : Prefix → ℕ → ℕ → Type 0
IsBeside prefix subframe symbol = 2 * subframe + symbol / symbols_of_slot prefix ≡ 1 → 4 ≤ symbol % symbols_of_slot prefix

-- both frames have equal resource elements outside PBCH and subframe 5
abbrev pub AreSameBeside : Prefix → Elements → ℕ → ℕ → Type 0
AreSameBeside prefix grid a b =
    (subframe symbol k : ℕ) → IsBeside prefix subframe symbol → (subframe ≡ 5 → ⊥) → grid a subframe symbol k ≡ grid b subframe symbol k

-- both frames have equal resource elements outside PBCH
abbrev pub AreSameBesideBroadcast : Prefix → Elements → ℕ → ℕ → Type 0
AreSameBesideBroadcast prefix grid a b =
    (subframe symbol k : ℕ) → IsBeside prefix subframe symbol → grid a subframe symbol k ≡ grid b subframe symbol k

-- a test that fails selects the alternative
past : (t : Bool) (x y u v : Cpx) → t ≡ false → u ≡ v → (if t then x else u) ≡ (if t then y else v)
past true x y u v e f = absurd cc
past false x y u v e f = f

module _ (port : Port) (plan : CellPlan) (a b subframe symbol k : ℕ) where
  of_channels : port_channel_value port plan a subframe symbol k ≡ port_channel_value port plan b subframe symbol k → port_element port plan a subframe symbol k ≡ port_element port plan b subframe symbol k
  unfolding port_element
  of_channels e = rw e refl

  module _ (out : IsBeside (port_prefix port) subframe symbol) where
    none : has_broadcast port plan.identity subframe symbol k ≡ false
    none = not_broadcast port plan.identity subframe symbol k out

    channel_same : (subframe ≡ 5 → ⊥) → port_channel_value port plan a subframe symbol k ≡ port_channel_value port plan b subframe symbol k
    unfolding port_channel_value
    channel_same other = past _ _ _ _ _ none (let e : nat_eq subframe 5 ≡ false = grind (arith, nat_tests) in rw e refl)

    broadcast_alone : has_control port ≡ false → port_channel_value port plan a subframe symbol k ≡ port_channel_value port plan b subframe symbol k
    unfolding port_channel_value
    broadcast_alone without = past _ _ _ _ _ none (past _ _ _ _ _ without refl)

pub element_same : (port : Port) (plan : CellPlan) (a b : ℕ) → AreSameBeside (port_prefix port) (port_element port plan) a b
element_same port plan a b subframe symbol k out other = of_channels port plan a b subframe symbol k (channel_same port plan a b subframe symbol k out other)

-- without system information, frames differ only in PBCH
pub element_same_without : (port : Port) (plan : CellPlan) (a b : ℕ) → has_control port ≡ false → AreSameBesideBroadcast (port_prefix port) (port_element port plan) a b
element_same_without port plan a b without subframe symbol k out = of_channels port plan a b subframe symbol k (broadcast_alone port plan a b subframe symbol k out without)

-- ---- samples that do not depend on the frame

same_sample : (prefix : Prefix) (grid : Elements) (a b i : ℕ) → IsPrefix prefix
    → ((k : ℕ) → grid a (i / 960 / 2) (symbols_of_slot prefix * (i / 960 % 2) + symbol_of prefix (i % 960)) k
    ≡ grid b (i / 960 / 2) (symbols_of_slot prefix * (i / 960 % 2) + symbol_of prefix (i % 960)) k)
    → prefix_frame_sample prefix grid a i ≡ prefix_frame_sample prefix grid b i
same_sample prefix grid a b i known same =
    let symbol : ℕ = symbols_of_slot prefix * (i / 960 % 2) + symbol_of prefix (i % 960) in
    frame_sample_is prefix grid a i
    ∙ slot_sample_is prefix grid a (i / 960) (i % 960) known (mod-lt i (omega arith))
    ∙ useful_same (grid a (i / 960 / 2) symbol) (grid b (i / 960 / 2) symbol) (useful_place prefix (i % 960)) (λ k l. same k)
    ∙ sym (slot_sample_is prefix grid b (i / 960) (i % 960) known (mod-lt i (omega arith)))
    ∙ sym (frame_sample_is prefix grid b i)

-- a sample lies outside a range of symbols
abbrev pub IsOutside : Prefix → ℕ → ℕ → ℕ → Type 0
IsOutside prefix first last i = (i < first_sample prefix first) ⊎ (first_sample prefix last ≤ i)

-- a sample outside the PBCH symbols comes from resource elements outside PBCH
abbrev IsOutsideFirst : ℕ → Prefix → Type 0
IsOutsideFirst i prefix =
    IsOutside prefix (symbols_of_slot prefix) (symbols_of_slot prefix + 4) i → IsBeside prefix (i / 960 / 2) (symbols_of_slot prefix * (i / 960 % 2) + symbol_of prefix (i % 960))

by_sample : (i : ℕ) (prefix : Prefix) → IsPrefix prefix → IsOutsideFirst i prefix
by_sample i prefix known = with_prefix (IsOutsideFirst i) one other prefix known
  where
    one : IsOutsideFirst i normal
    one (inl early) slot = absurd (omega (arith, early, slot))
    one (inr late) slot = omega (arith, late, slot)

    other : IsOutsideFirst i extended
    other (inl early) slot = absurd (omega (arith, early, slot))
    other (inr late) slot = omega (arith, late, slot)

-- a sample outside slots 10 and 11 does not belong to subframe 5
abbrev IsOutsideSlots : ℕ → Prefix → Type 0
IsOutsideSlots i prefix = IsOutside prefix (10 * symbols_of_slot prefix) (12 * symbols_of_slot prefix) i → i / 960 / 2 ≡ 5 → ⊥

no_system : (i : ℕ) (prefix : Prefix) → IsPrefix prefix → IsOutsideSlots i prefix
no_system i prefix known = with_prefix (IsOutsideSlots i) one other prefix known
  where
    one : IsOutsideSlots i normal
    one (inl early) five = absurd (omega (arith, early, five))
    one (inr late) five = absurd (omega (arith, late, five))

    other : IsOutsideSlots i extended
    other (inl early) five = absurd (omega (arith, early, five))
    other (inr late) five = absurd (omega (arith, late, five))

module _ (prefix : Prefix) (known : IsPrefix prefix) (grid : Elements) (a b i : ℕ) (first : IsOutside prefix (symbols_of_slot prefix) (symbols_of_slot prefix + 4) i) where
  pub sample_same : AreSameBeside prefix grid a b → IsOutside prefix (10 * symbols_of_slot prefix) (12 * symbols_of_slot prefix) i → prefix_frame_sample prefix grid a i ≡ prefix_frame_sample prefix grid b i
  sample_same same second =
      same_sample prefix grid a b i known
      (λ k. same (i / 960 / 2) (symbols_of_slot prefix * (i / 960 % 2) + symbol_of prefix (i % 960)) k (by_sample i prefix known first) (no_system i prefix known second))

  pub sample_same_without : AreSameBesideBroadcast prefix grid a b → prefix_frame_sample prefix grid a i ≡ prefix_frame_sample prefix grid b i
  sample_same_without same =
      same_sample prefix grid a b i known (λ k. same (i / 960 / 2) (symbols_of_slot prefix * (i / 960 % 2) + symbol_of prefix (i % 960)) k (by_sample i prefix known first))

-- a frame is the first in its sequence
pub first_frame : (prefix : Prefix) (grid : Elements) (sfn : ℕ) → sfn ≤ 1023 → values_below 19200 (λ i. sample_of (prefix_sent prefix grid sfn (i + 0))) ≡ frame_samples prefix grid sfn
unfolding frame_samples
first_frame prefix grid sfn few =
    values_below_same 19200 (λ i. sample_of (prefix_sent prefix grid sfn (i + 0))) (λ i. sample_of (prefix_frame_sample prefix grid sfn i))
    (λ i inside. ap sample_of (there i inside))
  where
    there : (i : ℕ) → i < 19200 → prefix_sent prefix grid sfn (i + 0) ≡ prefix_frame_sample prefix grid sfn i
    there i inside =
        let place : i + 0 ≡ 19200 * 0 + i = omega arith in
        let number : (sfn + 0) % 1024 ≡ sfn = omega (arith, few) in
        ap (prefix_sent prefix grid sfn) place ∙ frames_follow prefix grid sfn 0 i inside ∙ ap (λ (n : ℕ). prefix_frame_sample prefix grid n i) number
