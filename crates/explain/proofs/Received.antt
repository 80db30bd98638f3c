-- The frames that carry MIBs, among those received.
use Rattle.std.proofs.Common.{◌≡◌, inl, inr, ℕ, ◌+◌, ◌-◌, ◌<◌, ◌≤◌, List, Option, arith, subst, sym}
use Rattle.cs_num.specs.declared.Sample.{Sample}
use Rattle.pbch.specs.declared.master.Master.{Master}
use Rattle.lte_types.specs.CellPlace.{Place}
use Rattle.explain.specs.Frame.{IsWhole}
use Rattle.explain.specs.Decoded.{Decoding}
use Rattle.explain.specs.Window.{IsInWindow, ComeBefore, NoneIsDecoded, HasNoMasters}
use Rattle.explain.specs.Receiver.{Receiver}
use Rattle.explain.specs.Entries.{IsMasterFor}
use Rattle.explain.specs.Masters.{AreFirstWith}
use Rattle.explain.specs.Received.{NoneDecodes, AreFirstOf}

-- the frames within the recording, for two equal places
pub whole_at : (recording : List Sample) (here there : Place) → here ≡ there → (whole : ℕ) →
    ((j : ℕ) → j < whole → IsWhole recording there.start j) → ((j : ℕ) → j < 8 → IsWhole recording there.start j → j < whole) →
    ((j : ℕ) → j < whole → IsWhole recording here.start j) × ((j : ℕ) → j < 8 → IsWhole recording here.start j → j < whole)
whole_at recording here there same whole inside all = (
  subst (λ (place : Place). (j : ℕ) → j < whole → IsWhole recording place.start j) (sym same) inside,
  subst (λ (place : Place). (j : ℕ) → j < 8 → IsWhole recording place.start j → j < whole) (sym same) all,
)

-- more frames than a receiver combines carry no MIB
pub too_many : (receiver : Receiver) (recording : List Sample) (place : Place) (whole count : ℕ) → receiver.most_frames < count →
    NoneDecodes (IsMasterFor receiver recording) place whole count
too_many receiver recording place whole count more j within phase master period decoded = let few = decoded.few in omega (arith, few, more)

-- if the first `whole` of frames 0 to 7 lie within the recording, and no others
module _ (Decodes : Decoding) (recording : List Sample) (place : Place) (whole : ℕ) (few : whole ≤ 8) (inside : (j : ℕ) → j < whole → IsWhole recording place.start j)
    (all : (j : ℕ) → j < 8 → IsWhole recording place.start j → j < whole) where
  -- frames that are tried are among these
  among : (count j : ℕ) → IsInWindow recording place.start count j → j + count ≤ whole
  among count j window =
      let some = window.some in
      let known = window.known in
      let last : j + (count - 1) < whole = all (j + (count - 1)) (omega (arith, some, known)) (window.whole (count - 1) (omega (arith, some))) in
      omega (arith, some, last)

  -- the first `count` frames that carry a MIB are the first of all, if no fewer frames carry one
  pub first_with : (count j : ℕ) (masters : List (Option Master)) → 1 ≤ count → count ≤ 4 →
      ((fewer : ℕ) → 1 ≤ fewer → fewer < count → NoneDecodes Decodes place whole fewer) →
      AreFirstOf Decodes place whole count j masters → AreFirstWith Decodes recording place count j masters
  first_with count j masters some small none f = record {
    frames = record {
      inside = record {
        some = some;
        few = small;
        known = omega (arith, f.within, few);
        whole = λ m below. inside (j + m) (omega (arith, f.within, below));
      };
      first = λ fewer i window before. by_order fewer i window before;
    };
    have = f.have;
  }
    where
      by_order : (fewer i : ℕ) → IsInWindow recording place.start fewer i → ComeBefore (fewer, i) (count, j) → NoneIsDecoded Decodes place fewer i
      by_order fewer i window (inl less) = none fewer window.some less i (among fewer i window)
      by_order fewer i window (inr (same, below)) = subst (λ n. NoneIsDecoded Decodes place n i) (sym same) (f.first i below)

  -- if no frames carry a MIB, the cell has none
  pub no_masters : ((count : ℕ) → 1 ≤ count → count ≤ 4 → NoneDecodes Decodes place whole count) → HasNoMasters Decodes recording place
  no_masters none count j window = none count window.some window.few j (among count j window)
