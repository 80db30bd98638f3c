-- A sent cell is listed exactly once.
use Rattle.std.proofs.Common.{◌≡◌, ℕ, List, ◌++◌, None, refl, ap, sym, subst, ◌∙◌}
use Rattle.std.specs.Prelude.{nat_abs}
use Rattle.std.specs.List.{Contains}
use Rattle.lte_types.specs.declared.entry.Entry.{Entry}
use Rattle.explain.specs.Entries.{IsBefore}
use Rattle.explain.proofs.Kept.{before_after}
use Rattle.capture_make.specs.Recipe.{plan, number, offset, gains}
use Rattle.capture_make.specs.declared.made.MadeBy.{MadeBy}
use Rattle.capture_make.specs.Made.{IsMadeBy, IsCleanNumber}
use Rattle.capture_make.proofs.Plans.{is_sendable_by}
use Rattle.capture_make.proofs.Samples.{NumbersAreClean, one_of_number}
use Rattle.report_text.specs.Lines.{made_line, report_text}
use Rattle.lte_top.specs.declared.making.SentCell.{SentCell}
use Rattle.lte_types.specs.declared.carrier.Carrier.{Carrier}
use Rattle.lte_types.specs.Carrier.{ports_of}
use Rattle.clean_air.specs.Clean.{system_of_carrier}
use Rattle.lte_top.specs.Making.{Counts, IsSentCell, IsMadeOutput, cell_of, IsMadeText, first_start, first_number, IsHeldOnce, WhatIsMadeIsHeld}
use Rattle.lte_top.specs.Searching.{IsListOf}
use Rattle.lte_top.proofs.Held.{one_count, one_counted}
use Rattle.lte_top.proofs.Carriers.{held}
use Rattle.lte_top.proofs.OneList.{one_list}

-- ---- the cell that a synthetic recording sends

-- the cell that recording n sends under this transmission scheme
abbrev number_cell : Carrier → ℕ → SentCell
number_cell carrier n = record {
  identity = (plan n).identity;
  first = first_start n;
  number = first_number n;
  ports = ports_of carrier;
  duration = (plan n).duration;
  resource = (plan n).resource;
  spare = (plan n).spare;
  sib1 = system_of_carrier carrier (plan n).sib1;
}

sent_is : (carrier : Carrier) (n : ℕ) (made : MadeBy) → IsMadeBy carrier n made → cell_of made.sent ≡ number_cell carrier n
sent_is carrier n made is = rw (is.carrier_is, is.plan_is, is.number_is, is.offset_is) refl

output_is : (carrier : Carrier) (n : ℕ) (output : List ℕ) (m : IsMadeText carrier n output) → IsMadeOutput (number_cell carrier n) m.entries output
output_is carrier n output m = subst (λ cell. IsMadeOutput cell m.entries output) (sent_is carrier n m.made m.is) m.decodes

-- ---- one text per number

-- the text with this count
abbrev text_with : SentCell → List Entry → ℕ → List ℕ
text_with cell entries held = made_line cell.identity cell.first cell.number held ++ report_text entries

pub one_made : (carrier : Carrier) (n : ℕ) (first second : List ℕ) → IsMadeText carrier n first → IsMadeText carrier n second → first ≡ second
one_made carrier n first second a b =
    let cell : SentCell = number_cell carrier n in
    let x = output_is carrier n first a in
    let y = output_is carrier n second b in
    let samples : a.made.recording ≡ b.made.recording =
    one_of_number carrier n a.made.bound b.made.bound a.made.recording b.made.recording a.is.bound b.is.bound a.is.samples_are b.is.samples_are in
    let same : a.entries ≡ b.entries = one_list carrier b.made.recording a.entries b.entries (subst (λ s. IsListOf carrier s a.entries) samples a.listed) b.listed in
    let held : x.held ≡ y.held = one_count (IsSentCell cell) b.entries x.held y.held (subst (λ (l : List Entry). Counts (IsSentCell cell) l x.held) same x.counts) y.counts in
    x.text ∙ ap (λ l. text_with cell l x.held) same ∙ ap (text_with cell b.entries) held ∙ sym y.text

-- ---- the sent cell is listed

-- exactly one entry of the list matches the cell
record Holds (cell : SentCell) (entries : List Entry) : Type 0 where
  entry : Entry
  inside : Contains entries entry
  is : IsSentCell cell entry
  only : (other : Entry) → Contains entries other → IsSentCell cell other → other ≡ entry

holds : NumbersAreClean → (carrier : Carrier) (n : ℕ) (output : List ℕ) (m : IsMadeText carrier n output) → Holds (number_cell carrier n) m.entries
holds law carrier n output m =
    let eps = nat_abs m.made.bound in
    let clean = subst (λ s. IsCleanNumber carrier n s eps) (sym m.is.samples_are) (law carrier n m.made.bound m.is.bound) in
    let h = held carrier None (plan n) (number n) (offset n) (gains carrier n) eps m.made.recording m.entries (is_sendable_by carrier n) clean m.listed in
    record {
      entry = h.entry;
      inside = h.inside;
      is = record { id = h.id; start = h.start; sfn = h.sfn; ports = h.sent.ports; block = h.sent.block; sib1 = h.sent.sib1 };
      only = λ other inside p. h.only other inside p.id p.start p.sfn;
    }

-- the list is strictly ordered, so the count is 1
held_once : (carrier : Carrier) (n : ℕ) (output : List ℕ) (m : IsMadeText carrier n output) → Holds (number_cell carrier n) m.entries → IsHeldOnce n output
held_once carrier n output m h =
    let x = output_is carrier n output m in
    let one : x.held ≡ 1 =
    one_counted IsBefore (IsSentCell (number_cell carrier n)) (λ x before. before_after x x before before) m.entries h.entry x.held m.listed.explained.listed.in_order h.inside h.is
    h.only x.counts in
    record { entries = m.entries; once = x.text ∙ ap (text_with (number_cell carrier n) m.entries) one }

pub made_is_held : NumbersAreClean → WhatIsMadeIsHeld
made_is_held law carrier n output small m = held_once carrier n output m (holds law carrier n output m)
