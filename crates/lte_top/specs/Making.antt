-- The output of `make N`: a line about synthetic recording N and its cell, and its cell list. (own)
use Rattle.std.specs.Prelude.{◌≡◌, ◌⊎◌, ℕ, ◌+◌, ◌/◌, ◌<◌, ◌^◌, List, [], ◌∷◌, ◌++◌}
use Rattle.lte_types.specs.declared.bandwidth.Bandwidth.TheVariants.{N6}
use Rattle.lte_types.specs.declared.entry.Entry.{Entry}
use Rattle.lte_types.specs.Block.{HasFields}
use Rattle.lte_types.specs.Timing.{start_of, number_at_start}
use Rattle.clean_air.specs.Clean.{system_of_carrier}
use Rattle.cell_plan.specs.declared.emission.Emission.{Emission}
use Rattle.capture_make.specs.declared.made.MadeBy.{MadeBy}
use Rattle.capture_make.specs.Made.{IsMadeBy}
use Rattle.capture_make.specs.Recipe.{plan, number, offset}
use Rattle.report_text.specs.Lines.{made_line, report_text}
use Rattle.lte_top.specs.declared.making.SentCell.{SentCell}
use Rattle.lte_types.specs.declared.carrier.Carrier.{Carrier}
use Rattle.lte_types.specs.Carrier.{ports_of}
use Rattle.lte_top.specs.Searching.{IsListOf}

-- a list has exactly the given number of members with property `P`
unfoldable pub Counts : {A : Type 0} → (A → Type 0) → List A → ℕ → Type 0
Counts P [] n = n ≡ 0
Counts P (x ∷ xs) n = (P x × ((m : ℕ) × (n ≡ m + 1) × Counts P xs m)) ⊎ ((P x → ⊥) × Counts P xs n)

-- ---- the sent cell

-- the cell that the emission `sent` contains, as it should be listed
abbrev pub cell_of : Emission → SentCell
cell_of sent = record {
  identity = sent.cell.identity;
  first = start_of sent.timing.offset;
  number = number_at_start sent.timing.sfn sent.timing.offset;
  ports = ports_of sent.carrier;
  duration = sent.cell.duration;
  resource = sent.cell.resource;
  spare = sent.cell.spare;
  sib1 = system_of_carrier sent.carrier sent.cell.sib1;
}

-- `entry` matches the sent `cell` in every field
pub record IsSentCell (cell : SentCell) (entry : Entry) : Type 0 where
  pub id : entry.id ≡ cell.identity
  pub start : entry.start ≡ cell.first
  pub sfn : entry.sfn ≡ cell.number
  pub ports : entry.ports ≡ cell.ports
  pub block : HasFields entry.mib N6 cell.duration cell.resource (cell.number / 4) cell.spare
  pub sib1 : entry.sib1 ≡ cell.sib1

-- `output` is the line of the sent `cell`, with the number of `entries` that match it, followed by the text of the list
pub record IsMadeOutput (cell : SentCell) (entries : List Entry) (output : List ℕ) : Type 0 where
  pub held : ℕ
  pub counts : Counts (IsSentCell cell) entries held
  pub text : output ≡ made_line cell.identity cell.first cell.number held ++ report_text entries

-- ---- synthetic recording n

-- `output` is the line of the cell that synthetic recording `n` sends under transmission scheme `carrier`, followed by
-- the text of the recording's cell list
pub record IsMadeText (carrier : Carrier) (n : ℕ) (output : List ℕ) : Type 0 where
  pub made : MadeBy
  pub is : IsMadeBy carrier n made
  pub entries : List Entry
  pub listed : IsListOf carrier made.recording entries
  pub decodes : IsMadeOutput (cell_of made.sent) entries output

-- the start of the cell's first frame in synthetic recording `n`
abbrev pub first_start : ℕ → ℕ
first_start n = start_of (offset n)

-- the number of the cell's first frame in synthetic recording `n`
abbrev pub first_number : ℕ → ℕ
first_number n = number_at_start (number n) (offset n)

-- ---- the sent cell is listed

-- `output` is the line of synthetic recording `n`, which ends in `held 1`, followed by the text of a list
pub record IsHeldOnce (n : ℕ) (output : List ℕ) : Type 0 where
  pub entries : List Entry
  pub once : output ≡ made_line (plan n).identity (first_start n) (first_number n) 1 ++ report_text entries

-- a law: the line of `make N` ends in `held 1`, for each transmission scheme and every 32-bit number
abbrev pub WhatIsMadeIsHeld : Type 0
WhatIsMadeIsHeld = (carrier : Carrier) (n : ℕ) (output : List ℕ) → n < 2 ^ 32 → IsMadeText carrier n output →
    IsHeldOnce n output
