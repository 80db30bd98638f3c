-- `search` finds what `transmit` writes, under the same transmission scheme. (own)
use Rattle.std.specs.Prelude.{ℕ, ◌/◌, ◌%◌, Option, List, ◌++◌, codes}
use Rattle.cs_num.specs.declared.Sample.{Sample}
use Rattle.sample_file.specs.declared.form.SampleForm.TheVariants.{Ci16}
use Rattle.sample_file.specs.Recording.{samples_of}
use Rattle.lte_types.specs.declared.carrier.Carrier.{Carrier}
use Rattle.lte_types.specs.Carrier.{ports_of}
use Rattle.lte_types.specs.Codes.{duration_word, resource_word}
use Rattle.lte_types.specs.Timing.{start_of, number_at_start}
use Rattle.clean_air.specs.Clean.{system_of_carrier}
use Rattle.cell_plan.specs.declared.cell.CellPlan.{CellPlan}
use Rattle.cell_plan.specs.declared.emission.Emission.{Emission}
use Rattle.cell_plan.specs.Gains.{ArePairedBy}
use Rattle.cell_tx.specs.Emission.{IsCleanBy}
use Rattle.cell_json.specs.Reading.{DescribesBy}
use Rattle.report_text.specs.Lines.{place_part, block_part, system_lines}
use Rattle.report_text.specs.Pieces.{IsPiece}
use Rattle.lte_args.specs.declared.form.Form.TheVariants.{Report as Reports, Transmit}
use Rattle.lte_args.specs.declared.form.Report.TheVariants.{Search}
use Rattle.lte_args.specs.declared.form.Rule.TheVariants.{Of}
use Rattle.lte_args.specs.declared.form.Output.TheVariants.{Text}
use Rattle.lte_top.specs.Signals.{plain}
use Rattle.lte_top.specs.Forms.{IsOutput}

-- the list line of a sent cell: its identity, its first frame's start and number, its antenna port count, and its MIB
abbrev pub sent_line : Carrier → CellPlan → ℕ → ℕ → List ℕ
sent_line carrier plan first number =
    place_part plan.identity first number (ports_of carrier)
    ++ block_part (codes "n6") (duration_word plan.duration) (resource_word plan.resource)
    (plan.spare / 32) (plan.spare % 32)

-- the list lines of a sent cell: its own line, then its system information, or the reason why there is none with the
-- extended cyclic prefix or four antenna ports
abbrev pub sent_lines : Carrier → CellPlan → ℕ → ℕ → List ℕ
sent_lines carrier plan first number =
    sent_line carrier plan first number ++ system_lines (system_of_carrier carrier plan.sib1)

-- `samples` is clean for the cell that `description` describes, and that cell's lines appear consecutively in `text`
pub record IsFoundIn (carrier : Carrier) (load : Option ℕ) (description : List ℕ) (samples : List Sample)
    (text : List ℕ) : Type 0 where
  pub e : Emission
  pub describes : DescribesBy carrier description e
  pub clean : IsCleanBy carrier load samples e.cell e.timing.sfn e.timing.offset e.gains 0
  pub lines :
      IsPiece (sent_lines carrier e.cell (start_of e.timing.offset) (number_at_start e.timing.sfn e.timing.offset)) text

-- no pair of the described cell's antenna ports is weak: with four ports, each pair has at least three eighths of the
-- power
abbrev pub DescribesPaired : Carrier → List ℕ → Type 0
DescribesPaired carrier description = (e : Emission) → DescribesBy carrier description e → ArePairedBy carrier e.gains

-- a law: `transmit` under any transmission scheme, with or without a load, writes a recording that is clean for the
-- described cell, and `search` under that scheme writes the cell's lines
abbrev pub WhatIsSentIsFound : Type 0
WhatIsSentIsFound =
    (carrier : Carrier) (load : Option ℕ) (description sent text : List ℕ) →
    DescribesPaired carrier description →
    IsOutput (Transmit carrier load) description sent →
    IsOutput (Reports (Search (Of carrier)) Text (plain Ci16)) sent text →
    IsFoundIn carrier load description (samples_of sent) text
