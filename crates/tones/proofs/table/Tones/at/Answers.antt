use Rattle.std.proofs.Common.{arith, ◌+◌, ◌∙◌, sym, subst}
use Rattle.cs_num.specs.Complex.{IsWithin}
use Rattle.cs_num.proofs.Complex.{pair}
use Rattle.tones.proofs.Entries.{listed_entry, t_from, t_small}
use Rattle.tones.proofs.table.Tones.at.Goals as goal

pub returns-clause-value : goal.returns-clause-value
returns-clause-value c =
    pair (listed_entry c.args.self.now.cosines.items c.args.m c.index.result.now c.args.self.now.listed (omega (arith, c.requires)) c.index.ensures)
    (listed_entry c.args.self.now.cosines.items (c.args.m + 1536) c.index-2.result.now c.args.self.now.listed (omega (arith, c.requires)) c.index-2.ensures)
    ∙ sym (t_from c.args.m)

pub returns-clause-small : goal.returns-clause-small
returns-clause-small c = subst (IsWithin 262144) (sym (returns-clause-value c)) (t_small c.args.m)
