use Rattle.std.proofs.Common.{sym, subst}
use Rattle.cs_num.specs.Complex.{IsWithin}
use Rattle.fold128.proofs.Entries.{w_small}
use Rattle.frequency_offset.proofs.table.w_at.Goals as goal

pub returns-clause-small : goal.returns-clause-small
returns-clause-small c = subst (IsWithin 16384) (sym c.w.ensures) (w_small _)
