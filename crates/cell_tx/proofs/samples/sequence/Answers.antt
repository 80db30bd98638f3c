use Rattle.std.proofs.Common.{sym, ap, ◌∙◌, length, pos}
use Rattle.std.proofs.Math.Path.{fun_ext}
use Rattle.finite.specs.Lists.{values_below}
use Rattle.finite.proofs.Lists.{values_below-length}
use Rattle.cs_num.specs.declared.Cpx.{Cpx}
use Rattle.cs_num.specs.Complex.{times, sample_of}
use Rattle.cell_tx.specs.Sending.{sample_by}
use Rattle.cell_tx.proofs.Pieces.{times-one}
use Rattle.cell_tx.proofs.samples.sequence.Goals as goal

abbrev one : Cpx
one = record { re = pos 1; im = pos 0 }

pub put_all-requires-clause-room : goal.put_all-requires-clause-room
put_all-requires-clause-room c =
    sym (values_below-length (length c.args.out.now) (λ i. sample_of (times one (sample_by c.args.sender.now i))))
    ∙ ap length (sym c.of_port-source.ensures)
    ∙ ap length (sym c.by.ensures.samples)

pub returns : goal.returns
returns c =
    c.put_all.ensures
    ∙ c.by.ensures.samples
    ∙ c.of_port-source.ensures
    ∙ ap (values_below (length c.args.out.now)) (fun_ext (λ i. ap sample_of (times-one (sample_by c.args.sender.now i))))
