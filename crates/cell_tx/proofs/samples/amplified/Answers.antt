use Rattle.std.proofs.Common.{arith, ap, ap₂, ◌∙◌}
use Rattle.cs_num.specs.Complex.{value_of, times, sample_of}
use Rattle.cs_num.proofs.Complex.{within_more}
use Rattle.cell_tx.proofs.Bounds.{amplified}
use Rattle.cell_tx.proofs.samples.amplified.Goals as goal

pub mul-requires : goal.mul-requires
mul-requires c = rw (c.value.ensures.value, c.from.ensures.0) (amplified c.args.gain (value_of c.args.clean) c.value.ensures.valid.most c.requires).fits

pub exact_sample-requires : goal.exact_sample-requires
exact_sample-requires c =
    let product = c.mul.ensures ∙ ap₂ times c.value.ensures.value c.from.ensures.0 in
    let both = amplified c.args.gain (value_of c.args.clean) c.value.ensures.valid.most c.requires in
    rw product (within_more (times c.args.gain (value_of c.args.clean)) 32284 32767 both.small (omega arith))

pub returns : goal.returns
returns c =
    let product = c.mul.ensures ∙ ap₂ times c.value.ensures.value c.from.ensures.0 in
    record {
      value = c.exact_sample.ensures ∙ ap sample_of product;
      magnitude = (amplified c.args.gain (value_of c.args.clean) c.value.ensures.valid.most c.requires).small;
    }
