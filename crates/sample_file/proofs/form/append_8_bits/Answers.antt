use Rattle.std.proofs.Common.{rules, arith, length, ◌/◌}
use Rattle.std.proofs.lemmas.Iterator.{YieldsList-from_slice, YieldsList-from_map}
use Rattle.std.proofs.lemmas.Iterator.Adapters.{items_from_extend}
use Rattle.sample_file.specs.declared.form.SampleForm.TheVariants.{Cu8}
use Rattle.sample_file.specs.Recording.{sample_in}
use Rattle.sample_file.proofs.Chunks.{twos}
use Rattle.sample_file.proofs.form.append_8_bits.Goals as goal

pub returns : goal.returns
returns c =
    let items = items_from_extend c.extend.result c.extend.ensures.ran
    (YieldsList-from_map _ (sample_in Cu8) (YieldsList-from_slice c.as_chunks.result.0.now cc) c.map.ensures.closure (λ x r q k. search rules)) in
    let samples = twos (length c.args.bytes.now / 2) c.args.bytes.now (omega arith) (omega arith) in
    search rules
