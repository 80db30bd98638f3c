use Rattle.std.proofs.Common.{◌∙◌, sym, subst}
use Rattle.pbch.specs.Master.{DecodesMaster}
use Rattle.explain.specs.Entries.{master_of}
use Rattle.certificates.proofs.Certified.{certifies_filled}
use Rattle.certificates.proofs.certifying.make.Goals as goal

pub returns : goal.returns
returns g c =
    let recording = c.args.recording.now in
    let entry = c.args.entry.now in
    let values = c.rows-values.ensures.rows ∙ c.requires.1.sums in
    let decodes : DecodesMaster c.rows-values.result (master_of entry) = subst (λ v. DecodesMaster v (master_of entry)) (sym values) c.requires.0.is_of.master.decoded in
    record {
      certificate = c.fill.new.certificate;
      certifies = certifies_filled _ _ _ c.fill.new.certificate _ c.put.ensures.whole c.fill.ensures.accepted c.fill.ensures.filled c.fill.ensures.values
          values decodes c.fill.ensures.word;
      bytes_are = c.put.ensures.bytes;
    }
