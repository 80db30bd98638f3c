use Rattle.std.proofs.lemmas.Result.{err_from_is_err_and}
use Rattle.std.proofs.Common.{arith, sym}
use Rattle.std.proofs.lemmas.Slice.Zip.{AllZip-long}
use Rattle.explain.proofs.Listed.{is_sound}
use Rattle.explain.specs.Readings.{IsReadingFor}
use Rattle.finite.proofs.Zips.{zip_read}
use Rattle.certificates.proofs.Certified.{written_next, written_some_at}
use Rattle.certificates.proofs.certifying.certify.Goals as goal

pub bounds-readings-i : goal.bounds-readings-i
bounds-readings-i g c =
    let long = AllZip-long (IsReadingFor g.receiver c.args.recording.now) c.args.entries.now c.args.readings.now c.requires.1.1.1 in
    let inside = c.loop-i-test.true in
    omega (arith, long, inside)

pub certify_one-requires : goal.certify_one-requires
certify_one-requires g c κs within = (
  within,
  (
    is_sound g.receiver c.args.recording.now c.args.entries.now _ c.requires.1.1.0 (c.loop-i.i, c.loop-i-test.true, sym c.index-entries-i.is),
    zip_read (IsReadingFor g.receiver c.args.recording.now) c.args.entries.now c.args.readings.now c.loop-i.i _ _ c.requires.1.1.1 c.loop-i-test.true c.index-entries-i.is c.index-readings-i.is,
  ),
)

pub returns-in_err-certify_one-clause-err : goal.returns-in_err-certify_one-clause-err
returns-in_err-certify_one-clause-err g c =
    let p = err_from_is_err_and c.from_residual.result c.from_residual.ensures.1 in
    rw p.1 (written_some_at _ _ _ _ _ _ _ _ c.loop-i-test.true c.index-entries-i.is c.requires.1.0 c.requires.1.1.0 c.loop-i.invariant.so_far c.in_err-certify_one.ensures.err)

pub loop-i-preserved : goal.loop-i-preserved
loop-i-preserved g c = record {
  so_far = written_next _ _ _ _ _ _ _ _ c.loop-i-test.true c.index-entries-i.is c.loop-i.invariant.so_far c.in_ok-certify_one.ensures.ok;
  later = omega arith;
}
