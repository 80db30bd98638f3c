use Rattle.std.proofs.Common.{◌≡◌, ℕ, ◌+◌, ◌*◌, ◌<◌, ◌≤◌, List, [], arith, length, take, ap, sym, subst, ◌∙◌, length-take-le, Ok, Err, Vec, Global}
use Rattle.std.specs.Prelude.{IfOk, Result, min}
use Rattle.std.proofs.lemmas.List.{length-take}
use Rattle.cs_num.specs.declared.Sample.{Sample}
use Rattle.lte_types.specs.Numerology.{least_samples, most_samples}
use Rattle.cs_outside.proofs.Faults.{rose_later}
use Rattle.sample_file.specs.declared.form.SampleForm.{SampleForm}
use Rattle.sample_file.specs.declared.form.SampleForm.TheVariants.{Ci16, Cu8}
use Rattle.sample_file.specs.declared.reading.FileError.{FileError}
use Rattle.sample_file.specs.Recording.{width}
use Rattle.sample_file.specs.Reading.{HasReadFrontAt}
use Rattle.sample_file.specs.Steps.{AreKept, HasReadFrontOf}
use Rattle.sample_file.proofs.Progress.{taken_on, recorded_on, short_on, ragged_on, fault_on, past_on, part_on, not_many}
use Rattle.sample_file.proofs.reading.read_front_at.Goals as goal

-- the bytes of an incomplete sample at the front of the buffer
begun_size : (form : SampleForm) (n : ℕ) (buffer : List ℕ) → n < width form → length buffer ≡ 16384 → length (take n buffer) ≡ n
begun_size Ci16 n buffer few size = length-take-le n buffer (omega (arith, few, size))
begun_size Cu8 n buffer few size = length-take-le n buffer (omega (arith, few, size))

-- the number of samples that are kept
kept_count : (most : ℕ) (samples kept : List Sample) (count : ℕ) → AreKept most samples kept count → length kept ≡ min most (length samples)
kept_count most samples kept count k = ap length k.kept_are ∙ length-take most samples

-- the count of all samples in place of their length
counted : (form : SampleForm) (most : ℕ) (samples kept : List Sample) (count : ℕ) → AreKept most samples kept count → width form * length samples ≡ width form * count
counted form most samples kept count k = ap (λ n. width form * n) (sym k.count_is)

pub returns-in-Err-clause-fault : goal.returns-in-Err-clause-fault
returns-in-Err-clause-fault g c = λ e.
    let so = c.loop-front.invariant.so_far in
    let size = begun_size _ _ _ c.loop-front.invariant.begun c.loop-front.invariant.whole in
    let count = counted c.args.form c.args.most so.samples c.loop-front.front.samples.items c.loop-front.front.count so.are_kept in
    fault_on _ _ _ _ _ _ _ so.read c.in-Err.ensures.unchanged (rose_later _ _ _ c.loop-front.invariant.later c.in-Err.ensures.cause)
    (omega (arith, size, count, c.loop-front.invariant.few, c.bytes_read-limit.ensures))

-- all samples fit below the limit
few_at_end : (factor most : ℕ) (form : SampleForm) (samples kept : List Sample) (count begun limit : ℕ) → AreKept most samples kept count →
    width form * count + begun ≤ limit → limit ≡ width form * (factor * most_samples) + 0 → length samples ≤ factor * most_samples
few_at_end factor most form samples kept count begun limit k few is =
    not_many factor form (length samples) begun (omega (arith, counted form most samples kept count k, few, is))

pub returns-in-Ok-eq0-clause-ok : goal.returns-in-Ok-eq0-clause-ok
returns-in-Ok-eq0-clause-ok g c = by_result c.enough.result c.enough.ensures.ok c.enough.ensures.least
  where
    none : take c.loop-front.begun c.loop-front.buffer ≡ []
    none = ap (λ n. take n c.loop-front.buffer) c.if-begun-eq0.true

    so : HasReadFrontOf c.args.form c.args.most c.loop-front.front.samples.items c.loop-front.front.count (take c.loop-front.begun c.loop-front.buffer) (g.S.Source.state c.args.source.now) (g.S.Source.state c.loop-front.source)
    so = c.loop-front.invariant.so_far

    few : length so.samples ≤ c.args.factor * most_samples
    few = few_at_end c.args.factor c.args.most c.args.form _ _ _ c.loop-front.begun _ so.are_kept c.loop-front.invariant.few c.bytes_read-limit.ensures

    by_result : (r : Result (Vec Sample Global) FileError) → IfOk r (λ front. front.items ≡ c.loop-front.front.samples.items) → IfOk r (λ front. c.args.factor * least_samples ≤ c.loop-front.front.count) →
        IfOk r (λ front. HasReadFrontAt c.args.factor c.args.form c.args.most front.items (g.S.Source.state c.args.source.now) (g.S.Source.state c.read_at.new.source))
    by_result (Ok front) same least = record {
      recording = so.samples;
      read = recorded_on _ _ _ _ _ _ _ _ _ so.read c.in-Ok-eq0.ensures.read c.in-Ok-eq0.field-0-test none few
          (subst (λ n. c.args.factor * least_samples ≤ n) so.are_kept.count_is least);
      front_is = same ∙ so.are_kept.kept_are;
    }
    by_result (Err e) same least = tt

pub returns-in-Ok-eq0-clause-too_short : goal.returns-in-Ok-eq0-clause-too_short
returns-in-Ok-eq0-clause-too_short g c = λ e.
    let so = c.loop-front.invariant.so_far in
    let none : take c.loop-front.begun c.loop-front.buffer ≡ [] = ap (λ n. take n c.loop-front.buffer) c.if-begun-eq0.true in
    let few = few_at_end c.args.factor c.args.most c.args.form _ _ _ c.loop-front.begun _ so.are_kept c.loop-front.invariant.few c.bytes_read-limit.ensures in
    let short : length so.samples < c.args.factor * least_samples = subst (λ n. n < c.args.factor * least_samples) so.are_kept.count_is (c.enough.ensures.few e) in
    short_on _ _ _ _ _ _ _ _ _ so.read c.in-Ok-eq0.ensures.read c.in-Ok-eq0.field-0-test none few short

pub returns-in-Ok-eq0-2-clause-ragged : goal.returns-in-Ok-eq0-2-clause-ragged
returns-in-Ok-eq0-2-clause-ragged g c = λ e.
    let so = c.loop-front.invariant.so_far in
    let size = begun_size _ _ _ c.loop-front.invariant.begun c.loop-front.invariant.whole in
    let count = counted c.args.form c.args.most so.samples c.loop-front.front.samples.items c.loop-front.front.count so.are_kept in
    ragged_on _ _ _ _ _ _ _ _ _ so.read c.in-Ok-eq0.ensures.read c.in-Ok-eq0.field-0-test
    (omega arith) (omega (arith, size, c.loop-front.invariant.begun)) (omega (arith, size, count, c.loop-front.invariant.few, c.bytes_read-limit.ensures))

pub returns-then-bytes_read-limit-clause-too_long : goal.returns-then-bytes_read-limit-clause-too_long
returns-then-bytes_read-limit-clause-too_long g c = λ e.
    let so = c.loop-front.invariant.so_far in
    let size = begun_size c.args.form c.in_ok-begun-in-Ok.begun c.take_front.new.buffer c.in_ok-begun-in-Ok.ensures.few
    (c.in_ok-begun-in-Ok.ensures.same_length ∙ c.in-Ok.ensures.same_length ∙ c.loop-front.invariant.whole) in
    let t = c.in_ok-begun-in-Ok.ensures.takes so.samples so.are_kept in
    let count = counted c.args.form c.args.most t.samples c.take_front.new.front.samples.items c.take_front.new.front.count t.are_kept in
    past_on _ _ _ _ _ _ (taken_on _ _ _ _ _ _ _ _ _ _ so.read c.in-Ok.ensures.read t.takes)
    (omega (arith, size, count, c.bytes_read.ensures, c.bytes_read-read.ensures, c.in_ok-begun-in-Ok.ensures.count, c.if-bytes_read-limit.true, c.bytes_read-limit.ensures, c.in-Ok.ensures.fits, c.min-end.ensures))

pub returns-in_err-begun-in-Ok-clause-memory : goal.returns-in_err-begun-in-Ok-clause-memory
returns-in_err-begun-in-Ok-clause-memory g c = λ e.
    let so = c.loop-front.invariant.so_far in
    let size = begun_size _ _ _ c.loop-front.invariant.begun c.loop-front.invariant.whole in
    let count = counted c.args.form c.args.most so.samples c.loop-front.front.samples.items c.loop-front.front.count so.are_kept in
    part_on _ _ _ _ _ _ _ _ _ so.read c.in-Ok.ensures.read
    (omega (arith, size, count, c.bytes_read-read.ensures, c.loop-front.invariant.few, c.bytes_read-limit.ensures, c.in-Ok.ensures.fits, c.min-end.ensures))

pub loop-front-preserved : goal.loop-front-preserved
loop-front-preserved g c =
    let so = c.loop-front.invariant.so_far in
    let t = c.in_ok-begun-in-Ok.ensures.takes so.samples so.are_kept in
    record {
      so_far = record {
        samples = t.samples;
        read = taken_on _ _ _ _ _ _ _ _ _ _ so.read c.in-Ok.ensures.read t.takes;
        are_kept = t.are_kept;
      };
      later = omega arith;
      few = omega (arith, c.bytes_read.ensures, c.if-bytes_read-limit.false);
      begun = c.in_ok-begun-in-Ok.ensures.few;
      whole = c.in_ok-begun-in-Ok.ensures.same_length ∙ c.in-Ok.ensures.same_length ∙ c.loop-front.invariant.whole;
    }
