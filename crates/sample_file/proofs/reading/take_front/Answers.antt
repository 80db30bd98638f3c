use Rattle.std.proofs.Common.{◌≡◌, ◌+◌, ◌-◌, ◌*◌, ◌/◌, ◌++◌, ℕ, length, take, min, arith, ap, ◌∙◌}
use Rattle.sample_file.specs.Recording.{width, samples_in}
use Rattle.sample_file.proofs.Keeping.{front_taken_on}
use Rattle.sample_file.proofs.reading.take_front.Goals as goal

nothing_more : (n : ℕ) → n + 0 ≡ n
nothing_more n = omega arith

pub returns-clause-takes : goal.returns-clause-takes
returns-clause-takes c = λ before kept.
    let form = c.args.form in
    let whole = c.args.end / c.width.result in
    let parts : whole ≡ c.args.end / width form = ap (λ m. c.args.end / m) c.width.ensures.value in
    let cut : c.bytes_read-taken.result ≡ width form * whole = c.bytes_read-taken.ensures ∙ nothing_more (width form * whole) in
    let len : c.len.result ≡ length c.args.front.now.samples.items = omega (arith, c.len.ensures, c.args.front.now.samples.ok) in
    let first : c.bytes_read.result ≡ width form * min whole (c.args.most - length c.args.front.now.samples.items) =
    c.bytes_read.ensures ∙ nothing_more (width form * c.min-kept.result) ∙ ap (λ m. width form * m) (c.min-kept.ensures ∙ ap (λ m. min whole (c.args.most - m)) len) in
    rw c.copy_within.ensures.after
    (front_taken_on form c.args.most c.args.end c.bytes_read-taken.result whole c.args.buffer.now before c.args.front.now.samples.items _ c.args.front.now.count
    c.requires.end parts cut kept (c.in_ok-append_samples.ensures ∙ ap (λ n. c.args.front.now.samples.items ++ samples_in form (take n c.args.buffer.now)) first))
