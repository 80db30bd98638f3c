use Rattle.std.proofs.Common.{◌≡◌, ◌∙◌, ◌++◌, arith, ap, length, take, drop, List}
use Rattle.std.proofs.Math.Seq.{take-append_seam}
use Rattle.cs_num.specs.declared.Sample.{Sample}
use Rattle.frequency_offset.proofs.at_turn.Turned.with_first.Goals as goal

pub returns-clause-value : goal.returns-clause-value
returns-clause-value c =
    let new = c.write.new.others in
    let rest = drop (length new) c.in_ok-samples.samples.items in
    let kept = c.write.ensures.length in
    let whole = c.deref_mut.ensures.len in
    let all : c.in_ok-samples.samples.len ≡ length new = omega (arith, kept, whole) in
    ap (λ (s : List Sample). take c.args.count s) (c.in-Some.ensures.value ∙ ap (λ n. take n (new ++ rest)) all ∙ take-append_seam new rest) ∙ c.write.ensures.value
