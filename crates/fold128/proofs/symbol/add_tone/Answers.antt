use Rattle.std.proofs.Common.{arith, ◌≡◌, ℕ, ◌*◌, ◌%◌, ◌∙◌, ap, sym, List, length-set, get_or-set_other, slice_index_or}
use Rattle.std.proofs.lemmas.Nat.{mul-le}
use Rattle.finite.proofs.Lists.{set_more}
use Rattle.cs_num.specs.declared.Cpx.{Cpx}
use Rattle.cs_num.specs.Complex.{nothing, times, largest_part}
use Rattle.cs_num.proofs.Complex.{largest_part-le, times-within}
use Rattle.fold128.specs.declared.quartet.Quartet.{Quartet}
use Rattle.fold128.specs.Tables.{w_at}
use Rattle.fold128.specs.Folding.{added, empty_quartet}
use Rattle.fold128.proofs.Entries.{w_small}
use Rattle.fold128.proofs.Tones.{nothing_is, times-nothing, added-nothing}
use Rattle.fold128.proofs.symbol.add_tone.Goals as goal

-- a value of 0 contributes nothing
pub returns-then-value-eq0-2 : goal.returns-then-value-eq0-2
returns-then-value-eq0-2 c m inside =
    let e : c.args.value ≡ nothing = nothing_is c.args.value c.requires.value c.if-value-eq0.true c.if-value-eq0-2.true in
    sym (ap (added (slice_index_or c.args.parts.now m empty_quartet) (c.args.frequency % 4)) (ap (λ (z : Cpx). times z (w_at (c.args.frequency * m))) e ∙ times-nothing (w_at (c.args.frequency * m)))
    ∙ added-nothing (slice_index_or c.args.parts.now m empty_quartet) (c.args.frequency % 4))

pub mul-requires : goal.mul-requires
mul-requires c =
    let t = w_small (c.args.frequency * c.loop-m.m) in
    rw c.w.ensures (omega (arith, mul-le (largest_part c.args.value) (largest_part (w_at (c.args.frequency * c.loop-m.m))) 127 16384 (largest_part-le _ _ c.requires.value) (largest_part-le _ _ t)))

pub add-requires-clause-number : goal.add-requires-clause-number
add-requires-clause-number c =
    rw (c.mul.ensures, c.w.ensures) (times-within c.args.value (w_at (c.args.frequency * c.loop-m.m)) 127 16384 2080768 c.requires.value (w_small (c.args.frequency * c.loop-m.m)) (omega arith))

pub loop-m-preserved : goal.loop-m-preserved
loop-m-preserved c =
    let before : List Quartet = c.args.parts.now in
    let parts : List Quartet = c.loop-m.parts in
    let m : ℕ = c.loop-m.m in
    let f : ℕ = c.args.frequency in
    let given : ℕ → Quartet = λ j. added (slice_index_or before j empty_quartet) (f % 4) (times c.args.value (w_at (f * j))) in
    let here : c.add.new.self ≡ given m =
    c.add.ensures ∙ ap (λ (q : Quartet). added q (f % 4) c.mul.result) (c.loop-m.invariant.rest m (omega arith))
    ∙ ap (added (slice_index_or before m empty_quartet) (f % 4)) (c.mul.ensures ∙ ap (times c.args.value) c.w.ensures) in
    record {
      whole = length-set parts m _ ∙ c.loop-m.invariant.whole;
      done = set_more empty_quartet m given parts c.add.new.self (let long = c.loop-m.invariant.whole in omega (arith, long)) here c.loop-m.invariant.done;
      rest = λ j later. get_or-set_other parts m j c.add.new.self empty_quartet (λ e. absurd (omega (arith, e, later))) ∙ c.loop-m.invariant.rest j (omega (arith, later));
    }
