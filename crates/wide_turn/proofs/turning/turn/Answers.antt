use Rattle.std.proofs.Common.{ℤ, arith, rules, ap, ◌∙◌, w16, FitsSigned}
use Rattle.std.proofs.lemmas.Int.{to_z-of_z}
use Rattle.std.proofs.lemmas.List.FromFn.{fill_by_all}
use Rattle.cs_num.specs.Complex.{silence, sample_at}
use Rattle.frequency_offset.specs.Turned.{turned_back}
use Rattle.wide_turn.specs.Turned.{angle}
use Rattle.wide_turn.proofs.turning.turn.Goals as goal

pub returns : goal.returns
returns c =
    let whole = c.loop-i.invariant.whole in
    let f : FitsSigned w16 c.args.m = search rules in
    let turn = to_z-of_z w16 c.args.m f in
    fill_by_all (λ k. turned_back (sample_at c.args.samples.now k) c.args.centre (angle c.args.rate c.args.m k)) c.loop-i.samples _ silence whole
    (λ k few. c.loop-i.invariant.done k (omega (arith, whole, few)) ∙ ap (λ (m : ℤ). turned_back (sample_at c.args.samples.now k) c.args.centre (angle c.args.rate m k)) turn)
