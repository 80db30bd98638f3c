use Rattle.std.proofs.Common.{rules, ◌∙◌, arith, ap, ap₂, sym, length, get_or, w64, FitsSigned}
use Rattle.std.proofs.lemmas.Int.{to_z-of_z}
use Rattle.cs_num.specs.Complex.{sample_at, silence}
use Rattle.finite.proofs.Lists.{values_below_at}
use Rattle.frequency_offset.specs.Turned.{turned_back, turned_at}
use Rattle.frequency_offset.proofs.TurnedSamples.{inside_is}
use Rattle.frequency_offset.proofs.at_turn.Turned.at.Goals as goal

pub offset_bounds-samples-i : goal.offset_bounds-samples-i
offset_bounds-samples-i c =
    let l = inside_is c.self.inside.samples.now c.args.self.now c.self.inside.turn c.args.i c.self.view_is c.requires in
    omega (arith, l, c.self.invariant.valid.most)

pub bounds-samples-i : goal.bounds-samples-i
bounds-samples-i c = inside_is c.self.inside.samples.now c.args.self.now c.self.inside.turn c.args.i c.self.view_is c.requires

pub angle-requires : goal.angle-requires
angle-requires c =
    let l = inside_is c.self.inside.samples.now c.args.self.now c.self.inside.turn c.args.i c.self.view_is c.requires in
    omega (arith, l, c.self.invariant.valid.most)

pub returns : goal.returns
unfolding turned_at
returns c =
    let s = c.self.inside.samples.now in
    let i = c.args.i in
    let l = inside_is s c.args.self.now c.self.inside.turn i c.self.view_is c.requires in
    let f : FitsSigned w64 c.angle.result = search rules in
    c.turned_back.ensures
    ∙ ap₂ (λ centre angle. turned_back (sample_at s i) centre angle) c.self.invariant.mean (to_z-of_z w64 c.angle.result f ∙ c.angle.ensures)
    ∙ sym (values_below_at (turned_at s c.self.inside.turn) (length s) i silence l)
    ∙ ap (λ xs. get_or xs i silence) c.self.view_is
