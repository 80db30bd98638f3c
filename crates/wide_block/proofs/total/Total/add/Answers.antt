use Rattle.std.proofs.Common.{◌*◌, List, ℤ, Option, All, IfSome, ap, subst, arith}
use Rattle.turbo_dec.specs.Decoder.{IsSmall}
use Rattle.wide_block.specs.Sums.{Adding}
use Rattle.wide_block.proofs.total.Total.add.Goals.{in-Some, in_default}
use Rattle.wide_block.proofs.total.Total.add.Goals as goal

pub invariant_of-self : goal.invariant_of-self
invariant_of-self c =
    let room = c.requires in
    let seen = ap (λ (a : Adding). a.count) c.self.view_is in
    elim c.match-offer.branch [
      | in-Some w ↦
          let small = subst (λ (sums : Option (List (List ℤ))). IfSome sums (All (All IsSmall))) w.in-Some.is c.offer.invariant in
          let sums = w.plus-self-inside.ensures.magnitudes (c.self.inside.count * 4096) 4096 c.self.invariant.1 small in
          rw w.self-inside-is (omega (arith, room, seen), λ k d l j e m. let h = sums k d l j e m in omega (arith, h))
      | in_default w ↦ rw w.self-inside-is (omega (arith, room, seen), λ k d l j e m. let h = c.self.invariant.1 k d l j e m in omega (arith, h))
    ]
