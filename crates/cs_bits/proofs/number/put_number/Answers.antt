use Rattle.std.proofs.Common.{ℕ, ◌-◌, ◌/◌, ◌^◌, false, length, arith, ◌∙◌, sym}
use Rattle.std.proofs.lemmas.List.FromFn.{fill_by_all}
use Rattle.finite.specs.Bits.{odd}
use Rattle.cs_bits.proofs.Numbers.{bits_of-values}
use Rattle.cs_bits.proofs.number.put_number.Goals as goal

pub returns : goal.returns
returns c =
    fill_by_all (λ (i : ℕ). odd (c.args.number / 2 ^ (length c.args.out.now - 1 - i))) c.loop-i.out (length c.args.out.now) false
    c.loop-i.invariant.size (λ k inside. c.loop-i.invariant.written k (omega arith))
    ∙ sym (bits_of-values (length c.args.out.now) c.args.number)
