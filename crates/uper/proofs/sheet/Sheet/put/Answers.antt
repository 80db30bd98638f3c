use Rattle.std.proofs.Common.{◌≡◌, cond, None, Some, ap, sym, ◌∙◌}
use Rattle.cs_bits.specs.Numbers.{bits_of}
use Rattle.cs_bits.proofs.Numbers.{length-bits_of}
use Rattle.uper.proofs.Putting.{full_put, room_put, puts_number}
use Rattle.uper.proofs.sheet.Sheet.put.Goals as goal

pub returns-then-self-clause-puts : goal.returns-then-self-clause-puts
returns-then-self-clause-puts c =
    let full : c.args.self.now ≡ None = sym c.self.view_is ∙ ap (λ b. cond b None (Some c.self.inside.bits)) c.if-self.true in
    puts_number c.args.width c.args.number c.args.self.now c.args.self.now c.requires.fits (full_put c.args.self.now (bits_of c.args.width c.args.number) full)

pub returns-clause-put : goal.returns-clause-put
returns-clause-put c =
    let is : c.args.self.now ≡ Some c.self.inside.bits = sym c.self.view_is ∙ ap (λ b. cond b None (Some c.self.inside.bits)) c.if-self.false in
    room_put c.args.self.now c.self.inside.bits (bits_of c.args.width c.args.number) c.put.new.self c.put.result c.args.width is c.put.ensures.room c.put.ensures.bits c.requires.some (length-bits_of c.args.width c.args.number)

pub returns-clause-puts : goal.returns-clause-puts
returns-clause-puts c = puts_number c.args.width c.args.number c.args.self.now _ c.requires.fits (returns-clause-put c)
