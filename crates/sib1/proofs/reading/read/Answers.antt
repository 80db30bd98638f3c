use Rattle.std.proofs.Common.{arith}
use Rattle.uper.proofs.Reading.{refused_inside}
use Rattle.uper.proofs.Fronts.{begins_with, refuses_at}
use Rattle.sib1.specs.Layout.{sib1}
use Rattle.sib1.proofs.Valid.{sib1_holds}
use Rattle.sib1.proofs.reading.read.Goals as goal

pub overflow_cast-result : goal.overflow_cast-result
overflow_cast-result c =
    let refused = refuses_at sib1 c.args.bits.now c.new-reader.result c.in-Err.place c.new-reader.ensures.bits c.new-reader.ensures.place c.in-Err.ensures in
    let inside = refused_inside sib1 c.args.bits.now c.in-Err.place refused in
    let few = c.requires in
    omega (arith, inside, few)

pub returns-in-Ok : goal.returns-in-Ok
returns-in-Ok c =
    let b = begins_with sib1 c.args.bits.now c.new-reader.result _ c.in-Ok.fields c.new-reader.ensures.bits c.new-reader.ensures.place c.in-Ok.ensures in
    record { answer = b; valid = sib1_holds b.text c.in-Ok.fields b.is_text }

pub returns-in-Err : goal.returns-in-Err
returns-in-Err c = record {
  answer = (c.is_sib1.ensures.is c.if-not-is_sib1.false, refuses_at sib1 c.args.bits.now c.new-reader.result c.in-Err.place c.new-reader.ensures.bits c.new-reader.ensures.place c.in-Err.ensures);
  valid = tt;
}
