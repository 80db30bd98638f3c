use Rattle.std.proofs.Common.{◌≡◌, sym, ap, subst, ◌∙◌}
use Rattle.std.proofs.Math.Bool.{true≢false}
use Rattle.serde_json.specs.View.{view}
use Rattle.cell_json.specs.Reading.{refusal_of, IsValueOf, IsRefusedFor}
use Rattle.cell_json.proofs.Forms.{text_has_value, no_json}
use Rattle.cell_json.proofs.reading.read_by.Goals as goal

pub returns-in-Err-2 : goal.returns-in-Err-2
returns-in-Err-2 c =
    no_json c.args.carrier c.args.bytes.now
    (λ text. c.in-Err.ensures.err (λ memory. true≢false (sym (c.is_memory.ensures.1 memory) ∙ c.if-is_memory.false)) text)

pub returns-in-Ok-emission_of : goal.returns-in-Ok-emission_of
returns-in-Ok-emission_of c =
    let d = c.in-Some.description in
    let json = text_has_value c.args.bytes.now (view c.in-Ok.value) c.in-Ok.ensures.ok.0 c.in-Ok.ensures.ok.1 in
    let is : view d.value.now ≡ view c.in-Ok.value = ap view c.in-Some.ensures.0 in
    let read = subst (λ carrier. IsValueOf carrier (view d.value.now) c.in-Ok-emission_of.emission) c.in-Some.ensures.1 c.in-Ok-emission_of.ensures in
    let both = subst (λ value. IsValueOf c.args.carrier value c.in-Ok-emission_of.emission) is read in
    record {
      value = view c.in-Ok.value;
      json = json;
      valid = ap (refusal_of c.args.carrier) json ∙ both.0;
      is = both.1;
    }

pub returns : goal.returns
returns c =
    let d = c.in-Some.description in
    let json = text_has_value c.args.bytes.now (view c.in-Ok.value) c.in-Ok.ensures.ok.0 c.in-Ok.ensures.ok.1 in
    let refused = subst (λ carrier. IsRefusedFor carrier (view d.value.now) c.in-Err-emission_of.cause) c.in-Some.ensures.1 c.in-Err-emission_of.ensures in
    ap (refusal_of c.args.carrier) json ∙ subst (λ value. IsRefusedFor c.args.carrier value c.in-Err-emission_of.cause) (ap view c.in-Some.ensures.0) refused
