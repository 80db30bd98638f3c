use Rattle.std.proofs.Common.{◌≡◌, refl, sym, subst, ◌∙◌}
use Rattle.std.specs.Prelude.{OnOk, IfErr}
use Rattle.lte_args.specs.declared.form.Form.TheVariants.{Make, Print}
use Rattle.lte_top.specs.Making.{IsMadeText}
use Rattle.lte_top.specs.Pages.{page_text}
use Rattle.lte_top.specs.Run.{IsDone, Ends}
use Rattle.lte_top.proofs.Unread.{unread_done, unread_fault}
use Rattle.lte_top.proofs.top.run_form.Goals as goal

pub returns-in_ok-text-in-Make-clause-done : goal.returns-in_ok-text-in-Make-clause-done
returns-in_ok-text-in-Make-clause-done g c =
    let given = g.S.Source.state c.args.source.now in
    let before = g.K.Sink.state c.args.sink.now in
    let now = g.K.Sink.state c.write_output-in-Make.new.sink in
    let output = c.as_bytes-in-Make.result.now in
    let r = c.write_output-in-Make.result in
    let m : IsMadeText c.in-Make.carrier c.in-Make.n output = subst (IsMadeText c.in-Make.carrier c.in-Make.n) (sym c.as_bytes-in-Make.ensures.value) c.in_ok-text-in-Make.ensures in
    subst (λ form. OnOk r (IsDone form (given, before) (given, now))) (sym c.in-Make.is) (unread_done (Make c.in-Make.carrier c.in-Make.n) refl output m given r before now c.write_output-in-Make.ensures.ok)

pub returns-in_ok-text-in-Make-clause-ended : goal.returns-in_ok-text-in-Make-clause-ended
returns-in_ok-text-in-Make-clause-ended g c =
    let given = g.S.Source.state c.args.source.now in
    let before = g.K.Sink.state c.args.sink.now in
    let now = g.K.Sink.state c.write_output-in-Make.new.sink in
    let output = c.as_bytes-in-Make.result.now in
    let r = c.write_output-in-Make.result in
    let w = c.write_output-in-Make.ensures in
    let m : IsMadeText c.in-Make.carrier c.in-Make.n output = subst (IsMadeText c.in-Make.carrier c.in-Make.n) (sym c.as_bytes-in-Make.ensures.value) c.in_ok-text-in-Make.ensures in
    subst (λ form. IfErr r (Ends form (given, before) (given, now))) (sym c.in-Make.is) (unread_fault (Make c.in-Make.carrier c.in-Make.n) refl output m given r before now w.status w.front w.full w.fault)

pub returns-in_ok-text-in-Print-clause-done : goal.returns-in_ok-text-in-Print-clause-done
returns-in_ok-text-in-Print-clause-done g c =
    let given = g.S.Source.state c.args.source.now in
    let before = g.K.Sink.state c.args.sink.now in
    let now = g.K.Sink.state c.write_output-in-Print.new.sink in
    let output = c.as_bytes-in-Print.result.now in
    let r = c.write_output-in-Print.result in
    let p : output ≡ page_text c.in-Print.program c.in-Print.page = c.as_bytes-in-Print.ensures.value ∙ c.in_ok-text-in-Print.ensures in
    subst (λ form. OnOk r (IsDone form (given, before) (given, now))) (sym c.in-Print.is) (unread_done (Print c.in-Print.program c.in-Print.page) refl output p given r before now c.write_output-in-Print.ensures.ok)

pub returns-in_ok-text-in-Print-clause-ended : goal.returns-in_ok-text-in-Print-clause-ended
returns-in_ok-text-in-Print-clause-ended g c =
    let given = g.S.Source.state c.args.source.now in
    let before = g.K.Sink.state c.args.sink.now in
    let now = g.K.Sink.state c.write_output-in-Print.new.sink in
    let output = c.as_bytes-in-Print.result.now in
    let r = c.write_output-in-Print.result in
    let w = c.write_output-in-Print.ensures in
    let p : output ≡ page_text c.in-Print.program c.in-Print.page = c.as_bytes-in-Print.ensures.value ∙ c.in_ok-text-in-Print.ensures in
    subst (λ form. IfErr r (Ends form (given, before) (given, now))) (sym c.in-Print.is) (unread_fault (Print c.in-Print.program c.in-Print.page) refl output p given r before now w.status w.front w.full w.fault)
