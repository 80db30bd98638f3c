use Rattle.std.proofs.Common.{List, subst, string_bytes}
use Rattle.std.proofs.lemmas.Result.{IfOk-weaker}
use Rattle.lte_types.specs.declared.entry.Entry.{Entry}
use Rattle.lte_top.specs.Making.{IsMadeOutput, IsMadeText}
use Rattle.lte_top.proofs.making.made_text.Goals as goal

pub returns : goal.returns
returns c =
    IfOk-weaker c.text_of_sent.result
    (λ text. IsMadeOutput c.sent_cell.result c.slice.result.now (string_bytes text))
    (λ text. IsMadeText c.args.carrier c.args.n (string_bytes text))
    (λ text decodes. record {
      made = c.in_ok-made.made;
      is = c.in_ok-made.ensures.made;
      entries = c.in_ok-list.list;
      listed = c.in_ok-list.ensures;
      decodes = subst (λ cell. IsMadeOutput cell c.in_ok-list.list (string_bytes text)) c.sent_cell.ensures
          (subst (λ (entries : List Entry). IsMadeOutput c.sent_cell.result entries (string_bytes text)) c.slice.ensures decodes);
    })
    c.text_of_sent.ensures
