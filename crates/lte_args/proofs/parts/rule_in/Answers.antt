use Rattle.std.proofs.Common.{◌∙◌, refl, sym}
use Rattle.lte_args.specs.declared.form.Lists.TheVariants.{Of as ListOf, All as AllLists}
use Rattle.lte_args.specs.declared.form.Rule.TheVariants.{Of, Cancel, All}
use Rattle.lte_args.proofs.parts.rule_in.Goals as goal

pub returns-in_default-clause-unnamed : goal.returns-in_default-clause-unnamed
returns-in_default-clause-unnamed c none (Of carrier) rest is = c.lists_in-lists.ensures.unnamed (sym c.rule_of.ensures ∙ none) (ListOf carrier) rest is
returns-in_default-clause-unnamed c none Cancel rest is = absurd (c.in_default.ensures.none refl rest is)
returns-in_default-clause-unnamed c none All rest is = c.lists_in-lists.ensures.unnamed (sym c.rule_of.ensures ∙ none) AllLists rest is
