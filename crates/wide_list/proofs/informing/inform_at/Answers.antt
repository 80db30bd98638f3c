use Rattle.std.proofs.Common.{◌≡◌, ◌∙◌, true, false, List, get_or, ap, sym, subst}
use Rattle.lte_types.specs.declared.entry.Entry.{Entry}
use Rattle.wide_block.specs.Answer.{fields_in, bits_in}
use Rattle.wide_list.specs.declared.found.FoundCell.{FoundCell}
use Rattle.wide_list.specs.List.{cell_of, is_read_wide}
use Rattle.wide_list.specs.System.{IsWideSystem}
use Rattle.wide_list.specs.Bits.{AreSystemBits}
use Rattle.wide_list.proofs.Lists.{informs_read, informs_same, bits_read, bits_unread}
use Rattle.wide_list.proofs.informing.inform_at.Goals as goal

pub returns-in_ok-bits-in-Some-clause-informed : goal.returns-in_ok-bits-in-Some-clause-informed
returns-in_ok-bits-in-Some-clause-informed c =
    let carrier = c.args.carrier in
    let wide = c.args.wide.now in
    let list = c.args.list.now in
    let entry = c.index-slice-at.result in
    let is : entry ≡ get_or list c.args.at entry = c.index-slice-at.is ∙ ap (λ (list : List Entry). get_or list c.args.at entry) c.slice.ensures in
    let read : is_read_wide carrier wide.rate entry ≡ true = sym (c.in-Some.ensures.read ∙ ap (λ rate. is_read_wide carrier rate entry) c.rate.ensures.value) in
    let answer = fields_in c.in_ok-answer-in-Some.answer in
    let sib1 = c.fields_of.result in
    let system : IsWideSystem wide (cell_of entry) entry.start entry.sfn answer =
    subst (λ (found : FoundCell). IsWideSystem wide found.cell found.start found.sfn answer) c.in-Some.ensures.found c.in_ok-answer-in-Some.ensures.system in
    informs_read carrier wide c.args.at list c.set_system.new.self entry sib1 c.requires.at is read
    (subst (IsWideSystem wide (cell_of entry) entry.start entry.sfn) (sym c.fields_of.ensures) system) c.set_system.ensures

pub returns-in_ok-bits-in-Some-clause-bits : goal.returns-in_ok-bits-in-Some-clause-bits
returns-in_ok-bits-in-Some-clause-bits c =
    let carrier = c.args.carrier in
    let wide = c.args.wide.now in
    let list = c.args.list.now in
    let entry = c.index-slice-at.result in
    let is : entry ≡ get_or list c.args.at entry = c.index-slice-at.is ∙ ap (λ (list : List Entry). get_or list c.args.at entry) c.slice.ensures in
    let read : is_read_wide carrier wide.rate entry ≡ true = sym (c.in-Some.ensures.read ∙ ap (λ rate. is_read_wide carrier rate entry) c.rate.ensures.value) in
    let bits = bits_in c.in_ok-answer-in-Some.answer in
    let system : AreSystemBits wide (cell_of entry) entry.start entry.sfn bits =
    subst (λ (found : FoundCell). AreSystemBits wide found.cell found.start found.sfn bits) c.in-Some.ensures.found c.in_ok-answer-in-Some.ensures.bits in
    bits_read carrier wide c.args.at list entry _ c.requires.at is read (subst (AreSystemBits wide (cell_of entry) entry.start entry.sfn) (sym c.in_ok-bits-in-Some.ensures) system)

pub returns-in-None-clause-informed : goal.returns-in-None-clause-informed
returns-in-None-clause-informed c =
    let carrier = c.args.carrier in
    let wide = c.args.wide.now in
    let list = c.args.list.now in
    let entry = c.index-slice-at.result in
    let is : entry ≡ get_or list c.args.at entry = c.index-slice-at.is ∙ ap (λ (list : List Entry). get_or list c.args.at entry) c.slice.ensures in
    let not : is_read_wide carrier wide.rate entry ≡ false = sym (c.in-None.ensures.read ∙ ap (λ rate. is_read_wide carrier rate entry) c.rate.ensures.value) in
    informs_same carrier wide c.args.at list entry c.requires.at is not

pub returns-in-None-clause-bits : goal.returns-in-None-clause-bits
returns-in-None-clause-bits c =
    let carrier = c.args.carrier in
    let wide = c.args.wide.now in
    let list = c.args.list.now in
    let entry = c.index-slice-at.result in
    let is : entry ≡ get_or list c.args.at entry = c.index-slice-at.is ∙ ap (λ (list : List Entry). get_or list c.args.at entry) c.slice.ensures in
    let not : is_read_wide carrier wide.rate entry ≡ false = sym (c.in-None.ensures.read ∙ ap (λ rate. is_read_wide carrier rate entry) c.rate.ensures.value) in
    bits_unread carrier wide c.args.at list entry _ c.requires.at is not cc
