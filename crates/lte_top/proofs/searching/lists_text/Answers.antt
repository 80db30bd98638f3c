use Rattle.lte_top.proofs.searching.lists_text.Goals as goal

pub returns-in-Text : goal.returns-in-Text
returns-in-Text c of are = rw c.in-Text.is (c.text_of_all.ensures of are)
